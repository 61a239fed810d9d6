pub mod Graph
pub mod Place
pub mod Step
pub mod Op
pub mod Prepare
pub mod Fits
