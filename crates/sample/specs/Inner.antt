pub mod Picking
pub mod Steps
pub mod Sampling
