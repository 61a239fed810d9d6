pub mod Table
pub mod Filling
