pub mod Passes
pub mod Way
pub mod Table
