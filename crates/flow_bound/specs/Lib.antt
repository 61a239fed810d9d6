pub mod Bound
pub mod Inner
