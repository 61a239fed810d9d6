pub mod Bytes
pub mod Split
pub mod Number
pub mod Write
pub mod Inner
