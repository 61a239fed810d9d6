pub mod Divided
pub mod Capped
