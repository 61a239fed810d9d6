pub mod Language
pub mod Machine
pub mod Distance
pub mod Pattern
pub mod Configuration
pub mod Sample
pub mod Tapes
pub mod Inner
