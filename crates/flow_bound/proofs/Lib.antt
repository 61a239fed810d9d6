pub mod Bounded
pub mod CapLaws
pub mod Factors
