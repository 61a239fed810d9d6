pub mod Filling
pub mod Tallies
pub mod Shapes
pub mod Patterns
