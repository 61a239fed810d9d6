pub mod Moves
pub mod Reading
pub mod Layout
pub mod Choices
pub mod WalkFits
