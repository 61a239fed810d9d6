pub mod Digits
pub mod Pattern
pub mod Position
pub mod Span
