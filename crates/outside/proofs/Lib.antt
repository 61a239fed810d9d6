pub mod Rows
pub mod Listed
pub mod Kept
pub mod Own
pub mod Census
pub mod Dropped
