pub mod Index
pub mod Way
pub mod Marks
pub mod Entries
pub mod Columns
