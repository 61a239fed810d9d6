pub mod Lists
pub mod Integers
pub mod View
pub mod Marks
pub mod Runs
