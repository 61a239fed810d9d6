pub mod Words
pub mod Says
pub mod Way
pub mod Reading
pub mod ReachedPlaces
pub mod PassInvariant
pub mod Filling
