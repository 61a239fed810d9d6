pub mod Keys
pub mod Places
pub mod Entries
pub mod Ranks
pub mod Filling
pub mod Looked
