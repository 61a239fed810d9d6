pub mod Offsets
pub mod RowConstants
pub mod Extremes
