pub mod Graph
pub mod Table
