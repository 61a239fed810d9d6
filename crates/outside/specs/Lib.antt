pub mod Outside
pub mod Inner
