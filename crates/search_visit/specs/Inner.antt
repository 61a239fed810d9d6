pub mod Fan
pub mod Visit
