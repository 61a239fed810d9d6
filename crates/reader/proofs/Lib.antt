pub mod LineLaws
pub mod HeadLaws
pub mod TargetLaws
pub mod FlowLaws
