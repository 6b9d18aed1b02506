pub mod Added
pub mod Cost
pub mod Grown
pub mod Spine
