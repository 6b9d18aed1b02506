pub mod Landing
pub mod Planted
pub mod Removal
pub mod Forest
