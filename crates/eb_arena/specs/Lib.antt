pub mod Halves
pub mod Laws
pub mod LinkNumbers
pub mod Links
pub mod Parts
pub mod Shape
pub mod Way
