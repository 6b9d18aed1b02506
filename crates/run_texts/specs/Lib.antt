pub mod RunLines
pub mod RunText
pub mod Front
pub mod Laws
