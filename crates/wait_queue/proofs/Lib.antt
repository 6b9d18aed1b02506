pub mod Beside
pub mod Early
pub mod FirstItem
pub mod FirstMoved
pub mod Meaning
pub mod Settling
pub mod SoFar
pub mod Whole
