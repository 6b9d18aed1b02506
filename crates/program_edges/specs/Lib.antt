pub mod ErrorLines
pub mod Inputs
pub mod Texts
