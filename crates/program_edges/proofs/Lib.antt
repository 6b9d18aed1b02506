pub mod InputParts
pub mod Joined
