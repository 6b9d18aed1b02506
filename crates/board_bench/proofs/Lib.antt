pub mod Callers
pub mod OneTask
pub mod Pairs
