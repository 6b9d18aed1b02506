pub mod Callers
pub mod Drawn
pub mod Pairs
