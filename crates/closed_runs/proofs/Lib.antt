pub mod Scripts
pub mod Inward
pub mod Apart
pub mod Rounds
pub mod Runs
pub mod Counts
