pub mod Floors
pub mod SharedBoxes
pub mod Injections
pub mod Watching
pub mod Verdicts
