pub mod Clock
pub mod ClockMoved
pub mod ItemTasks
pub mod Offsets
pub mod Settles
pub mod SweepSteps
pub mod Walk
pub mod WalkItems
pub mod WholeSweep
pub mod Window
mod Worked
