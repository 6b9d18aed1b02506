pub mod Lanes
pub mod Lines
pub mod BarsMore
pub mod Drawn
pub mod Taken
pub mod Answered
pub mod Words
