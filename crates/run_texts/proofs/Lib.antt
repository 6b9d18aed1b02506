pub mod Pieces
pub mod RunsAgain
pub mod Fronts
