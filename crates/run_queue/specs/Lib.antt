pub mod Laws
pub mod Runners
