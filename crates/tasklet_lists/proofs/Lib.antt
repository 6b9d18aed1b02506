pub mod Chains
pub mod Few
pub mod Four
pub mod Shares
