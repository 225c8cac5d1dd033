pub mod Shares
pub mod Writing
pub mod Calls
