pub mod Signed
pub mod Run
