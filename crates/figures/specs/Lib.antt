pub mod Jobs
pub mod Filled
