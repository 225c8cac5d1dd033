pub mod Refused
pub mod Early
pub mod Desks
pub mod Lists
pub mod Plans
