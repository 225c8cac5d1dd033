pub mod Column
pub mod Laws
