pub mod Names
pub mod Arrays
pub mod Laws
