pub mod Orders
pub mod Instead
pub mod Laws
