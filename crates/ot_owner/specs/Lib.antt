pub mod Lending
pub mod Owning
pub mod Worth
pub mod Keeping
pub mod Laws
pub mod Kept
