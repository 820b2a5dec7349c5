pub mod Whys
pub mod Walk
pub mod Laws
