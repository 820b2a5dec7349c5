pub mod OpenRaces
pub mod Kinds
