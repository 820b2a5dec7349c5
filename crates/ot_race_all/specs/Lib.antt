pub mod AllRaces
pub mod Found
