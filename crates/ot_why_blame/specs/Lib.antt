pub mod Races
pub mod Words
pub mod Walk
