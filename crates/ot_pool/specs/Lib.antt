pub mod Tickets
pub mod Shared
pub mod Rounds
