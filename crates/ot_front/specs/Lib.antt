pub mod Desks
pub mod FirstLines
pub mod Greetings
pub mod Racks
