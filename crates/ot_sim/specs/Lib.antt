pub mod Lines
pub mod Playing
pub mod Talk
pub mod Running
