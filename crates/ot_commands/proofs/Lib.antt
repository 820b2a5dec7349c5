pub mod Added
pub mod Known
pub mod Numbers
