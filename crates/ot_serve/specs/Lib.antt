pub mod Serving
pub mod Starting
