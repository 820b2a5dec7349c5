pub mod Equal
pub mod Joining
pub mod Taking
pub mod Words
pub mod Cited
