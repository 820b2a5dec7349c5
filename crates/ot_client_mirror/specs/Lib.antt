pub mod Mirrors
pub mod HeardView
pub mod Given
