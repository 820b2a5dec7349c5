pub mod Lines
pub mod Reading
pub mod LinesView
pub mod Goodbyes
pub mod Cutting
