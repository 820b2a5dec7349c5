pub mod Created
pub mod Links
pub mod Passing
pub mod Children
pub mod Graphs
pub mod Dot
pub mod Drawn
pub mod Written
