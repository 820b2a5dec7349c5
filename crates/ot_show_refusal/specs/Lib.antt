pub mod Stands
pub mod StandView
pub mod Marked
pub mod MarkedView
pub mod Drawn
