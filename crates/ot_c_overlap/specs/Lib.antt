pub mod Items
pub mod Overlaps
pub mod View
pub mod Claims
pub mod Named
