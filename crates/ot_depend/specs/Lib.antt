pub mod Siblings
pub mod View
pub mod Laws
pub mod Kept
pub mod Children
pub mod Groups
pub mod Places
pub mod Cells
