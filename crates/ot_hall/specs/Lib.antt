pub mod Marking
pub mod Floors
pub mod Lending
pub mod FloorView
pub mod Index
pub mod Lively
