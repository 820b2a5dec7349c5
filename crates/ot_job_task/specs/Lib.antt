-- what callers read
pub mod Regions
pub mod Pieces
pub mod Touched
pub mod Copies
-- what only this crate and ot_job know
pub mod Assigns
-- what only this crate knows
pub mod RegionView
pub mod Deeds
