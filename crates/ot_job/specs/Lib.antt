-- what callers read
pub mod Dealings
pub mod Left
pub mod Numbered
pub mod Whole
pub mod Claiming
pub mod Taken
pub mod Holding
pub mod Opening
pub mod Moves
pub mod Kept
-- what only this crate knows
pub mod JobView
pub mod Awaiting
pub mod Sound
pub mod Running
pub mod Opened
pub mod Calls
pub mod Well
pub mod Rights
pub mod Listing
