-- what callers read
pub mod Members
-- what only this crate knows
pub mod Listed
pub mod RosterView
