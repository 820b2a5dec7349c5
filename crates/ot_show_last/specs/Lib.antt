pub mod LastRuns
pub mod Going
