pub mod Known
pub mod Ways
pub mod Naming
pub mod Verdicts
pub mod Numbered
pub mod Straight
pub mod Laws
