pub mod Offences
pub mod Discipline
pub mod Jobs
pub mod walk
pub mod Laws
