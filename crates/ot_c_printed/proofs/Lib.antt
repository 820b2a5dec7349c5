pub mod ApartLemmas
pub mod RegionLemmas
pub mod ArrayLemmas
pub mod PrintedLemmas
