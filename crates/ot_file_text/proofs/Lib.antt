pub mod ScanLemmas
pub mod PositionLemmas
pub mod LawLemmas
