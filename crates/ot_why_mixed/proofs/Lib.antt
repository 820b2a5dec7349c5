pub mod InLemmas
pub mod SweepLemmas
pub mod CellLemmas
pub mod ClauseLemmas
pub mod RowLemmas
