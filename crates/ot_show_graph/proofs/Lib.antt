pub mod LinkLemmas
pub mod RunLemmas
pub mod RowLemmas
pub mod LabelLemmas
pub mod DotLemmas
pub mod PassedLemmas
pub mod UnawaitedLemmas
