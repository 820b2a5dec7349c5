pub mod EachLemmas
pub mod PointerLemmas
