pub mod FoundLemmas
pub mod TouchLemmas
pub mod CountLemmas
