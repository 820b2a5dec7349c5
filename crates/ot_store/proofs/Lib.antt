pub mod ArraysLemmas
mod CallLemmas
mod HeldLemmas
mod RefillLemmas
