-- The lemmas that the crates above cite, passed on from one place. Declares nothing.
pub use Rattle.ot_sets.proofs.Joining.{or-one}
pub use Rattle.ot_sets.proofs.Words.{bit_here, common-at, common-found}
