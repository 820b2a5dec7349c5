use Rattle.std.proofs.Common.{◌≡◌, ◌⊎◌, ℕ, Some, Contains}
use Rattle.slab.specs.Slab.{get}
use Rattle.ot_model.specs.Cells.{Conflict}
use Rattle.ot_owner.specs.Owning.{Loan}
use Rattle.ot_owner.proofs.rights.Rights.is_free_for.Given as goal

-- each right conflicts with none of the uses, or is among those that are left; and each of those is out
abbrev pub invariant-loop-key : goal.invariant-loop-key
invariant-loop-key l =
    (goal.iterator-loop-key).can_next l._key-iterator ×
    (goal.iterator-loop-key).is_finite l._key-iterator ×
    ((key : ℕ) (right : Loan) → get l.self.loans key ≡ Some right → (¬ Conflict right.lease.uses l.decl) ⊎ Contains l._key-iterator (key, right)) ×
    ((key : ℕ) (right : Loan) → Contains l._key-iterator (key, right) → get l.self.loans key ≡ Some right)
