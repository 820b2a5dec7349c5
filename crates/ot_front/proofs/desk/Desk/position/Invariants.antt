use Rattle.std.proofs.Common.{◌≡◌, ℕ, ◌<◌, get_or}
use Rattle.std.specs.Prelude.{string_bytes}
use Rattle.ot_front.proofs.desk.Desk.position.Given as goal

-- the name stands at no place before
abbrev pub invariant-loop-at : goal.invariant-loop-at
invariant-loop-at l = (k : ℕ) (d : _) → k < l.at → string_bytes (get_or l.known-items k d) ≡ l.name → ⊥
