use Rattle.std.proofs.Common.{ℕ, ◌≤◌, ◌<◌}
use Rattle.ot_c_overlap.specs.Claims.{DiffersAt}
use Rattle.ot_c_overlap.proofs.claims.Claims.clashes.Given as goal

-- no other section claims the cells so far
abbrev pub invariant-loop-index : goal.invariant-loop-index
invariant-loop-index l = (l.item.section.start ≤ l.index) × ((k : ℕ) → l.item.section.start ≤ k → k < l.index → DiffersAt l.self l.item k → ⊥)
