use Rattle.std.proofs.Common.{◌≡◌, ℕ, ◌+◌, ◌≤◌, cond}
use Rattle.std.specs.Prelude.{Some}
use Rattle.ot_c_overlap.specs.Claims.{claimed_section}
use Rattle.ot_c_overlap.proofs.ClaimLemmas.{is_upto}
use Rattle.ot_c_overlap.proofs.claims.Claims.enter.Given as goal

-- the cells so far are claimed
abbrev pub invariant-loop-index : goal.invariant-loop-index
invariant-loop-index l =
    (l.index ≤ l.item.section.start + l.item.section.len)
    × (l.item.section.start ≤ l.index)
    × ((parent array index : ℕ) → claimed_section l.self parent array index
    ≡ cond (is_upto l.item l.index parent array index) (Some l.item.section) (claimed_section l.initial.self parent array index))
