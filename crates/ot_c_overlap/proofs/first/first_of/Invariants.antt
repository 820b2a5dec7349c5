use Rattle.ot_c_overlap.specs.Claims.{AreClaims}
use Rattle.ot_c_overlap.proofs.first.first_of.Given as goal

abbrev pub invariant-loop-item : goal.invariant-loop-item
invariant-loop-item l = AreClaims l.items l.item-index l.claims
