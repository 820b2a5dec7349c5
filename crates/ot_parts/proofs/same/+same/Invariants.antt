use Rattle.ot_parts.proofs.SamePartLemmas.{Suffice}
use Rattle.ot_parts.proofs.same.+same.Given as goal

-- those that are left suffice
abbrev pub invariant-same_parts-loop-i : goal.invariant-same_parts-loop-i
invariant-same_parts-loop-i l = Suffice l.ones.items l.twos.items l.i
