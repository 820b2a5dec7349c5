use Rattle.ot_hall.proofs.MarkLemmas.{IsLookedAt}
use Rattle.ot_hall.proofs.marks.Marks.first_from.Given as goal

abbrev pub invariant-loop-place : goal.invariant-loop-place
invariant-loop-place l = IsLookedAt l.self-inside.words.items l.from l.next l.place
