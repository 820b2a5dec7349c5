use Rattle.ot_book.proofs.KeptLemmas.{AreSameFrom}
use Rattle.ot_book.proofs.kept.same_arrays.Given as goal

abbrev pub invariant-loop-i : goal.invariant-loop-i
invariant-loop-i l = AreSameFrom l.one l.other l.i
