use Rattle.ot_sets.proofs.Taking.{AreTaken}
use Rattle.ot_sets.proofs.numbers.Numbers.take_out.Given as goal

abbrev pub invariant-loop-place : goal.invariant-loop-place
invariant-loop-place l = AreTaken l.fn.self.words.items l.other.words.items l.self.words.items l.place
