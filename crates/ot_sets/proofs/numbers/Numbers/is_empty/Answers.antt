use Rattle.std.proofs.Common.{arith}
use Rattle.ot_sets.proofs.Words.{bit-there}
use Rattle.ot_sets.proofs.numbers.Numbers.is_empty.Goals as goal

pub returns-then-word-ne0-clause-some : goal.returns-then-word-ne0-clause-some
returns-then-word-ne0-clause-some c = λ e.
    bit-there c.args.self.now.words.items c.loop-place.place c.word.result c.word.ensures (omega (arith, c.word.type_inv)) c.if-word-ne0.true
