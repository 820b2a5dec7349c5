use Rattle.std.proofs.Common.{arith}
use Rattle.ot_sets.proofs.Taking.{taken, taken-past}
use Rattle.ot_sets.proofs.numbers.Numbers.take_bits.Goals as goal

pub returns-then-place-len : goal.returns-then-place-len
returns-then-place-len c = λ k.
    taken c.args.self.now.words.items c.args.place c.index_mut.result.now c.args.bits k
    (omega (arith, c.len.ensures, c.if-place-len.true, c.args.self.now.words.ok.0)) c.index_mut.ensures.value c.ranges.bits.fits

pub returns-else-place-len : goal.returns-else-place-len
returns-else-place-len c = λ k. taken-past c.args.self.now.words.items c.args.place c.args.bits k (omega (arith, c.len.ensures, c.if-place-len.false, c.args.self.now.words.ok.0))
