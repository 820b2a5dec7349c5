use Rattle.std.proofs.Common.{arith}
use Rattle.ot_hall.proofs.MarkLemmas.{none-from, lowest-from}
use Rattle.ot_hall.proofs.marks.lowest_from.Goals as goal

pub returns-then-ahead-eq0 : goal.returns-then-ahead-eq0
returns-then-ahead-eq0 c = none-from c.args.word c.args.from c.requires c.if-ahead-eq0.true

pub returns : goal.returns
returns c = lowest-from c.args.word c.args.from c.ranges.word.fits c.requires (omega (arith, c.if-ahead-eq0.false))
