use Rattle.std.proofs.Common.{sym, ◌∙◌, arith}
use Rattle.ot_show_c.proofs.ArrayLemmas.{one_less, none_less, none_left}
use Rattle.ot_show_c.proofs.array.up_to_last.Goals as goal
use Rattle.ot_show_c.proofs.array.up_to_last.Goals.{then-loop-len-test+else-numbers-len-eq0, else-loop-len-test}

pub loop-len-preserved : goal.loop-len-preserved
loop-len-preserved c = (omega arith, one_less c.args.numbers.now c.loop-len.len 0 c.loop-len-test.true c.loop-len.invariant.0 c.if-numbers-len-eq0.true ∙ c.loop-len.invariant.1)

pub returns : goal.returns
returns c = elim c.loop-len-test.branch [
  | then-loop-len-test+else-numbers-len-eq0 w ↦ sym (none_less c.args.numbers.now c.loop-len.len 0 w.loop-len-test.true c.loop-len.invariant.0 w.if-numbers-len-eq0.false) ∙ c.loop-len.invariant.1
  | else-loop-len-test w ↦ sym (none_left c.args.numbers.now c.loop-len.len w.loop-len-test.false) ∙ c.loop-len.invariant.1
]
