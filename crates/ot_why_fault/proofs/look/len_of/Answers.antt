use Rattle.std.proofs.Common.{sym, ◌∙◌}
use Rattle.ot_why_fault.proofs.PartLemmas.{find_here}
use Rattle.ot_why_fault.proofs.look.len_of.Goals as goal

pub returns-then-eq : goal.returns-then-eq
returns-then-eq c =
    find_here c.args.name.now c.args.arrays.now _ _ c.loop-array-test.true c.array-item.is
    (rw (← c.as_str.ensures.value) (sym c.eq.ensures ∙ c.if-eq.true)) c.loop-array.invariant
