use Rattle.std.proofs.Common.{drop, arith}
use Rattle.std.proofs.lemmas.List.{drop_all}
use Rattle.ot_program.proofs.CellLists.{all_uses_in_order}
use Rattle.ot_program.proofs.declaration.uses_of.Goals as goal

pub returns-clause-ordered : goal.returns-clause-ordered
returns-clause-ordered c =
    let items = c.deref-one-items.result.now in
    all_uses_in_order c.args.named.now.items (drop c.loop-one.one-index items) c.loop-one.uses.items c.requires
    (drop_all c.loop-one.one-index items (omega (arith, c.loop-one-test.false))) c.loop-one.invariant
