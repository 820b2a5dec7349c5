use Rattle.std.proofs.Common.{◌∙◌, sym, ap, subst}
use Rattle.std.proofs.lemmas.List.{take_all}
use Rattle.ot_model.specs.Cells.{AreInOrder}
use Rattle.ot_race_order.specs.Orders.{depend_of}
use Rattle.ot_race_order.proofs.DependLemmas.{depend_in_order}
use Rattle.ot_race_order.proofs.depends.depend_of.Goals as goal

pub new-requires : goal.new-requires
new-requires c =
    let us = c.uses-used-items.result.now in
    subst AreInOrder (sym (c.loop-used.invariant ∙ ap depend_of (take_all c.loop-used.used-index us c.loop-used-test.false)))
    (depend_in_order us (subst AreInOrder (sym c.uses-used-items.ensures.uses) c.uses-used-items.ensures.ordered))
