use Rattle.std.proofs.Common.{◌≡◌, ◌∙◌, sym, ap}
use Rattle.ot_race.specs.Events.{Begins}
use Rattle.ot_race.specs.View.{deed_of}
use Rattle.ot_race_order.specs.Instead.{instead}
use Rattle.ot_race_order.specs.Orders.{deed_in_c}
use Rattle.ot_race_order.proofs.AlikeLemmas.{stands_for}
use Rattle.ot_race_order.proofs.judging.deed_in_c.Goals as goal

pub returns-in-Begins : goal.returns-in-Begins
returns-in-Begins c =
    let is : deed_of c.args.deed ≡ Begins c.in-Begins.parent c.in-Begins.decl.now = ap deed_of c.in-Begins.is in
    ap (Begins c.in-Begins.parent) (c.kept_of.ensures ∙ stands_for c.in-Begins.parent c.args.own.now c.in-Begins.decl.now (c.requires ∙ ap instead is))
    ∙ sym (ap deed_in_c is)
