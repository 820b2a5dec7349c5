use Rattle.std.proofs.Common.{◌∙◌, ap, subst}
use Rattle.ot_race_order.specs.Orders.{ordered_by}
use Rattle.ot_race.specs.Races.{NothingRaces, TellsFirst}
use Rattle.ot_race.specs.View.{events_in}
use Rattle.ot_exec_outline.specs.View.{noted_in}
use Rattle.ot_exec_outline.proofs.ways.told_on.Goals as goal

pub returns : goal.returns
returns g c =
    let order = c.args.order in
    let es = events_in c.in_ok-events.events.items in
    let none : NothingRaces (ordered_by order es) = subst (TellsFirst (ordered_by order es)) c.in-None.is c.in_ok-race.ensures in
    let same = c.in_ok-events.ensures.events ∙ ap noted_in c.deref.ensures.value ∙ c.requires.events in
    subst (λ es. NothingRaces (ordered_by order es)) same none
