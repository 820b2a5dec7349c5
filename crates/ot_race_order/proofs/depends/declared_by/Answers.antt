use Rattle.std.proofs.Common.{◌∙◌, ap, map}
use Rattle.std.proofs.lemmas.List.{take_all}
use Rattle.ot_race.specs.View.{deed_of}
use Rattle.ot_race.specs.declared.event.Event.{Event}
use Rattle.ot_race_order.specs.Instead.{instead}
use Rattle.ot_race_order.proofs.EventLemmas.{declared_all}
use Rattle.ot_race_order.proofs.depends.declared_by.Goals as goal

pub returns : goal.returns
returns c =
    let events = c.args.events.now in
    c.loop-event.invariant ∙ ap (map (λ (e : Event). instead (deed_of e.deed))) (take_all c.loop-event.event-index events c.loop-event-test.false) ∙ declared_all events
