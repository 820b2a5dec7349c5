use Rattle.std.proofs.Common.{List, ap, subst, ◌∙◌}
use Rattle.std.specs.Prelude.{IfOk}
use Rattle.ot_race.specs.Events as s
use Rattle.ot_race.specs.View.{events_in}
use Rattle.ot_race.specs.declared.event.Event.{Event}
use Rattle.ot_race_all.specs.AllRaces.{TellsAll}
use Rattle.ot_race_order.proofs.listing.races_by.Goals as goal

pub returns-in-OfLanguage : goal.returns-in-OfLanguage
returns-in-OfLanguage c =
    rw c.in-OfLanguage.is
    (subst (λ (es : List Event). IfOk c.all_races.result (TellsAll (events_in es) c.args.most)) c.deref.ensures.value c.all_races.ensures)

pub returns-in-OfC : goal.returns-in-OfC
returns-in-OfC c = rw c.in-OfC.is c.races_in_c.ensures

pub returns-in-OfCByPointers : goal.returns-in-OfCByPointers
returns-in-OfCByPointers c =
    rw c.in-OfCByPointers.is
    (subst (λ (es : List s.Event). IfOk c.all_races-in-OfCByPointers.result (TellsAll es c.args.most))
    (ap events_in c.deref-in-OfCByPointers.ensures.value ∙ c.events_by_pointers.ensures) c.all_races-in-OfCByPointers.ensures)
