use Rattle.std.proofs.Common.{List, ap, subst, ◌∙◌}
use Rattle.std.specs.Prelude.{IfOk}
use Rattle.ot_race.specs.Events as s
use Rattle.ot_race.specs.View.{events_in}
use Rattle.ot_race.specs.declared.event.Event.{Event}
use Rattle.ot_race_locks.specs.OpenRaces.{TellsApart}
use Rattle.ot_race_order.proofs.apart.judge_apart_by.Goals as goal

pub returns-in-OfLanguage : goal.returns-in-OfLanguage
returns-in-OfLanguage c =
    rw c.in-OfLanguage.is
    (subst (λ (es : List Event). IfOk c.judge_apart.result (TellsApart (events_in es) c.args.locks.now)) c.deref.ensures.value c.judge_apart.ensures)

pub returns-in-OfC : goal.returns-in-OfC
returns-in-OfC c = rw c.in-OfC.is c.apart_in_c.ensures

pub returns-in-OfCByPointers : goal.returns-in-OfCByPointers
returns-in-OfCByPointers c =
    rw c.in-OfCByPointers.is
    (subst (λ (es : List s.Event). IfOk c.judge_apart-in-OfCByPointers.result (TellsApart es c.args.locks.now))
    (ap events_in c.deref-in-OfCByPointers.ensures.value ∙ c.events_by_pointers.ensures) c.judge_apart-in-OfCByPointers.ensures)
