use Rattle.std.proofs.Common.{◌∙◌, sym, ap, subst, inl, List, Bool}
use Rattle.ot_race_order.specs.Orders.{ordered_by}
use Rattle.ot_race_order.specs.declared.order.Order.TheVariants.{OfC}
use Rattle.ot_exec_machine.specs.Runs.{run_of, run_events_of, asked_in}
use Rattle.ot_exec_outline.specs.Followed.{list_answer}
use Rattle.ot_exec_outline.specs.Ways.{endings, TellsOf, RacesOnNone}
use Rattle.ot_race.specs.Races.{IsFirstRace}
use Rattle.std.specs.Prelude.{Ok}
use Rattle.ot_exec_verdict.specs.Findings.{IsFault}
use Rattle.ot_exec_verdict.proofs.FindingLemmas.{on_way}
use Rattle.ot_exec_verdict.proofs.ways.ways_of.Goals as goal

pub returns-in-RacesOn : goal.returns-in-RacesOn
returns-in-RacesOn c =
    let code = c.args.code.now in
    let l = c.args.limits in
    let race = c.in-RacesOn.race in
    let told = subst (TellsOf OfC (λ p. run_events_of (run_of code l p)) (endings (λ p. asked_in (run_of code l p)) 12 c.deref.result.now) c.args.budget.now c.race_of.new.budget)
    c.in-RacesOn.is c.in_ok-answers.ensures.told in
    let first = subst (λ (given : List Bool). IsFirstRace (ordered_by OfC (run_events_of (run_of code l (list_answer given)))) race.cell race.place race.later)
    (sym c.deref-in-RacesOn.ensures.value) told.1 in
    record {
      answers = c.deref-in-RacesOn.result.now;
      is = c.in_ok-run-in-RacesOn.ensures.told;
      first = inl (on_way code l c.deref-in-RacesOn.result.now c.in_ok-run-in-RacesOn.run' race c.in_ok-run-in-RacesOn.ensures.told first);
    }

pub returns-in-Some : goal.returns-in-Some
returns-in-Some c = subst (IsFault c.args.code.now c.args.limits) c.in-Some.is c.in_ok-fault-in-RacesNowhere.ensures

pub returns-in-RacesNowhere : goal.returns-in-RacesNowhere
returns-in-RacesNowhere c =
    let code = c.args.code.now in
    let l = c.args.limits in
    subst (RacesOnNone OfC (λ p. run_events_of (run_of code l p))) (c.deref.ensures.value ∙ c.new-none.ensures.items) (c.in_ok-answers.ensures.nowhere (ap Ok c.in-RacesNowhere.is))
