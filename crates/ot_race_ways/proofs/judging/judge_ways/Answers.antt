use Rattle.std.proofs.Common.{arith, ℕ, inl, inr, subst, sym}
use Rattle.std.proofs.lemmas.Bool.{cases_eq}
use Rattle.std.specs.Prelude.{None}
use Rattle.ot_model.specs.View.{stmts_of}
use Rattle.ot_race.specs.View.{events_in}
use Rattle.ot_race.specs.Races.{NothingRaces, IsFirstRace, TellsFirst}
use Rattle.ot_race_order.specs.Orders.{ordered_by}
use Rattle.ot_race_ways.specs.Numbered.{events_on}
use Rattle.ot_race_ways.proofs.TellLemmas.{tells_race, tells_none}
use Rattle.ot_race_ways.proofs.judging.judge_ways.Goals as goal

pub returns-in-Some : goal.returns-in-Some
returns-in-Some c =
    let body = stmts_of c.args.program.now.body.items in
    let es = events_in c.in_ok-turns.field-0.events.items in
    let race = c.in-Some.race in
    let first : IsFirstRace (ordered_by c.args.order es) race.cell race.place race.later = subst (TellsFirst (ordered_by c.args.order es)) c.in-Some.is c.in_ok-race.ensures in (
      c.requires.few,
      tells_race c.args.order body c.loop-way.way es c.in_ok-turns.field-0.turns.items race c.in_ok-turns.ensures.events
          c.in_ok-turns.ensures.turns first,
    )

pub loop-way-preserved : goal.loop-way-preserved
loop-way-preserved c =
    let body = stmts_of c.args.program.now.body.items in
    let way = c.loop-way.way in
    let order = c.args.order in
    let here : NothingRaces (ordered_by order (events_on way None 0 1 body 0)) =
    subst (λ es. NothingRaces (ordered_by order es)) c.in_ok-turns.ensures.events
    (subst (TellsFirst (ordered_by order (events_in c.in_ok-turns.field-0.events.items))) c.in_default.is c.in_ok-race.ensures) in
    λ n l. elim (cases_eq n way) [
      | inl same ↦ subst (λ (m : ℕ). NothingRaces (ordered_by order (events_on m None 0 1 body 0))) (sym same) here
      | inr apart ↦ c.loop-way.invariant n (omega (arith, l, apart))
    ]

pub returns : goal.returns
returns c =
    let body = stmts_of c.args.program.now.body.items in
    (c.requires.few, tells_none c.args.order body (λ n l. c.loop-way.invariant n (omega (arith, l, c.requires.all, c.loop-way-test.false))))
