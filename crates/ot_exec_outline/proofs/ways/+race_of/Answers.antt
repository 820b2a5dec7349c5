use Rattle.std.proofs.Common.{◌∙◌, ◌<◌, ◌≤◌, ◌-◌, ◌++◌, ◌∷◌, ℕ, false, List, [], length, refl, sym, ap, subst, arith, inl, inr}
use Rattle.std.specs.Prelude.{IfOk, Result}
use Rattle.std.specs.declared.alloc.AllocError.{AllocError}
use Rattle.std.proofs.lemmas.List.Elements.{All-nil}
use Rattle.ot_check.proofs.Cited.{if_ok}
use Rattle.ot_exec_outline.specs.Followed.{list_answer}
use Rattle.ot_exec_outline.specs.Ways.{Ending, endings, HasNoRace, TellsOf, TellsAlone}
use Rattle.ot_exec_outline.specs.declared.ways.Told.{Told}
use Rattle.ot_exec_outline.proofs.AskedLemmas.{settled-end, more-end, ends-behind, nowhere, alone, ends_it, goes_on}
use Rattle.ot_exec_outline.proofs.ways.+race_of.Goals as goal

pub returns-then-budget-eq0-clause-told : goal.returns-then-budget-eq0-clause-told
returns-then-budget-eq0-clause-told g t c =
    let asked = g.W.Asks.asked_by c.args.asks.now in
    let given = c.args.given.now in
    let few : asked (list_answer given) ≤ length given = subst (λ (n : ℕ). n ≤ length given) c.in_ok-way.ensures.asked c.if-way-given.true in
    inr (
      given,
      record {
        before = [];
        behind = [];
        ends_are = settled-end asked c.args.questions given few;
        none = All-nil (HasNoRace c.args.order (g.W.Asks.events_by c.args.asks.now));
        taken = c.if-budget-eq0.true;
      },
      c.if-budget-eq0.true,
    )

pub returns-then-way-given : goal.returns-then-way-given
returns-then-way-given g t c =
    let order = c.args.order in
    let events = g.W.Asks.events_by c.args.asks.now in
    let asked = g.W.Asks.asked_by c.args.asks.now in
    let given = c.args.given.now in
    let budget = c.args.budget.now in
    let left : ℕ = budget - 1 in
    let few : asked (list_answer given) ≤ length given = subst (λ (n : ℕ). n ≤ length given) c.in_ok-way.ensures.asked c.if-way-given.true in
    let ends = settled-end asked c.args.questions given few in
    let told : IfOk c.told_on.result (TellsOf order events (endings asked c.args.questions given) budget left) =
    if_ok c.told_on.result (TellsAlone order events given) (TellsOf order events (endings asked c.args.questions given) budget left)
    (λ r it. subst (λ (es : List Ending). TellsOf order events es budget left r) (sym ends) (alone order events given budget left (omega (arith, c.if-budget-eq0.false)) r it))
    c.told_on.ensures in
    record {
      told = told;
      nowhere = λ is. nowhere order events asked (g.met.W.Asks.stable c.args.asks.now) c.args.questions given
          (subst (λ (r : Result Told AllocError). IfOk r (TellsOf order events (endings asked c.args.questions given) budget left)) is told).0;
    }

pub returns-then-questions-eq0-clause-told : goal.returns-then-questions-eq0-clause-told
returns-then-questions-eq0-clause-told g t c =
    let asked = g.W.Asks.asked_by c.args.asks.now in
    let given = c.args.given.now in
    let over : length given < asked (list_answer given) = subst (λ (n : ℕ). length given < n) c.in_ok-way.ensures.asked (omega (arith, c.if-way-given.false)) in
    inl (record {
      before = [];
      behind = [];
      ends_are = ap (λ q. endings asked q given) c.if-questions-eq0.true ∙ more-end asked given over;
      none = All-nil (HasNoRace c.args.order (g.W.Asks.events_by c.args.asks.now));
      taken = omega arith;
    })

pub returns-in-RacesNowhere : goal.returns-in-RacesNowhere
returns-in-RacesNowhere g t c =
    let order = c.args.order in
    let events = g.W.Asks.events_by c.args.asks.now in
    let asked = g.W.Asks.asked_by c.args.asks.now in
    let given = c.args.given.now in
    let budget = c.args.budget.now in
    let less : ℕ = c.args.questions - 1 in
    let mid = c.race_of.new.budget in
    let left = c.race_of-in-RacesNowhere.new.budget in
    let ones = endings asked less c.deref.result.now in
    let twos = endings asked less c.deref-in-RacesNowhere.result.now in
    let over : length given < asked (list_answer given) = subst (λ (n : ℕ). length given < n) c.in_ok-way.ensures.asked (omega (arith, c.if-way-given.false)) in
    let ends = ends-behind asked c.args.questions given c.deref.result.now c.deref-in-RacesNowhere.result.now over (omega (arith, c.if-questions-eq0.false))
    (c.deref.ensures.value ∙ c.in_ok-one.ensures) (c.deref-in-RacesNowhere.ensures.value ∙ c.in_ok-two-in-RacesNowhere.ensures) in
    let first = subst (TellsOf order events ones budget mid) c.in-RacesNowhere.is c.in_ok-told.ensures.told in
    let told : IfOk c.race_of-in-RacesNowhere.result (TellsOf order events (endings asked c.args.questions given) budget left) =
    if_ok c.race_of-in-RacesNowhere.result (TellsOf order events twos mid left) (TellsOf order events (endings asked c.args.questions given) budget left)
    (λ r it. subst (λ (es : List Ending). TellsOf order events es budget left r) (sym ends) (goes_on order events ones twos budget mid left r first it))
    c.race_of-in-RacesNowhere.ensures.told in
    record {
      told = told;
      nowhere = λ is. nowhere order events asked (g.met.W.Asks.stable c.args.asks.now) c.args.questions given
          (subst (λ (r : Result Told AllocError). IfOk r (TellsOf order events (endings asked c.args.questions given) budget left)) is told).0;
    }

pub returns : goal.returns
returns g t c =
    let order = c.args.order in
    let events = g.W.Asks.events_by c.args.asks.now in
    let asked = g.W.Asks.asked_by c.args.asks.now in
    let given = c.args.given.now in
    let budget = c.args.budget.now in
    let less : ℕ = c.args.questions - 1 in
    let left = c.race_of.new.budget in
    let ones = endings asked less c.deref.result.now in
    let twos = endings asked less (given ++ false ∷ []) in
    let over : length given < asked (list_answer given) = subst (λ (n : ℕ). length given < n) c.in_ok-way.ensures.asked (omega (arith, c.if-way-given.false)) in
    let ends = ends-behind asked c.args.questions given c.deref.result.now (given ++ false ∷ []) over (omega (arith, c.if-questions-eq0.false))
    (c.deref.ensures.value ∙ c.in_ok-one.ensures) refl in
    let told : TellsOf order events (endings asked c.args.questions given) budget left c.in_ok-told.told =
    subst (λ (es : List Ending). TellsOf order events es budget left c.in_ok-told.told) (sym ends)
    (ends_it order events ones twos budget left c.in_ok-told.told c.in_default.not-RacesNowhere c.in_ok-told.ensures.told) in
    record {
      told = told;
      nowhere = λ is. nowhere order events asked (g.met.W.Asks.stable c.args.asks.now) c.args.questions given
          (subst (λ (r : Result Told AllocError). IfOk r (TellsOf order events (endings asked c.args.questions given) budget left)) is told).0;
    }
