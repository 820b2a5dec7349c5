use Rattle.std.proofs.Common.{◌≡◌, ◌∙◌, ◌-◌, ◌<◌, ◌≤◌, ◌++◌, ◌∷◌, [], ℕ, Bool, false, length, refl, subst, arith}
use Rattle.std.specs.Prelude.{IfOk, Ok}
use Rattle.ot_check.proofs.Cited.{if_ok}
use Rattle.ot_exec_outline.specs.Followed.{list_answer}
use Rattle.ot_exec_outline.specs.Ways.{endings}
use Rattle.ot_exec_outline.proofs.AskedLemmas.{ends-behind}
use Rattle.ot_exec_machine.specs.Runs.{run_of, asked_in}
use Rattle.ot_exec_machine.specs.Telling.{fault_of, found_in, met_on, met_in, None_met}
use Rattle.ot_exec_machine.specs.declared.faults.Met.{Met}
use Rattle.ot_exec_machine.proofs.TellingLemmas.{alone_met, goes_on, ends_it, no_fault, same_fault}
use Rattle.ot_exec_machine.proofs.faults.+first_fault.Goals as goal

pub returns-then-way-given : goal.returns-then-way-given
returns-then-way-given t c =
    let code = c.args.ways.now.code.now in
    let l = c.args.ways.now.limits in
    let fault = λ (p : ℕ → Bool). fault_of (run_of code l p) in
    let asked = λ (p : ℕ → Bool). asked_in (run_of code l p) in
    let given = c.args.given.now in
    let budget = c.args.budget.now in
    let left : ℕ = budget - 1 in
    let few : asked (list_answer given) ≤ length given = subst (λ (n : ℕ). n ≤ length given) c.in_ok-way.ensures.asked c.if-way-given.true in
    let told : IfOk c.met_alone.result (λ met. (found_in met, left) ≡ met_in fault (endings asked c.args.questions given) budget) =
    if_ok c.met_alone.result (λ met. (left : ℕ) → (found_in met, left) ≡ met_on given c.in_ok-way.way.fault left (None_met, left))
    (λ met. (found_in met, left) ≡ met_in fault (endings asked c.args.questions given) budget)
    (λ met it. alone_met fault asked c.args.questions given budget left c.in_ok-way.way.fault few (omega (arith, c.if-budget-eq0.false)) c.in_ok-way.ensures.fault (found_in met, left) (it left))
    c.met_alone.ensures in
    record {
      met = told;
      nowhere = no_fault fault asked (same_fault code l) c.args.questions given budget left c.met_alone.result told;
    }

pub returns-in-NoFault : goal.returns-in-NoFault
returns-in-NoFault t c =
    let code = c.args.ways.now.code.now in
    let l = c.args.ways.now.limits in
    let fault = λ (p : ℕ → Bool). fault_of (run_of code l p) in
    let asked = λ (p : ℕ → Bool). asked_in (run_of code l p) in
    let given = c.args.given.now in
    let budget = c.args.budget.now in
    let less : ℕ = c.args.questions - 1 in
    let mid = c.first_fault.new.budget in
    let left = c.first_fault-in-NoFault.new.budget in
    let ones = endings asked less c.deref.result.now in
    let twos = endings asked less c.deref-in-NoFault.result.now in
    let over : length given < asked (list_answer given) = subst (λ (n : ℕ). length given < n) c.in_ok-way.ensures.asked (omega (arith, c.if-way-given.false)) in
    let ends = ends-behind asked c.args.questions given c.deref.result.now c.deref-in-NoFault.result.now over (omega (arith, c.if-questions-eq0.false))
    (c.deref.ensures.value ∙ c.in_ok-one.ensures) (c.deref-in-NoFault.ensures.value ∙ c.in_ok-two-in-NoFault.ensures) in
    let first : (None_met, mid) ≡ met_in fault ones budget = subst (λ (m : Met). (found_in m, mid) ≡ met_in fault ones budget) c.in-NoFault.is c.in_ok-met.ensures.met in
    let told : IfOk c.first_fault-in-NoFault.result (λ met. (found_in met, left) ≡ met_in fault (endings asked c.args.questions given) budget) =
    if_ok c.first_fault-in-NoFault.result (λ met. (found_in met, left) ≡ met_in fault twos mid)
    (λ met. (found_in met, left) ≡ met_in fault (endings asked c.args.questions given) budget)
    (λ met it. goes_on fault (endings asked c.args.questions given) ones twos budget mid ends first (found_in met, left) it)
    c.first_fault-in-NoFault.ensures.met in
    record {
      met = told;
      nowhere = no_fault fault asked (same_fault code l) c.args.questions given budget left c.first_fault-in-NoFault.result told;
    }

pub returns : goal.returns
returns t c =
    let code = c.args.ways.now.code.now in
    let l = c.args.ways.now.limits in
    let fault = λ (p : ℕ → Bool). fault_of (run_of code l p) in
    let asked = λ (p : ℕ → Bool). asked_in (run_of code l p) in
    let given = c.args.given.now in
    let budget = c.args.budget.now in
    let less : ℕ = c.args.questions - 1 in
    let left = c.first_fault.new.budget in
    let ones = endings asked less c.deref.result.now in
    let twos = endings asked less (given ++ false ∷ []) in
    let over : length given < asked (list_answer given) = subst (λ (n : ℕ). length given < n) c.in_ok-way.ensures.asked (omega (arith, c.if-way-given.false)) in
    let ends = ends-behind asked c.args.questions given c.deref.result.now (given ++ false ∷ []) over (omega (arith, c.if-questions-eq0.false))
    (c.deref.ensures.value ∙ c.in_ok-one.ensures) refl in
    let told = ends_it fault (endings asked c.args.questions given) ones twos budget left ends c.in_ok-met.met c.in_default.not-NoFault c.in_ok-met.ensures.met in
    record {
      met = told;
      nowhere = no_fault fault asked (same_fault code l) c.args.questions given budget left (Ok c.in_ok-met.met) told;
    }
