-- What is told of runs.
use Rattle.std.proofs.Common.{◌≡◌, ◌∙◌, ℕ, zero, suc, ◌+◌, ◌-◌, ◌<◌, ◌≤◌, List, [], ◌∷◌, ◌++◌, length, Bool, true, false, refl, sym, ap, subst, arith, inl, inr, append_assoc}
use Rattle.std.specs.Prelude.{Option, Some, None, Result, Ok, IfOk}
use Rattle.std.specs.declared.alloc.AllocError.{AllocError}
use Rattle.std.proofs.lemmas.Bool.{cases_lt}
use Rattle.std.proofs.lemmas.List.{append-nil}
use Rattle.ot_exec_outline.specs.Followed.{list_answer}
use Rattle.ot_exec_outline.specs.Ways.{Ending, Settled, AsksMore, endings, Begins}
use Rattle.ot_exec_outline.proofs.AskedLemmas.{settled-end, more-end, both-ends, begins_more}
use Rattle.ot_exec_code.specs.declared.form.Code.{Code}
use Rattle.ot_exec_machine.specs.Runs.{run_of, asked_in}
use Rattle.ot_exec_machine.specs.Stable.{whole_same}
use Rattle.ot_exec_machine.specs.declared.faults.Met.{Met}
use Rattle.ot_exec_machine.specs.declared.faults.Met.TheVariants.{NoFault, FaultOn, TooMany}
use Rattle.ot_exec_state.specs.declared.limits.Limits.{Limits}
use Rattle.ot_exec_machine.specs.Telling.{fault_of, found_in, context_at, and_around, around, Found, None_met, One_met, Many, met_on, met_in}
use Rattle.ot_exec_state.specs.declared.fault.Fault.{Fault}
use Rattle.ot_exec_state.specs.declared.trail.Context.{Context}

-- ---- contexts

one_more : (cs : List Context) (most counter n : ℕ) (it : Option Context) → counter < most → context_at cs n ≡ it
    → around cs (most - counter) n ≡ and_around (around cs (most - (counter + 1))) it
unfolding around
one_more cs most counter n it within is =
    let k : most - counter ≡ suc (most - (counter + 1)) = omega arith in
    ap (λ (m : ℕ). around cs m n) k ∙ ap (and_around (around cs (most - (counter + 1)))) is

pub one_found : (cs found : List Context) (most counter n : ℕ) (c : Context) (all : List Context) → counter < most → context_at cs n ≡ Some c
    → found ++ around cs (most - counter) n ≡ all → (found ++ c ∷ []) ++ around cs (most - (counter + 1)) c.outer ≡ all
one_found cs found most counter n c all within is so_far =
    append_assoc found (c ∷ []) (around cs (most - (counter + 1)) c.outer)
    ∙ ap (λ ys. found ++ ys) (sym (one_more cs most counter n (Some c) within is)) ∙ so_far

pub none_found : (cs found : List Context) (most counter n : ℕ) (all : List Context) → counter < most → context_at cs n ≡ None
    → found ++ around cs (most - counter) n ≡ all → found ≡ all
none_found cs found most counter n all within is so_far =
    sym (append-nil found) ∙ ap (λ ys. found ++ ys) (sym (one_more cs most counter n None within is)) ∙ so_far

pub all_found : (cs found : List Context) (most counter n : ℕ) (all : List Context) → most ≤ counter
    → found ++ around cs (most - counter) n ≡ all → found ≡ all
unfolding around
all_found cs found most counter n all over so_far =
    let k : most - counter ≡ 0 = omega arith in
    sym (append-nil found) ∙ ap (λ (m : ℕ). found ++ around cs m n) (sym k) ∙ so_far

-- ---- faults

-- what is met on some ways, then on others
abbrev pub then_in : ((ℕ → Bool) → Option Fault) → List Ending → Found × ℕ → Found × ℕ
then_in fault ends (None_met, budget) = met_in fault ends budget
then_in fault ends (One_met given f, budget) = (One_met given f, budget)
then_in fault ends (Many, budget) = (Many, budget)

on_then : (fault : (ℕ → Bool) → Option Fault) (ys : List Ending) (given : List Bool) (f : Option Fault) (budget : ℕ) (rest all : Found × ℕ) → all ≡ then_in fault ys rest
    → met_on given f budget all ≡ then_in fault ys (met_on given f budget rest)
on_then fault ys given None budget rest all h = h
on_then fault ys given (Some f) budget rest all h = refl

both_met : (fault : (ℕ → Bool) → Option Fault) (xs ys : List Ending) (budget : ℕ) → met_in fault (xs ++ ys) budget ≡ then_in fault ys (met_in fault xs budget)
both_met fault [] ys budget = refl
both_met fault (AsksMore ∷ xs) ys budget = refl
both_met fault (Settled given ∷ xs) ys zero = refl
both_met fault (Settled given ∷ xs) ys (suc budget) =
    on_then fault ys given (fault (list_answer given)) budget (met_in fault xs budget) (met_in fault (xs ++ ys) budget) (both_met fault xs ys budget)

abbrev pub Same : ((ℕ → Bool) → Option Fault) → ((ℕ → Bool) → ℕ) → Type 0
Same fault asked = (p q : ℕ → Bool) → ((k : ℕ) → k < asked p → p k ≡ q k) → fault p ≡ fault q

apart_one : (given : List Bool) (f : Fault) → One_met given f ≡ None_met → ⊥
apart_one given f h = cc

apart_many : Many ≡ None_met → ⊥
apart_many h = cc

one_fault : (given : List Bool) (f : Option Fault) (budget : ℕ) (rest : Found × ℕ) → (met_on given f budget rest).0 ≡ None_met → f ≡ None
one_fault given None budget rest h = refl
one_fault given (Some f) budget rest h = absurd (apart_one given f h)

alone : (fault : (ℕ → Bool) → Option Fault) (given : List Bool) (budget : ℕ) → (met_in fault (Settled given ∷ []) budget).0 ≡ None_met → fault (list_answer given) ≡ None
alone fault given zero h = absurd (apart_many h)
alone fault given (suc budget) h = one_fault given (fault (list_answer given)) budget (None_met, budget) h

first_none : (fault : (ℕ → Bool) → Option Fault) (ys : List Ending) (r : Found × ℕ) → (then_in fault ys r).0 ≡ None_met → r.0 ≡ None_met
first_none fault ys (None_met, budget) h = refl
first_none fault ys (One_met given f, budget) h = h
first_none fault ys (Many, budget) h = h

later_none : (fault : (ℕ → Bool) → Option Fault) (ys : List Ending) (r : Found × ℕ) → (then_in fault ys r).0 ≡ None_met → (met_in fault ys r.1).0 ≡ None_met
later_none fault ys (None_met, budget) h = h
later_none fault ys (One_met given f, budget) h = absurd (apart_one given f h)
later_none fault ys (Many, budget) h = absurd (apart_many h)

-- the way that the answers settle is that of all answers that begin with them
settled : (fault : (ℕ → Bool) → Option Fault) (asked : (ℕ → Bool) → ℕ) (given : List Bool) → Same fault asked → asked (list_answer given) ≤ length given
    → fault (list_answer given) ≡ None → (answers : ℕ → Bool) → Begins given answers → fault answers ≡ None
settled fault asked given same few none answers begins = sym (same (list_answer given) answers (λ k l. sym (begins k (omega (arith, l, few))))) ∙ none

by_next : (fault : (ℕ → Bool) → Option Fault) (given : List Bool) → ((answers : ℕ → Bool) → Begins (given ++ true ∷ []) answers → fault answers ≡ None)
    → ((answers : ℕ → Bool) → Begins (given ++ false ∷ []) answers → fault answers ≡ None)
    → (answers : ℕ → Bool) → Begins given answers → (b : Bool) → answers (length given) ≡ b → fault answers ≡ None
by_next fault given first second answers begins true h = first answers (begins_more given answers true begins h)
by_next fault given first second answers begins false h = second answers (begins_more given answers false begins h)

-- where none is met, no way that begins so has a fault
pub nowhere : (fault : (ℕ → Bool) → Option Fault) (asked : (ℕ → Bool) → ℕ) → Same fault asked → (more : ℕ) (given : List Bool) (budget : ℕ)
    → (met_in fault (endings asked more given) budget).0 ≡ None_met → (answers : ℕ → Bool) → Begins given answers → fault answers ≡ None
nowhere fault asked same zero given budget none =
    elim (cases_lt (length given) (asked (list_answer given))) [
      | inl over ↦ absurd (apart_many (subst (λ (es : List Ending). (met_in fault es budget).0 ≡ None_met) (more-end asked given over) none))
      | inr few ↦ settled fault asked given same few (alone fault given budget (subst (λ (es : List Ending). (met_in fault es budget).0 ≡ None_met) (settled-end asked 0 given few) none))
    ]
nowhere fault asked same (suc more) given budget none =
    elim (cases_lt (length given) (asked (list_answer given))) [
      | inl over ↦
          let ones = endings asked more (given ++ true ∷ []) in
          let twos = endings asked more (given ++ false ∷ []) in
          let both : (then_in fault twos (met_in fault ones budget)).0 ≡ None_met =
          sym (ap (λ (r : Found × ℕ). r.0) (both_met fault ones twos budget)) ∙ subst (λ (es : List Ending). (met_in fault es budget).0 ≡ None_met) (both-ends asked more given over) none in
          let first = nowhere fault asked same more (given ++ true ∷ []) budget (first_none fault twos (met_in fault ones budget) both) in
          let second = nowhere fault asked same more (given ++ false ∷ []) (met_in fault ones budget).1 (later_none fault twos (met_in fault ones budget) both) in
          λ answers begins. by_next fault given first second answers begins (answers (length given)) refl
      | inr few ↦ settled fault asked given same few (alone fault given budget (subst (λ (es : List Ending). (met_in fault es budget).0 ≡ None_met) (settled-end asked (suc more) given few) none))
    ]

pub alone_met : (fault : (ℕ → Bool) → Option Fault) (asked : (ℕ → Bool) → ℕ) (more : ℕ) (given : List Bool) (budget left : ℕ) (f : Option Fault) → asked (list_answer given) ≤ length given
    → budget ≡ suc left → f ≡ fault (list_answer given) → (r : Found × ℕ) → r ≡ met_on given f left (None_met, left) → r ≡ met_in fault (endings asked more given) budget
alone_met fault asked more given budget left f few taken is r told =
    told ∙ ap (λ (f : Option Fault). met_on given f left (None_met, left)) is
    ∙ ap (met_in fault (Settled given ∷ [])) (sym taken) ∙ ap (λ (es : List Ending). met_in fault es budget) (sym (settled-end asked more given few))

pub goes_on : (fault : (ℕ → Bool) → Option Fault) (ends ones twos : List Ending) (budget mid : ℕ) → ends ≡ ones ++ twos → (None_met, mid) ≡ met_in fault ones budget
    → (r : Found × ℕ) → r ≡ met_in fault twos mid → r ≡ met_in fault ends budget
goes_on fault ends ones twos budget mid is none r told =
    told ∙ ap (then_in fault twos) none ∙ sym (both_met fault ones twos budget) ∙ ap (λ (es : List Ending). met_in fault es budget) (sym is)

pub ends_it : (fault : (ℕ → Bool) → Option Fault) (ends ones twos : List Ending) (budget mid : ℕ) → ends ≡ ones ++ twos → (met : Met) → (met ≡ NoFault → ⊥)
    → (found_in met, mid) ≡ met_in fault ones budget → (found_in met, mid) ≡ met_in fault ends budget
ends_it fault ends ones twos budget mid is NoFault other told = absurd (other refl)
ends_it fault ends ones twos budget mid is (FaultOn answers f) other told =
    ap (then_in fault twos) told ∙ sym (both_met fault ones twos budget) ∙ ap (λ (es : List Ending). met_in fault es budget) (sym is)
ends_it fault ends ones twos budget mid is TooMany other told =
    ap (then_in fault twos) told ∙ sym (both_met fault ones twos budget) ∙ ap (λ (es : List Ending). met_in fault es budget) (sym is)

-- where none was met no way that begins so has a fault
pub no_fault : (fault : (ℕ → Bool) → Option Fault) (asked : (ℕ → Bool) → ℕ) → Same fault asked → (more : ℕ) (given : List Bool) (budget left : ℕ) (r : Result Met AllocError)
    → IfOk r (λ met. (found_in met, left) ≡ met_in fault (endings asked more given) budget) → r ≡ Ok NoFault
    → (answers : ℕ → Bool) → Begins given answers → fault answers ≡ None
no_fault fault asked same more given budget left r told is =
    let it : (found_in NoFault, left) ≡ met_in fault (endings asked more given) budget =
    subst (λ (r : Result Met AllocError). IfOk r (λ met. (found_in met, left) ≡ met_in fault (endings asked more given) budget)) is told in
    nowhere fault asked same more given budget (sym (ap (λ (x : Found × ℕ). x.0) it))

pub same_fault : (code : Code) (l : Limits) → Same (λ p. fault_of (run_of code l p)) (λ p. asked_in (run_of code l p))
same_fault code l p q agree = ap fault_of (whole_same code l p q agree)
