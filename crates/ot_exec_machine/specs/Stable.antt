-- No more answers matter than questions are asked: answers that are the same so far lead to the same run.
use Rattle.std.specs.Prelude.{◌≡◌, ◌<◌, ◌≤◌, ℕ, zero, suc, ◌+◌, Bool, true, false, nat_le, length, Option, Some, None, slice_get, if◌then◌else◌, Ok, Err}
use Rattle.std.proofs.Common.{refl, ap, sym, ◌∙◌, subst, arith}
use Rattle.ot_exec_code.specs.declared.form.Code.{Code}
use Rattle.ot_exec_code.specs.declared.form.Form.{Form}
use Rattle.ot_exec_outline.specs.Ways.{IsStable}
use Rattle.ot_exec_machine.specs.Runs.{Reached, asks, step_told, answered_step, next_of, next, runs_on, run_steps, first_state, run_from, too_many, few, run_of, run_events_of, asked_in}
use Rattle.ot_exec_machine.specs.State.{MachineState, from}
use Rattle.ot_exec_machine.specs.Steps.{SteppedState, step}
use Rattle.ot_exec_state.specs.declared.limits.Limits.{Limits}

-- answers that are the same as far as a run asks
abbrev pub AgreeSoFar : (ℕ → Bool) → (ℕ → Bool) → ℕ → Type 0
AgreeSoFar p q asked = (k : ℕ) → k < asked → p k ≡ q k

-- ---- one form

told-asked : (s : MachineState) (asked : ℕ) (t : SteppedState) → asked_in (step_told s asked t) ≡ asked
told-asked s asked (Ok t) = refl
told-asked s asked (Err r) = refl

step_asks : (code : Code) (l : Limits) (p : ℕ → Bool) (asked : ℕ) (s : MachineState) (form : Form) (b : Bool) → asked ≤ asked_in (answered_step code l p asked s form b)
step_asks code l p asked s form true =
    let e = told-asked s (asked + 1) (step code l form (p asked) (from (s.at + 1) s)) in omega (arith, e)
step_asks code l p asked s form false =
    let e = told-asked s asked (step code l form false (from (s.at + 1) s)) in omega (arith, e)

form_asks : (code : Code) (l : Limits) (p : ℕ → Bool) (asked : ℕ) (s : MachineState) (form : Option Form) → asked ≤ asked_in (next_of code l p asked s form)
form_asks code l p asked s None = omega arith
form_asks code l p asked s (Some form) = step_asks code l p asked s form (asks form s)

next_asks : (code : Code) (l : Limits) (p : ℕ → Bool) (asked : ℕ) (s : MachineState) → asked ≤ asked_in (next code l p asked s)
unfolding next
next_asks code l p asked s = form_asks code l p asked s (slice_get code.forms.items s.at)

step_same : (code : Code) (l : Limits) (p q : ℕ → Bool) (asked : ℕ) (s : MachineState) (form : Form) (b : Bool)
    → AgreeSoFar p q (asked_in (answered_step code l p asked s form b)) → answered_step code l p asked s form b ≡ answered_step code l q asked s form b
step_same code l p q asked s form false agree = refl
step_same code l p q asked s form true agree =
    let e = told-asked s (asked + 1) (step code l form (p asked) (from (s.at + 1) s)) in
    ap (λ (b : Bool). step_told s (asked + 1) (step code l form b (from (s.at + 1) s))) (agree asked (omega (arith, e)))

form_same : (code : Code) (l : Limits) (p q : ℕ → Bool) (asked : ℕ) (s : MachineState) (form : Option Form)
    → AgreeSoFar p q (asked_in (next_of code l p asked s form)) → next_of code l p asked s form ≡ next_of code l q asked s form
form_same code l p q asked s None agree = refl
form_same code l p q asked s (Some form) agree = step_same code l p q asked s form (asks form s) agree

next_same : (code : Code) (l : Limits) (p q : ℕ → Bool) (asked : ℕ) (s : MachineState)
    → AgreeSoFar p q (asked_in (next code l p asked s)) → next code l p asked s ≡ next code l q asked s
unfolding next
next_same code l p q asked s agree = form_same code l p q asked s (slice_get code.forms.items s.at) agree

-- ---- all forms

choice_asks : (more : ℕ → MachineState → Reached) (x : MachineState × ℕ) (b : Bool) → ((asked : ℕ) (s : MachineState) → asked ≤ asked_in (more asked s))
    → x.1 ≤ asked_in (if b then Ok x else more x.1 x.0)
choice_asks more x true asks = omega arith
choice_asks more x false asks = asks x.1 x.0

goes_on-asks : (more : ℕ → MachineState → Reached) (r : Reached) → ((asked : ℕ) (s : MachineState) → asked ≤ asked_in (more asked s))
    → asked_in r ≤ asked_in (runs_on more r)
goes_on-asks more (Ok x) asks = choice_asks more x x.0.ended asks
goes_on-asks more (Err e) asks = omega arith

run_asks : (code : Code) (l : Limits) (p : ℕ → Bool) (n asked : ℕ) (s : MachineState) → asked ≤ asked_in (run_steps code l p n asked s)
unfolding run_steps
run_asks code l p zero asked s = omega arith
run_asks code l p (suc n) asked s =
    let one = next_asks code l p asked s in
    let rest = goes_on-asks (run_steps code l p n) (next code l p asked s) (run_asks code l p n) in
    omega (arith, one, rest)

choice_same : (more other : ℕ → MachineState → Reached) (p q : ℕ → Bool) (x : MachineState × ℕ) (b : Bool)
    → ((asked : ℕ) (s : MachineState) → AgreeSoFar p q (asked_in (more asked s)) → more asked s ≡ other asked s)
    → AgreeSoFar p q (asked_in (if b then Ok x else more x.1 x.0)) → (if b then Ok x else more x.1 x.0) ≡ (if b then Ok x else other x.1 x.0)
choice_same more other p q x true same agree = refl
choice_same more other p q x false same agree = same x.1 x.0 agree

goes_on-same : (more other : ℕ → MachineState → Reached) (p q : ℕ → Bool) (r : Reached)
    → ((asked : ℕ) (s : MachineState) → AgreeSoFar p q (asked_in (more asked s)) → more asked s ≡ other asked s)
    → AgreeSoFar p q (asked_in (runs_on more r)) → runs_on more r ≡ runs_on other r
goes_on-same more other p q (Ok x) same agree = choice_same more other p q x x.0.ended same agree
goes_on-same more other p q (Err e) same agree = refl

run_same : (code : Code) (l : Limits) (p q : ℕ → Bool) (n asked : ℕ) (s : MachineState)
    → AgreeSoFar p q (asked_in (run_steps code l p n asked s)) → run_steps code l p n asked s ≡ run_steps code l q n asked s
unfolding run_steps
run_same code l p q zero asked s agree = refl
run_same code l p q (suc n) asked s agree =
    let rest = goes_on-asks (run_steps code l p n) (next code l p asked s) (run_asks code l p n) in
    let first = next_same code l p q asked s (λ k h. agree k (omega (arith, h, rest))) in
    goes_on-same (run_steps code l p n) (run_steps code l q n) p q (next code l p asked s) (run_same code l p q n) agree
    ∙ ap (runs_on (run_steps code l q n)) first

-- ---- whole runs

choice_few : (l : Limits) (x : MachineState × ℕ) (b : Bool) → asked_in (if b then Ok x else Err (too_many x)) ≡ x.1
choice_few l x true = refl
choice_few l x false = refl

few_asked : (l : Limits) (r : Reached) → asked_in (few l r) ≡ asked_in r
few_asked l (Ok x) = choice_few l x (nat_le (length x.0.trail.log) l.events)
few_asked l (Err e) = refl

from_same : (code : Code) (l : Limits) (p q : ℕ → Bool) (s : SteppedState) → AgreeSoFar p q (asked_in (run_from code l p s)) → run_from code l p s ≡ run_from code l q s
from_same code l p q (Ok s) agree = run_same code l p q l.steps 0 s agree
from_same code l p q (Err r) agree = refl

pub whole_same : (code : Code) (l : Limits) (p q : ℕ → Bool) → AgreeSoFar p q (asked_in (run_of code l p)) → run_of code l p ≡ run_of code l q
unfolding run_of
whole_same code l p q agree =
    ap (few l) (from_same code l p q (first_state code l) (λ k h. agree k (subst (λ (n : ℕ). k < n) (sym (few_asked l (run_from code l p (first_state code l)))) h)))

pub stable : (code : Code) (l : Limits) → IsStable (λ answers. run_events_of (run_of code l answers)) (λ answers. asked_in (run_of code l answers))
stable code l p q agree = let same = whole_same code l p q agree in (ap run_events_of same, ap asked_in same)
