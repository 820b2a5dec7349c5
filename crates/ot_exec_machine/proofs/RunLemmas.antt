-- A run goes on, form after form, as a loop does.
use Rattle.std.proofs.Common.{◌≡◌, ℕ, suc, ◌+◌, ◌-◌, ◌≤◌, ◌<◌, Bool, true, false, Ok, Err, refl, sym, ap, ◌∙◌, arith}
use Rattle.ot_exec_code.specs.declared.form.Code.{Code}
use Rattle.ot_exec_machine.specs.Runs.{Reached, fault_in, next, runs_on, run_steps, Ends}
use Rattle.ot_exec_machine.specs.State.{MachineState}
use Rattle.ot_exec_state.specs.declared.fault.Reason.TheVariants.{TooManySteps}
use Rattle.ot_exec_state.specs.declared.limits.Limits.{Limits}
use Rattle.ot_exec_machine.specs.declared.run.Stopped.{Stopped}
use Rattle.ot_exec_machine.specs.declared.run.Stopped.TheVariants as stops

one_more : (code : Code) (l : Limits) (p : ℕ → Bool) (steps counter asked : ℕ) (s : MachineState) → counter < steps
    → run_steps code l p (steps - counter) asked s ≡ runs_on (run_steps code l p (steps - (counter + 1))) (next code l p asked s)
unfolding run_steps
one_more code l p steps counter asked s within =
    let k : steps - counter ≡ suc (steps - (counter + 1)) = omega arith in
    ap (λ (n : ℕ). run_steps code l p n asked s) k

pub goes : (code : Code) (l : Limits) (p : ℕ → Bool) (steps counter asked more : ℕ) (s t : MachineState) (all : Reached) → counter < steps
    → run_steps code l p (steps - counter) asked s ≡ all → next code l p asked s ≡ Ok (t, more) → t.ended ≡ false
    → run_steps code l p (steps - (counter + 1)) more t ≡ all
goes code l p steps counter asked more s t all within so_far made on =
    let rest = run_steps code l p (steps - (counter + 1)) in
    let here : runs_on rest (Ok (t, more)) ≡ rest more t = rw on refl in
    sym here ∙ sym (ap (runs_on rest) made) ∙ sym (one_more code l p steps counter asked s within) ∙ so_far

pub halts : (code : Code) (l : Limits) (p : ℕ → Bool) (steps counter asked more : ℕ) (s t : MachineState) (all : Reached) → counter < steps
    → run_steps code l p (steps - counter) asked s ≡ all → next code l p asked s ≡ Ok (t, more) → t.ended ≡ true → all ≡ Ok (t, more)
halts code l p steps counter asked more s t all within so_far made over =
    let rest = run_steps code l p (steps - (counter + 1)) in
    let here : runs_on rest (Ok (t, more)) ≡ Ok (t, more) = rw over refl in
    sym so_far ∙ one_more code l p steps counter asked s within ∙ ap (runs_on rest) made ∙ here

fails : (e : Stopped) (more : ℕ → MachineState → Reached) (r all : Reached) → runs_on more r ≡ all → Ends e r → Ends e all
fails stops.Memory more r all so_far told = tt
fails (stops.By f) more r all so_far told = sym so_far ∙ ap (runs_on more) told

pub stopped : (e : Stopped) (code : Code) (l : Limits) (p : ℕ → Bool) (steps counter asked : ℕ) (s : MachineState) (all : Reached) → counter < steps
    → run_steps code l p (steps - counter) asked s ≡ all → Ends e (next code l p asked s) → Ends e all
stopped e code l p steps counter asked s all within so_far told =
    fails e (run_steps code l p (steps - (counter + 1))) (next code l p asked s) all (sym (one_more code l p steps counter asked s within) ∙ so_far) told

pub too_long : (code : Code) (l : Limits) (p : ℕ → Bool) (steps counter asked : ℕ) (s : MachineState) (all : Reached) → steps ≤ counter
    → run_steps code l p (steps - counter) asked s ≡ all → all ≡ Err (fault_in s asked TooManySteps)
unfolding run_steps
too_long code l p steps counter asked s all over so_far =
    let k : steps - counter ≡ 0 = omega arith in
    sym so_far ∙ ap (λ (n : ℕ). run_steps code l p n asked s) k
