-- A line whose request is open runs a program.
use Rattle.std.proofs.Common.{◌≡◌, List, ℕ, refl, subst}
use Rattle.std.proofs.Math.Logic.{∥∥₁_elim}
use Rattle.ot_model.specs.Programs.{Expanded, expanded_of}
use Rattle.ot_check.specs.Jobs.{Spec}
use Rattle.ot_book.specs.Answers.{Step, Now, Runs}
use Rattle.ot_book.specs.Books.{Register, request_opened, open_step, OpensLine}
use Rattle.ot_session.specs.Turns.{WouldRun}
use Rattle.ot_book.specs.declared.book.Opened.{Opened}
use Rattle.ot_book.specs.declared.book.Opened.TheVariants.{ToRun}
use Rattle.ot_session.specs.Session.{RunsProgram}

no_run : (s : Step) (p : Expanded) → ∥ s ≡ Runs p ∥₁ → (x : Expanded) × (s ≡ Runs x)
no_run (Now told arrays) p some = absurd (∥∥₁_elim some (λ (x y : ⊥). absurd x) (λ is. cc))
no_run (Runs q) p some = (q, refl)

pub run_asked : (b new : Register) (line : List ℕ) (o : Opened) (spec : Spec) → OpensLine b line new o → o ≡ ToRun spec → RunsProgram b line
run_asked b new line o spec opens is =
    let h : OpensLine b line new (ToRun spec) = subst (OpensLine b line new) is opens in
    let asks : ∥ open_step (request_opened b line) ≡ Runs (expanded_of spec.checked.program) ∥₁ =
    subst (λ x. ∥ open_step x ≡ Runs (expanded_of spec.checked.program) ∥₁) h.1 h.2.asks in
    no_run _ (expanded_of spec.checked.program) asks

pub would_run : (b new : Register) (line : List ℕ) (o : Opened) (spec : Spec) → OpensLine b line new o → o ≡ ToRun spec → WouldRun b line
would_run b new line o spec opens is = record {
  room = (subst (OpensLine b line new) is opens).0;
  runs = run_asked b new line o spec opens is;
}
