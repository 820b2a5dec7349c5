-- What becomes of a line, by what the book did.
use mathlib.Core.Bool.{Bool-set}
use Rattle.std.proofs.Common.{◌≡◌, ◌≢◌, ◌⊎◌, ℕ, ◌-◌, List, [], ◌∷◌, ◌++◌, length, refl, sym, ap, ◌∙◌, subst, arith, length-append, inl, inr, Bool, true, false}
use Rattle.std.specs.Prelude.{Option, Some, None, Result, Ok, Err, IfOk, option_map, slice_get, if◌then◌else◌}
use Rattle.std.proofs.Math.Logic.{∥∥₁_elim}
use Rattle.std.proofs.Math.Seq.{get_or-append_seam}
use Rattle.std.proofs.lemmas.Option.{slice_get-get_or}
use Rattle.ot_model.specs.Programs.{expanded_of}
use Rattle.ot_check.specs.Jobs.{Spec}
use Rattle.ot_store.specs.Arrays.{Named}
use Rattle.ot_book.specs.Answers as r
use Rattle.ot_book.specs.Answers.{Step, Now, Runs, answer_or_lost, step_done, is_checkpoint, is_run}
use Rattle.ot_book.specs.Books.{Register, state_in, next_step, register_with_line, log_cleared, line_logged, request_opened, open_step, request_refused, IsFullFor, OpensLine, last_told}
use Rattle.ot_book.specs.declared.book.Opened.{Opened}
use Rattle.ot_book.specs.declared.book.Opened.TheVariants.{Answered, ToRun}
use Rattle.ot_book.proofs.BookLemmas.{logged-by, state-cleared}
use Rattle.ot_book.proofs.RoomLemmas.{free-takes}
use Rattle.ot_file_judge.specs.Judging.{verdict_on, verdict_by, verdict_of, book_passed}
use Rattle.ot_file_judge.specs.Found.{is_full}
use Rattle.ot_file_judge.specs.declared.verdict.Verdict.{Verdict}
use Rattle.ot_file_judge.specs.declared.verdict.Verdict.TheVariants as verdict
use Rattle.ot_file_judge.specs.declared.fault.JudgeFault.{JudgeFault}

-- ---- what was told last

told_behind : (log : List (List ℕ × r.Told)) (line : List ℕ) (told : r.Told) →
    option_map (λ (e : List ℕ × r.Told). e.1) (slice_get (log ++ (line, told) ∷ []) (length (log ++ (line, told) ∷ []) - 1)) ≡ Some told
told_behind log line told =
    let place : length (log ++ (line, told) ∷ []) - 1 ≡ length log = omega (arith, length-append log ((line, told) ∷ [])) in
    let found : slice_get (log ++ (line, told) ∷ []) (length log) ≡ Some (line, told) =
    slice_get-get_or (log ++ (line, told) ∷ []) (length log) (line, told) (omega (arith, length-append log ((line, told) ∷ [])))
    ∙ ap Some (get_or-append_seam log (line, told) [] (line, told)) in
    ap (λ n. option_map (λ (e : List ℕ × r.Told). e.1) (slice_get (log ++ (line, told) ∷ []) n)) place
    ∙ ap (option_map (λ (e : List ℕ × r.Told). e.1)) found

told_of_reply : (o : Option (List ℕ × r.Told)) (n : ℕ) → option_map (λ (x : ℕ × r.Told). x.1) (option_map (λ (e : List ℕ × r.Told). (n, e.1)) o) ≡ option_map (λ (e : List ℕ × r.Told). e.1) o
told_of_reply None n = refl
told_of_reply (Some e) n = refl

told-appended : (b : Register) (line : List ℕ) (memory : Bool) → last_told (register_with_line b line memory) ≡ Some (answer_or_lost b.limits (state_in b) line memory).0
told-appended b line memory =
    let told = (answer_or_lost b.limits (state_in b) line memory).0 in
    told_of_reply (slice_get (b.log ++ (line, told) ∷ []) (length (b.log ++ (line, told) ∷ []) - 1)) _ ∙ told_behind b.log line told

told-logged : (b : Register) (line : List ℕ) (memory : Bool) → last_told (line_logged b line memory) ≡ Some (answer_or_lost b.limits (state_in b) line memory).0
told-logged b line memory =
    logged-by (λ x. last_told x ≡ Some (answer_or_lost b.limits (state_in b) line memory).0) b line memory (is_checkpoint line) refl
    (λ _. told-appended (log_cleared b) line memory ∙ ap (λ s. Some (answer_or_lost b.limits s line memory).0) (state-cleared b))
    (λ _. told-appended b line memory)

told-now : (b : Register) (line : List ℕ) (told : r.Told) (arrays : List Named) → next_step b line ≡ Now told arrays → last_told (line_logged b line false) ≡ Some told
told-now b line told arrays is = told-logged b line false ∙ ap (λ s. Some (step_done (state_in b) s).0) is

-- ---- a line that is answered at once

taken_by : (book : Register) (line : List ℕ) → ¬ (IsFullFor book line) → verdict_of book line ≡ verdict_by (next_step book line)
taken_by book line free = ap (λ t. if t then verdict_by (next_step book line) else verdict.Full) (free-takes book line free)

-- What is said of the verdict where memory was enough.
abbrev Says : Register → Verdict → Type 0
Says new v = (told : r.Told) → last_told new ≡ Some told → (v ≡ verdict_on told) × (told ≢ r.Lost)

by_memory : (memory : Bool) (book new : Register) (line : List ℕ) (v : Verdict) → ¬ (IsFullFor book line) → new ≡ line_logged book line memory →
    ((memory ≡ true) ⊎ ((told : r.Told) × (arrays : List Named) × (next_step book line ≡ Now told arrays))) → Says new v →
    (v ≡ verdict_of book line) × (new ≡ book_passed book line)
by_memory true book new line v free is once says = absurd ((says r.Lost (ap last_told is ∙ told-logged book line true)).1 refl)
by_memory false book new line v free is (inl lost) says = absurd (cc)
by_memory false book new line v free is (inr step) says = (
  (says step.0 (ap last_told is ∙ told-now book line step.0 step.1 step.2)).0 ∙ sym (taken_by book line free ∙ ap verdict_by step.2),
  is ∙ sym (ap (λ s. line_logged book line (is_run s)) step.2),
)

answered : (book new : Register) (line : List ℕ) (o : Opened) (v : Verdict) → OpensLine book line new o → o ≡ Answered → Says new v → (v ≡ verdict_of book line) × (new ≡ book_passed book line)
answered book new line o v opens is says =
    let h : OpensLine book line new Answered = subst (OpensLine book line new) is opens in
    by_memory h.1.memory book new line v h.0 h.1.new_is h.1.at_once says

pub answered_verdict : (book new : Register) (line : List ℕ) (o : Opened) (result : Result Verdict JudgeFault) → OpensLine book line new o → o ≡ Answered → IfOk result (Says new) →
    IfOk result (λ v. v ≡ verdict_of book line)
answered_verdict book new line o (Ok v) opens is says = (answered book new line o v opens is says).0
answered_verdict book new line o (Err fault) opens is says = tt

pub answered_passed : (book new : Register) (line : List ℕ) (o : Opened) (result : Result Verdict JudgeFault) → OpensLine book line new o → o ≡ Answered → IfOk result (Says new) →
    IfOk result (λ v. is_full v ≡ false → new ≡ book_passed book line)
answered_passed book new line o (Ok v) opens is says = λ _. (answered book new line o v opens is says).1
answered_passed book new line o (Err fault) opens is says = tt

-- ---- a line that would run a program

run_taken : (s : Step) → is_run s ≡ true → verdict_by s ≡ verdict.Taken
run_taken (Runs program) is = refl
run_taken (Now told arrays) is = absurd (cc)

would_run : (book new : Register) (line : List ℕ) (o : Opened) (spec : Spec) → OpensLine book line new o → o ≡ ToRun spec → is_run (next_step book line) ≡ true
would_run book new line o spec opens is =
    let h : OpensLine book line new (ToRun spec) = subst (OpensLine book line new) is opens in
    let asks : ∥ open_step (request_opened book line) ≡ Runs (expanded_of spec.checked.program) ∥₁ =
    subst (λ x. ∥ open_step x ≡ Runs (expanded_of spec.checked.program) ∥₁) h.1 h.2.asks in
    ∥∥₁_elim asks (Bool-set (is_run (next_step book line)) true) (λ it. ap is_run it)

pub run_verdict : (book new : Register) (line : List ℕ) (o : Opened) (spec : Spec) → OpensLine book line new o → o ≡ ToRun spec → verdict.Taken ≡ verdict_of book line
run_verdict book new line o spec opens is =
    let h : OpensLine book line new (ToRun spec) = subst (OpensLine book line new) is opens in
    sym (taken_by book line h.0 ∙ run_taken (next_step book line) (would_run book new line o spec opens is))

pub run_passed : (book mid new : Register) (line : List ℕ) (o : Opened) (spec : Spec) → OpensLine book line mid o → o ≡ ToRun spec → new ≡ request_refused mid → new ≡ book_passed book line
run_passed book mid new line o spec opens is closes =
    let h : OpensLine book line mid (ToRun spec) = subst (OpensLine book line mid) is opens in
    closes ∙ ap request_refused h.1 ∙ sym (ap (line_logged book line) (would_run book mid line o spec opens is))
