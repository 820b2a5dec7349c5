-- A book that was given one line.
use mathlib.Core.Bool.{Bool-set}
use Rattle.std.proofs.Common.{◌≡◌, ◌⊎◌, ℕ, ◌-◌, List, [], ◌∷◌, ◌++◌, length, refl, sym, ap, ◌∙◌, subst, arith, inl, inr, Bool, true, false, true≢false}
use Rattle.std.specs.Prelude.{Option, Some, None, Result, Ok, Err, IfOk, option_map, slice_get}
use Rattle.std.proofs.Math.Logic.{∥∥₁_elim}
use Rattle.ot_model.specs.Programs.{Expanded, expanded_of}
use Rattle.ot_model.specs.Serial.{serial_run}
use Rattle.ot_model.specs.Cells.{lengths}
use Rattle.ot_check.specs.Jobs.{Spec}
use Rattle.ot_store.specs.Arrays.{Named, arrays_listed, cells_in, with_cells}
use Rattle.ot_store.specs.Refusals.{usual_limits}
use Rattle.ot_store.proofs.ArraysLemmas.{names_in-recelled, cells_in-recelled}
use Rattle.ot_book.specs.Answers.{State, Step, Now, Runs, step_done, step_of, answer, answer_or_lost, Told, is_lost, is_run}
use Rattle.ot_book.specs.Books.{Register, state_in, next_step, register_with_line, log_cleared, line_logged, request_opened, open_step, given_up, IsFullFor, OpensLine, last_told}
use Rattle.ot_book.specs.declared.book.Opened.{Opened}
use Rattle.ot_book.specs.declared.book.Opened.TheVariants.{Full, Answered, ToRun}
use Rattle.ot_book.proofs.BookLemmas.{is_lost-answer_or_lost, logged-by, state-cleared, state-logged}
use Rattle.ot_book.proofs.SerialLengths.{lengths-serial}
use Rattle.ot_client_mirror.specs.Given.{Given, book_begun, ran_out}
use Rattle.ot_client_mirror.specs.Mirrors.{left_by, sizes_sent}
use Rattle.ot_client_mirror.proofs.SizesLemmas.{listed-same, left-sent}

-- ---- which line it was given

free : (arrays : List Named) (line : List ℕ) → IsFullFor (book_begun arrays) line → ⊥
free arrays line (inl some) = absurd (true≢false (sym some))
free arrays line (inr (inl past)) = absurd (omega (arith, past))
free arrays line (inr (inr at)) = absurd (omega (arith, at.0))

-- the log of such a book isn't full
pub given_full : (arrays : List Named) (line : List ℕ) (old new : Register) (o : Opened) → old ≡ book_begun arrays → OpensLine old line new o → o ≡ Full → ⊥
given_full arrays line old new o first opens is =
    let full : OpensLine old line new Full = subst (OpensLine old line new) is opens in
    free arrays line (subst (λ b. IsFullFor b line) first full.0)

pub given_answered : (arrays : List Named) (line : List ℕ) (old new : Register) (o : Opened) → old ≡ book_begun arrays → OpensLine old line new o → o ≡ Answered → Given arrays line new
given_answered arrays line old new o first opens is =
    let answered : OpensLine old line new Answered = subst (OpensLine old line new) is opens in
    inl (answered.1.memory, answered.1.new_is ∙ ap (λ b. line_logged b line answered.1.memory) first)

pub given_run : (arrays : List Named) (line : List ℕ) (old mid new : Register) (o : Opened) (spec : Spec) → old ≡ book_begun arrays → OpensLine old line mid o → o ≡ ToRun spec → new ≡ given_up mid →
    Given arrays line new
given_run arrays line old mid new o spec first opens is gives =
    let runs : OpensLine old line mid (ToRun spec) = subst (OpensLine old line mid) is opens in
    let opened_is : mid ≡ request_opened (book_begun arrays) line = runs.1 ∙ ap (λ b. request_opened b line) first in
    let asks : ∥ open_step (request_opened (book_begun arrays) line) ≡ Runs (expanded_of spec.checked.program) ∥₁ =
    subst (λ x. ∥ open_step x ≡ Runs (expanded_of spec.checked.program) ∥₁) opened_is runs.2.asks in
    inr (∥∥₁_elim asks (Bool-set (is_run (next_step (book_begun arrays) line)) true) (λ it. ap is_run it), gives ∙ ap given_up opened_is)

-- ---- what was told last

told_behind : (log : List (List ℕ × Told)) (line : List ℕ) (told : Told) (n : ℕ) → log ≡ [] →
    option_map (λ (r : ℕ × Told). r.1) (option_map (λ (e : List ℕ × Told). (n, e.1)) (slice_get (log ++ (line, told) ∷ []) (length (log ++ (line, told) ∷ []) - 1))) ≡ Some told
told_behind log line told n none =
    ap (λ (l : List (List ℕ × Told)). option_map (λ (r : ℕ × Told). r.1) (option_map (λ (e : List ℕ × Told). (n, e.1)) (slice_get (l ++ (line, told) ∷ []) (length (l ++ (line, told) ∷ []) - 1)))) none

told-appended : (b : Register) (line : List ℕ) (memory : Bool) → b.log ≡ [] → last_told (register_with_line b line memory) ≡ Some (answer_or_lost b.limits (state_in b) line memory).0
told-appended b line memory none = told_behind b.log line (answer_or_lost b.limits (state_in b) line memory).0 _ none

pub told-given : (arrays : List Named) (line : List ℕ) (memory : Bool) →
    last_told (line_logged (book_begun arrays) line memory) ≡ Some (answer_or_lost usual_limits (state_in (book_begun arrays)) line memory).0
told-given arrays line memory =
    let b = book_begun arrays in
    logged-by (λ x. last_told x ≡ Some (answer_or_lost usual_limits (state_in b) line memory).0) b line memory _ refl
    (λ _. told-appended (log_cleared b) line memory refl ∙ ap (λ s. Some (answer_or_lost usual_limits s line memory).0) (state-cleared b))
    (λ _. told-appended b line memory refl)

lost-given : (arrays : List Named) (line : List ℕ) (memory : Bool) → ran_out (line_logged (book_begun arrays) line memory) ≡ memory
lost-given arrays line memory =
    ap (λ (o : Option Told). lost_in o) (told-given arrays line memory) ∙ is_lost-answer_or_lost usual_limits (state_in (book_begun arrays)) line memory
  where
    lost_in : Option Told → Bool
    lost_in None = false
    lost_in (Some told) = is_lost told

-- ---- what it has

-- a run keeps names and lengths
pub listed-finished : (s : State) (step : Step) → arrays_listed (step_done s step).1.arrays ≡ left_by (arrays_listed s.arrays) step
listed-finished s (Now told arrays) = refl
listed-finished s (Runs p) =
    let run = serial_run p.body (cells_in s.arrays) in
    let same = lengths-serial p.body (record { cells = cells_in s.arrays; tasks = 0; units = 0 }) in
    listed-same s.arrays (with_cells s.arrays run.cells) (names_in-recelled s.arrays run.cells same) (ap lengths (cells_in-recelled s.arrays run.cells same) ∙ same)

run_leaves : (sizes : List (List ℕ × ℕ)) (step : Step) → is_run step ≡ true → left_by sizes step ≡ sizes
run_leaves sizes (Now told arrays) is = absurd (cc)
run_leaves sizes (Runs p) is = refl

pub answered_leaves : (arrays : List Named) (line : List ℕ) (memory : Bool) → memory ≡ false → arrays_listed (line_logged (book_begun arrays) line memory).store ≡ sizes_sent (arrays_listed arrays) line
answered_leaves arrays line memory enough =
    let s = state_in (book_begun arrays) in
    ap (λ (t : State). arrays_listed t.arrays) (state-logged (book_begun arrays) line memory)
    ∙ ap (λ m. arrays_listed (answer_or_lost usual_limits s line m).1.arrays) enough
    ∙ listed-finished s (step_of usual_limits arrays 0 line)
    ∙ left-sent arrays 0 line

pub given_leaves : (arrays : List Named) (line : List ℕ) (book : Register) → Given arrays line book → ran_out book ≡ false → arrays_listed book.store ≡ sizes_sent (arrays_listed arrays) line
given_leaves arrays line book (inl answered) enough =
    let spared : answered.0 ≡ false = sym (lost-given arrays line answered.0) ∙ ap ran_out (sym answered.1) ∙ enough in
    ap (λ (b : Register). arrays_listed b.store) answered.1 ∙ answered_leaves arrays line answered.0 spared
given_leaves arrays line book (inr run) enough =
    ap (λ (b : Register). arrays_listed b.store) run.1 ∙ sym (run_leaves (arrays_listed arrays) (next_step (book_begun arrays) line) run.0) ∙ left-sent arrays 0 line

-- a copy of its arrays
pub copied : {E : Type 0} (result : Result (List Named) E) (store : List Named) (sizes : List (List ℕ × ℕ)) → IfOk result (λ new. new ≡ store) → arrays_listed store ≡ sizes → IfOk result (λ new. arrays_listed new ≡ sizes)
copied (Ok new) store sizes is same = ap arrays_listed is ∙ same
copied (Err why) store sizes is same = tt
