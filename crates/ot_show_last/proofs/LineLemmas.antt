-- What a line comes to, by what the book did.
use Rattle.std.proofs.Common.{◌≡◌, ◌⊎◌, ℕ, ◌-◌, ◌<◌, List, [], ◌∷◌, ◌++◌, length, refl, sym, ap, ◌∙◌, subst, arith, length-append, inl, inr, Bool, true, false}
use Rattle.std.specs.Prelude.{Option, Some, None, Result, Ok, Err, OnOk, OnErr, ⊤, option_map, slice_get, if◌then◌else◌}
use Rattle.std.specs.Coded.{Coded, code_by, coded×, coded_ℕ, coded_list, Coded-set}
use Rattle.std.proofs.Math.Logic.{∥∥₁_elim}
use Rattle.ot_model.specs.Code.{section_code, body_code}
use Rattle.ot_model.specs.Programs.{Expanded, expanded_of}
use Rattle.ot_model.specs.Tree.{Body}
use Rattle.ot_model.specs.declared.expr.Section.{Section}
use Rattle.ot_check.specs.Jobs.{Spec}
use Rattle.ot_store.specs.Arrays.{Named, arrays_listed, cells_in}
use Rattle.ot_book.specs.Answers as r
use Rattle.ot_book.specs.Answers.{Now, Runs, answer_or_lost, step_done, is_checkpoint}
use Rattle.ot_book.specs.Books.{Register, state_in, next_number, next_step, register_with_line, log_cleared, line_logged, request_opened, open_step, request_closed, IsFullFor, AnswersNow, OpensLine, last_told}
use Rattle.ot_book.specs.declared.book.Opened.{Opened}
use Rattle.ot_book.specs.declared.book.Opened.TheVariants.{Full, Answered, ToRun}
use Rattle.ot_book.proofs.BookLemmas.{logged-by, state-cleared}
use Rattle.ot_book.proofs.RoomLemmas.{free-takes, full-takes}
use Rattle.ot_session.specs.Session.{is_bye}
use Rattle.ot_session.proofs.RunLemmas.{run_asked}
use Rattle.ot_session.proofs.ToldLemmas.{slice_get-seam, some-logged}
use Rattle.ot_show_last.specs.LastRuns.{Run, Taken, BadAt, answer_of, is_refusal, run_with, run_over, found_by, last_found}
use Rattle.ot_show_last.specs.Going.{GoesOnHearing, GoesOrStops, Says, told_result}
use Rattle.ot_show_last.specs.declared.fault.Untaken.TheVariants as answer
use Rattle.ot_show_last.specs.declared.stop.Stop.{Stop}
use Rattle.ot_show_last.specs.declared.stop.Stop.TheVariants.{Bad, Memory}
use Rattle.ot_show_last.proofs.GoingLemmas.{going_line, stops_refused, stops_full, closed_going}

-- ---- what was told last

told_behind : (log : List (List ℕ × r.Told)) (line : List ℕ) (told : r.Told) →
    option_map (λ (e : List ℕ × r.Told). e.1) (slice_get (log ++ (line, told) ∷ []) (length (log ++ (line, told) ∷ []) - 1)) ≡ Some told
told_behind log line told =
    let place : length (log ++ (line, told) ∷ []) - 1 ≡ length log = omega (arith, length-append log ((line, told) ∷ [])) in
    ap (λ n. option_map (λ (e : List ℕ × r.Told). e.1) (slice_get (log ++ (line, told) ∷ []) n)) place
    ∙ ap (option_map (λ (e : List ℕ × r.Told). e.1)) (slice_get-seam log (line, told) [])

told_of_reply : (o : Option (List ℕ × r.Told)) (n : ℕ) → option_map (λ (x : ℕ × r.Told). x.1) (option_map (λ (e : List ℕ × r.Told). (n, e.1)) o) ≡ option_map (λ (e : List ℕ × r.Told). e.1) o
told_of_reply None n = refl
told_of_reply (Some e) n = refl

told-appended : (b : Register) (line : List ℕ) (memory : Bool) → last_told (register_with_line b line memory) ≡ Some (answer_or_lost b.limits (state_in b) line memory).0
told-appended b line memory =
    let told = (answer_or_lost b.limits (state_in b) line memory).0 in
    told_of_reply (slice_get (b.log ++ (line, told) ∷ []) (length (b.log ++ (line, told) ∷ []) - 1)) _ ∙ told_behind b.log line told

pub told-logged : (b : Register) (line : List ℕ) (memory : Bool) → last_told (line_logged b line memory) ≡ Some (answer_or_lost b.limits (state_in b) line memory).0
told-logged b line memory =
    logged-by (λ x. last_told x ≡ Some (answer_or_lost b.limits (state_in b) line memory).0) b line memory (is_checkpoint line) refl
    (λ _. told-appended (log_cleared b) line memory ∙ ap (λ s. Some (answer_or_lost b.limits s line memory).0) (state-cleared b))
    (λ _. told-appended b line memory)

told-now : (b : Register) (line : List ℕ) (told : r.Told) (arrays : List Named) → next_step b line ≡ Now told arrays → last_told (line_logged b line false) ≡ Some told
told-now b line told arrays is = told-logged b line false ∙ ap (λ s. Some (step_done (state_in b) s).0) is

-- ---- a line that is answered at once

not_refused : (book : Register) (last : Option Run) (line : List ℕ) (told : r.Told) (arrays : List Named) → next_step book line ≡ Now told arrays → is_refusal told ≡ false →
    last_found book last (line ∷ []) ≡ Taken last
not_refused book last line told arrays is fine =
    ap (λ s. found_by s book last (λ now. Taken now)) is ∙ ap (λ t. if t then BadAt (next_number book) (answer_of told) else Taken last) fine

refused : (book : Register) (last : Option Run) (line : List ℕ) (told : r.Told) (arrays : List Named) (number : ℕ) → next_step book line ≡ Now told arrays → is_refusal told ≡ true →
    number ≡ next_number book → last_found book last (line ∷ []) ≡ BadAt number (answer_of told)
refused book last line told arrays number is bad same =
    ap (λ s. found_by s book last (λ now. Taken now)) is ∙ ap (λ t. if t then BadAt (next_number book) (answer_of told) else Taken last) bad ∙ ap (λ n. BadAt n (answer_of told)) (sym same)

goes_told : {bytes line : List ℕ} {book : Register} {last : Option Run} → (told : r.Told) (arrays : List Named) (number : ℕ) → GoesOnHearing bytes line book last → is_bye line ≡ false →
    ¬ (IsFullFor book line) → next_step book line ≡ Now told arrays → number ≡ next_number book → GoesOrStops (bytes ++ 10 ∷ []) [] (line_logged book line false) last (told_result told number)
goes_told {bytes} {line} {book} {last} r.Accepted arrays number g bye free is same = going_line last g bye (free-takes book line free) (not_refused book last line _ arrays is refl)
goes_told {bytes} {line} {book} {last} (r.Cells v) arrays number g bye free is same = going_line last g bye (free-takes book line free) (not_refused book last line _ arrays is refl)
goes_told {bytes} {line} {book} {last} (r.Arrays v) arrays number g bye free is same = going_line last g bye (free-takes book line free) (not_refused book last line _ arrays is refl)
goes_told {bytes} {line} {book} {last} (r.Used v) arrays number g bye free is same = going_line last g bye (free-takes book line free) (not_refused book last line _ arrays is refl)
goes_told {bytes} {line} {book} {last} (r.Done t u v) arrays number g bye free is same = going_line last g bye (free-takes book line free) (not_refused book last line _ arrays is refl)
goes_told {bytes} {line} {book} {last} (r.Refused code) arrays number g bye free is same = stops_refused number (answer.Refused code) g bye (free-takes book line free) (refused book last line _ arrays number is refl same)
goes_told {bytes} {line} {book} {last} (r.Offends code place) arrays number g bye free is same = stops_refused number (answer.Offends code place) g bye (free-takes book line free) (refused book last line _ arrays number is refl same)
goes_told {bytes} {line} {book} {last} r.Lost arrays number g bye free is same = λ more. tt

by_memory : {bytes line : List ℕ} {book : Register} {last : Option Run} → (memory : Bool) (new : Register) (number : ℕ) (result : Result ⊤ Stop) → GoesOnHearing bytes line book last →
    is_bye line ≡ false → ¬ (IsFullFor book line) → new ≡ line_logged book line memory → ((memory ≡ true) ⊎ ((told : r.Told) × (arrays : List Named) × (next_step book line ≡ Now told arrays))) →
    number ≡ next_number book → ((told : r.Told) → last_told new ≡ Some told → result ≡ told_result told number) → GoesOrStops (bytes ++ 10 ∷ []) [] new last result
by_memory {bytes} {line} {book} {last} true new number result g bye free is once same says =
    let lost : result ≡ Err Memory = says r.Lost (ap last_told is ∙ told-logged book line true) in
    subst (GoesOrStops (bytes ++ 10 ∷ []) [] new last) (sym lost) (λ more. tt)
by_memory {bytes} {line} {book} {last} false new number result g bye free is (inl lost) same says = cc
by_memory {bytes} {line} {book} {last} false new number result g bye free is (inr step) same says =
    let told_is : result ≡ told_result step.0 number = says step.0 (ap last_told is ∙ told-now book line step.0 step.1 step.2) in
    subst (GoesOrStops (bytes ++ 10 ∷ []) [] new last) (sym told_is)
    (subst (λ b. GoesOrStops (bytes ++ 10 ∷ []) [] b last (told_result step.0 number)) (sym is) (goes_told step.0 step.1 number g bye free step.2 same))

pub answered_line : {bytes line : List ℕ} {book : Register} {last : Option Run} → (new : Register) (number : ℕ) (result : Result ⊤ Stop) → GoesOnHearing bytes line book last →
    is_bye line ≡ false → ¬ (IsFullFor book line) → AnswersNow book line new → number ≡ next_number book →
    ((told : r.Told) → last_told new ≡ Some told → result ≡ told_result told number) → GoesOrStops (bytes ++ 10 ∷ []) [] new last result
answered_line new number result g bye free now same says = by_memory now.memory new number result g bye free now.new_is now.at_once same says

-- ---- a line that runs a program

-- two programs are equal in at most one way
expanded_code : Coded Expanded
expanded_code =
    code_by (List Section × (Body × (ℕ × ℕ))) (coded× (coded_list section_code) (coded× body_code (coded× coded_ℕ coded_ℕ)))
    (λ p. (p.shows, (p.body, (p.statements, p.tasks)))) (λ q. record { shows = q.0; body = q.1.0; statements = q.1.1.0; tasks = q.1.1.1 }) (λ _. refl)

runs_same : (p q : Expanded) → Runs p ≡ Runs q → p ≡ q
runs_same p q is = cc

-- the program that the line runs
pub runs_it : (book new : Register) (line : List ℕ) (o : Opened) (spec : Spec) → OpensLine book line new o → o ≡ ToRun spec →
    next_step book line ≡ Runs (expanded_of spec.checked.program)
runs_it book new line o spec opens is =
    let asked = run_asked book new line o spec opens is in
    let h : OpensLine book line new (ToRun spec) = subst (OpensLine book line new) is opens in
    let asks : ∥ open_step (request_opened book line) ≡ Runs (expanded_of spec.checked.program) ∥₁ =
    subst (λ x. ∥ open_step x ≡ Runs (expanded_of spec.checked.program) ∥₁) h.1 h.2.asks in
    let same : asked.0 ≡ expanded_of spec.checked.program =
    ∥∥₁_elim asks (Coded-set expanded_code asked.0 (expanded_of spec.checked.program)) (λ it. runs_same asked.0 (expanded_of spec.checked.program) (sym asked.1 ∙ it)) in
    asked.1 ∙ ap Runs same

pub run_line : {bytes line : List ℕ} {book : Register} {last : Option Run} → (mid new : Register) (o : Opened) (spec : Spec) (now : Option Run) → GoesOnHearing bytes line book last →
    is_bye line ≡ false → OpensLine book line mid o → o ≡ ToRun spec → new ≡ request_closed mid →
    now ≡ Some (run_with (expanded_of spec.checked.program) (arrays_listed mid.store) spec.before) → GoesOnHearing (bytes ++ 10 ∷ []) [] new now
run_line {bytes} {line} {book} {last} mid new o spec now g bye opens is closes runs =
    let h : OpensLine book line mid (ToRun spec) = subst (OpensLine book line mid) is opens in
    let program = expanded_of spec.checked.program in
    let new_is : new ≡ line_logged book line false = closes ∙ ap request_closed h.1 in
    let store : mid.store ≡ book.store = ap (λ (b : Register). b.store) h.1 in
    let now_is : now ≡ Some (run_over book.store program) =
    runs
    ∙ ap (λ s. Some (run_with program (arrays_listed s) spec.before)) store
    ∙ ap (λ cells. Some (run_with program (arrays_listed book.store) cells)) (h.2.cells ∙ ap cells_in store) in
    let found_is : last_found book last (line ∷ []) ≡ Taken now =
    ap (λ s. found_by s book last (λ x. Taken x)) (runs_it book mid line o spec opens is) ∙ ap Taken (sym now_is) in
    subst (λ b. GoesOnHearing (bytes ++ 10 ∷ []) [] b now) (sym new_is) (going_line now g bye (free-takes book line h.0) found_is)

-- run, or stopped for want of memory
pub run_goes : {bytes line : List ℕ} {book : Register} {last : Option Run} → (mid new : Register) (o : Opened) (spec : Spec) (result : Result ⊤ Stop) (now : Option Run) → GoesOnHearing bytes line book last →
    is_bye line ≡ false → OpensLine book line mid o → o ≡ ToRun spec → OnOk result (new ≡ request_closed mid) →
    OnOk result (now ≡ Some (run_with (expanded_of spec.checked.program) (arrays_listed mid.store) spec.before)) → OnErr result (result ≡ Err Memory) → GoesOrStops (bytes ++ 10 ∷ []) [] new now result
run_goes {bytes} {line} {book} {last} mid new o spec (Ok done) now g bye opens is closes runs memory = run_line mid new o spec now g bye opens is closes runs
run_goes {bytes} {line} {book} {last} mid new o spec (Err stop) now g bye opens is closes runs memory =
    subst (GoesOrStops (bytes ++ 10 ∷ []) [] new now) (sym memory) (λ more. tt)

pub some-answered : (book : Register) (line : List ℕ) (new : Register) → AnswersNow book line new → 0 < length new.log
some-answered book line new now = omega (arith, some-logged book line now.memory, ap (λ (b : Register). length b.log) now.new_is)

-- ---- by what the book answered

pub full_line : {bytes line : List ℕ} {book : Register} {last : Option Run} → (mid : Register) (o : Opened) (number : ℕ) → GoesOnHearing bytes line book last → is_bye line ≡ false →
    OpensLine book line mid o → o ≡ Full → number ≡ next_number book → (more : List ℕ) → Says ((bytes ++ 10 ∷ []) ++ more) last (Bad number answer.Full)
full_line {bytes} {line} {book} mid o number g bye opens is same =
    let h : OpensLine book line mid Full = subst (OpensLine book line mid) is opens in
    stops_full number g bye (full-takes book line (closed_going g) h.0) same

pub now_line : {bytes line : List ℕ} {book : Register} {last : Option Run} → (new : Register) (o : Opened) (number : ℕ) (result : Result ⊤ Stop) → GoesOnHearing bytes line book last →
    is_bye line ≡ false → OpensLine book line new o → o ≡ Answered → number ≡ next_number book →
    ((told : r.Told) → last_told new ≡ Some told → result ≡ told_result told number) → GoesOrStops (bytes ++ 10 ∷ []) [] new last result
now_line {bytes} {line} {book} new o number result g bye opens is same says =
    let h : OpensLine book line new Answered = subst (OpensLine book line new) is opens in
    answered_line new number result g bye h.0 h.1 same says

pub some-opened : (book : Register) (line : List ℕ) (new : Register) (o : Opened) → OpensLine book line new o → o ≡ Answered → 0 < length new.log
some-opened book line new o opens is =
    let h : OpensLine book line new Answered = subst (OpensLine book line new) is opens in some-answered book line new h.1
