-- What lines come to, followed by more lines.
use Rattle.std.proofs.Common.{◌≡◌, ℕ, List, [], ◌∷◌, ◌++◌, refl, ap, Bool, true, false}
use Rattle.std.specs.Prelude.{Option, Some, None, if◌then◌else◌}
use Rattle.ot_book.specs.Answers.{Step, Now, Runs}
use Rattle.ot_book.specs.Books.{Register, next_number, next_step, line_logged}
use Rattle.ot_session.specs.Session.{after}
use Rattle.ot_session.specs.declared.fault.End.{End}
use Rattle.ot_session.specs.declared.fault.End.TheVariants.{Bye, EndOfInput, Full, LongLine, Closed}
use Rattle.ot_show_last.specs.LastRuns.{Run, Found, Taken, BadAt, answer_of, is_refusal, run_over, found_by, last_found, closed_by}
use Rattle.ot_show_last.specs.Going.{lines_kept}
use Rattle.ot_show_last.specs.declared.fault.Untaken.{Untaken}

-- ---- all are taken

choose : (t : Bool) (n : ℕ) (a : Untaken) (x y r : Found) (got : Option Run) → (x ≡ Taken got → y ≡ r) → (if t then BadAt n a else x) ≡ Taken got → (if t then BadAt n a else y) ≡ r
choose true n a x y r got on is = cc
choose false n a x y r got on is = on is

on_taken : (s : Step) (b : Register) (last got : Option Run) (f g : Option Run → Found) (r : Found) → ((now : Option Run) → f now ≡ Taken got → g now ≡ r) →
    found_by s b last f ≡ Taken got → found_by s b last g ≡ r
on_taken (Runs p) b last got f g r on is = on (Some (run_over b.store p)) is
on_taken (Now told arrays) b last got f g r on is = choose (is_refusal told) (next_number b) (answer_of told) (f last) (g last) r got (on last) is

taken_same : (a b : Option Run) → Taken a ≡ Taken b → a ≡ b
taken_same a b is = cc

-- then those behind them go on from there
pub found-append : (b : Register) (last got : Option Run) (xs ys : List (List ℕ)) → last_found b last xs ≡ Taken got → last_found b last (xs ++ ys) ≡ last_found (after b (lines_kept xs)) got ys
found-append b last got [] ys is = ap (λ l. last_found b l ys) (taken_same last got is)
found-append b last got (x ∷ xs) ys is =
    on_taken (next_step b x) b last got (λ now. last_found (line_logged b x false) now xs) (λ now. last_found (line_logged b x false) now (xs ++ ys))
    (last_found (after (line_logged b x false) (lines_kept xs)) got ys) (λ now h. found-append (line_logged b x false) now got xs ys h) is

-- ---- one isn't

choose_bad : (t : Bool) (m n : ℕ) (a e : Untaken) (x y : Found) → (x ≡ BadAt n e → y ≡ BadAt n e) → (if t then BadAt m a else x) ≡ BadAt n e → (if t then BadAt m a else y) ≡ BadAt n e
choose_bad true m n a e x y on is = is
choose_bad false m n a e x y on is = on is

on_bad : (s : Step) (b : Register) (last : Option Run) (n : ℕ) (e : Untaken) (f g : Option Run → Found) → ((now : Option Run) → f now ≡ BadAt n e → g now ≡ BadAt n e) →
    found_by s b last f ≡ BadAt n e → found_by s b last g ≡ BadAt n e
on_bad (Runs p) b last n e f g on is = on (Some (run_over b.store p)) is
on_bad (Now told arrays) b last n e f g on is = choose_bad (is_refusal told) (next_number b) n (answer_of told) e (f last) (g last) (on last) is

-- then it is the first, whatever follows
pub found-bad : (b : Register) (last : Option Run) (n : ℕ) (e : Untaken) (xs ys : List (List ℕ)) → last_found b last xs ≡ BadAt n e → last_found b last (xs ++ ys) ≡ BadAt n e
found-bad b last n e [] ys is = cc
found-bad b last n e (x ∷ xs) ys is =
    on_bad (next_step b x) b last n e (λ now. last_found (line_logged b x false) now xs) (λ now. last_found (line_logged b x false) now (xs ++ ys))
    (λ now h. found-bad (line_logged b x false) now n e xs ys h) is

-- however the session closes
pub closed_bad : (end : Option End) (n m : ℕ) (e : Untaken) → closed_by end n (BadAt m e) ≡ BadAt m e
closed_bad None n m e = refl
closed_bad (Some Bye) n m e = refl
closed_bad (Some EndOfInput) n m e = refl
closed_bad (Some Full) n m e = refl
closed_bad (Some LongLine) n m e = refl
closed_bad (Some Closed) n m e = refl
