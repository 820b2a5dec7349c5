-- The replies given are the first of those that the lines give.
use Rattle.std.proofs.Common.{◌≡◌, ℕ, zero, suc, List, [], ◌∷◌, ◌++◌, length, map, take, drop, get_or, refl, sym, ap, ◌∙◌, subst, arith, Bool, false}
use Rattle.std.specs.Prelude.{slice_get}
use Rattle.std.proofs.lemmas.Option.{none-some, same_Some}
use Rattle.std.proofs.lemmas.List.{append-nil, take-append-drop, take_all, length-map, length-take}
use Rattle.std.proofs.Math.Seq.{take-append_seam}
use Rattle.ot_book.specs.Answers.{Told, is_lost, State, opening, answer_or_lost, answers}
use Rattle.ot_book.specs.Books.{state_in}
use Rattle.ot_book.proofs.BookLemmas.{answers-append}
use Rattle.ot_store.specs.declared.limits.Limits.{Limits}
use Rattle.ot_core.specs.Accounts.{Account, told_so_far, answered_count, lines_marked, IsSoundAccount}
use Rattle.ot_core.proofs.AccountLemmas.{length-told, marked-append}
use Rattle.ot_core.specs.Scenes.{Scene}
use Rattle.ot_core.specs.Draining.{AllAnswered}
use Rattle.ot_core.specs.Headline.{due_to, due_whole, AreFirst, IsTold, IsToldWhole, IsToldAll, TellsAsAlone, TellsAll, NoneLost, SameLosses, AgreeAt, AsksSame}

-- the headline of one tenant
pub told-first : (a : Account) → IsSoundAccount a → IsTold a
told-first a sound =
    let n = answered_count a in
    let limits = a.book.limits in
    let rest = drop n a.asked in
    let many : length (take n a.asked) ≡ length (told_so_far a) = omega (arith, sound.within, length-take n a.asked, length-told a) in
    let more = answers limits (state_in a.book) (lines_marked rest []) in
    let all : due_to limits a.base a.asked (told_so_far a) ≡ told_so_far a ++ more.0 =
    ap (λ ls. due_to limits a.base ls (told_so_far a)) (sym (take-append-drop n a.asked))
    ∙ ap (λ ls. (answers limits (opening a.base) ls).0) (ap (lines_marked (take n a.asked ++ rest)) (sym (append-nil (told_so_far a))) ∙ marked-append (take n a.asked) rest (told_so_far a) [] many)
    ∙ ap (λ (r : List Told × State). r.0) (answers-append limits (opening a.base) (lines_marked (take n a.asked) (told_so_far a)) (lines_marked rest []))
    ∙ ap (λ (r : List Told × State). r.0 ++ (answers limits r.1 (lines_marked rest [])).0) sound.whole in
    sym (ap (take (length (told_so_far a))) all ∙ take-append_seam (told_so_far a) more.0)

marked-whole : (lines : List (List ℕ)) (says : List Told) → NoneLost says → lines_marked lines says ≡ map (λ line. (line, false)) lines
marked-whole [] says none = refl
marked-whole (line ∷ lines) [] none = ap (λ (ls : List (List ℕ × Bool)). (line, false) ∷ ls) (marked-whole lines [] none)
marked-whole (line ∷ lines) (said ∷ says) none =
    ap (λ lost. (line, lost) ∷ lines_marked lines says) (none zero said refl)
    ∙ ap (λ (ls : List (List ℕ × Bool)). (line, false) ∷ ls) (marked-whole lines says (λ i. none (suc i)))

-- where none is told for want of memory
pub told-whole : (a : Account) → IsSoundAccount a → NoneLost (told_so_far a) → IsToldWhole a
told-whole a sound none =
    told-first a sound ∙ ap (λ ls. take (length (told_so_far a)) (answers a.book.limits (opening a.base) ls).0) (marked-whole a.asked (told_so_far a) none)

nothing_first : (xs : List Told) → AreFirst xs [] → xs ≡ []
nothing_first [] first = refl
nothing_first (x ∷ xs) first = first

-- one reply is the first, and the others those that follow
first-head : (x a : Told) (xs all : List Told) → AreFirst (x ∷ xs) (a ∷ all) → x ≡ a
first-head x a xs all first = ap (λ l. get_or l 0 x) first

first-tail : (x a : Told) (xs all : List Told) → AreFirst (x ∷ xs) (a ∷ all) → AreFirst xs all
first-tail x a xs all first = ap (drop 1) first

agree : (limits : Limits) (s : State) (lines : List (List ℕ)) (xs ys : List Told) (i : ℕ)
    → AreFirst xs (answers limits s (lines_marked lines xs)).0 → AreFirst ys (answers limits s (lines_marked lines ys)).0 → SameLosses xs ys i → AgreeAt xs ys i
agree limits s [] xs ys i fx fy same = λ x y at _. absurd (none-some x (ap (λ l. slice_get l i) (sym (nothing_first xs fx)) ∙ at))
agree limits s (l ∷ lines) [] ys i fx fy same = λ x y at _. absurd (none-some x at)
agree limits s (l ∷ lines) (x ∷ xs) [] i fx fy same = λ p q _ at. absurd (none-some q at)
agree limits s (l ∷ lines) (x ∷ xs) (y ∷ ys) zero fx fy same = λ p q p_is q_is.
    sym (same_Some x p p_is) ∙ first-head x _ xs _ fx ∙ ap (λ lost. (answer_or_lost limits s l lost).0) (same zero x y (omega arith) refl refl)
    ∙ sym (first-head y _ ys _ fy) ∙ same_Some y q q_is
agree limits s (l ∷ lines) (x ∷ xs) (y ∷ ys) (suc i) fx fy same =
    let lost : is_lost y ≡ is_lost x = sym (same zero x y (omega arith) refl refl) in
    agree limits (answer_or_lost limits s l (is_lost x)).1 lines xs ys i (first-tail x _ xs _ fx)
    (subst (λ b. AreFirst ys (answers limits (answer_or_lost limits s l b).1 (lines_marked lines ys)).0) lost (first-tail y _ ys _ fy))
    (λ j p q below. same (suc j) p q (omega (arith, below)))

-- two tenants that asked the same are told the same, as far as memory ran out at the same places
pub same-told : (a b : Account) → IsTold a → IsTold b → AsksSame a b → (i : ℕ) → SameLosses (told_so_far a) (told_so_far b) i → AgreeAt (told_so_far a) (told_so_far b) i
same-told a b ta tb asks i same =
    agree a.book.limits (opening a.base) a.asked (told_so_far a) (told_so_far b) i ta
    (rw (← asks.asked, ← asks.base, ← asks.limits) tb) same

-- and at each place that both have, where it never ran out
pub same-whole : (a b : Account) → NoneLost (told_so_far a) → NoneLost (told_so_far b) → (i : ℕ) → SameLosses (told_so_far a) (told_so_far b) i
same-whole a b na nb i = λ j x y _ p q. na j x p ∙ sym (nb j y q)

-- ---- once all lines are answered

answers-length : (limits : Limits) (s : State) (ls : List (List ℕ × Bool)) → length (answers limits s ls).0 ≡ length ls
answers-length limits s [] = refl
answers-length limits s (l ∷ ls) = ap suc (answers-length limits (answer_or_lost limits s l.0 l.1).1 ls)

marked-length : (lines : List (List ℕ)) (says : List Told) → length (lines_marked lines says) ≡ length lines
marked-length [] says = refl
marked-length (line ∷ lines) [] = ap suc (marked-length lines [])
marked-length (line ∷ lines) (said ∷ says) = ap suc (marked-length lines says)

-- the first of so many are all
first-all : (says all : List Told) → AreFirst says all → length all ≡ length says → says ≡ all
first-all says all first many = first ∙ take_all (length says) all (omega (arith, many))

told-all : (a : Account) → IsTold a × (NoneLost (told_so_far a) → IsToldWhole a) → answered_count a ≡ length a.asked → IsToldAll a
told-all a tells answered_is =
    let many : length (told_so_far a) ≡ length a.asked = length-told a ∙ answered_is in
    let lines = lines_marked a.asked (told_so_far a) in record {
      many = many;
      all = first-all (told_so_far a) (due_to a.book.limits a.base a.asked (told_so_far a)) tells.0
          (answers-length a.book.limits (opening a.base) lines ∙ marked-length a.asked (told_so_far a) ∙ sym many);
      whole = λ none. first-all (told_so_far a) (due_whole a.book.limits a.base a.asked) (tells.1 none)
          (answers-length a.book.limits (opening a.base) (map (λ line. (line, false)) a.asked) ∙ length-map a.asked (λ (line : List ℕ). (line, false)) ∙ sym many);
    }

pub tells-all : (s : Scene) → TellsAsAlone s → AllAnswered s → TellsAll s
tells-all s tells answered_all = λ t a at. told-all a (tells t a at) (answered_all t a at)
