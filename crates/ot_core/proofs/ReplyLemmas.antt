-- The replies from a place on.
use Rattle.std.proofs.Common.{◌≡◌, ◌<◌, ◌+◌, ◌-◌, ◌++◌, min, inl, inr, ℕ, zero, suc, List, [], ◌∷◌, length, map, take, drop, refl, sym, ap, ◌∙◌, arith, true≢false}
use Rattle.std.specs.Prelude.{Option, Some, None, is_some, option_map, slice_get}
use Rattle.std.proofs.lemmas.List.{at_drop_more, drop_min, nil_from_length, drop-drop, length-drop, length-take}
use Rattle.std.proofs.lemmas.Option.{same_Some, slice_get_cases, slice_get-map}
use Rattle.ot_book.specs.Answers.{told_with_numbers, Told}
use Rattle.ot_book.specs.Books.{number_at, reply_at}
use Rattle.ot_book.specs.Room.{Room}
use Rattle.ot_core.specs.Accounts.{Account, IsSoundAccount, told_so_far, answered_count, first_room, reply_in, replies_from}
use Rattle.ot_core.proofs.AccountLemmas.{length-told, next_after}

length-numbered : (n : ℕ) (says : List Told) → length (told_with_numbers n says) ≡ length says
length-numbered n [] = refl
length-numbered n (said ∷ says) = omega (arith, length-numbered (n + 1) says)

pub length-replies_from : (a : Account) (n : ℕ) → length (replies_from a n) ≡ answered_count a - n
length-replies_from a n = omega (arith, length-numbered (n + 1) (drop n (told_so_far a)), length-drop n (told_so_far a), length-told a)

pub replies-end : (a : Account) (n : ℕ) → None ≡ reply_in a n → replies_from a n ≡ []
replies-end a n none = elim ((slice_get_cases (told_so_far a) n).1) [
  | inl at ↦ absurd (true≢false (sym (ap is_some (none ∙ ap (option_map (λ (said : Told). (n + 1, said))) at.2))))
  | inr past ↦ ap (told_with_numbers (n + 1)) (nil_from_length (drop n (told_so_far a)) (omega (arith, past.0, length-drop n (told_so_far a))))
]

pub replies-step : (a : Account) (n : ℕ) (x : ℕ × Told) → Some x ≡ reply_in a n → (n < answered_count a) × (replies_from a n ≡ x ∷ replies_from a (n + 1))
replies-step a n x some = elim ((slice_get_cases (told_so_far a) n).1) [
  | inl at ↦
      let is : x ≡ (n + 1, at.0) = same_Some x (n + 1, at.0) (some ∙ ap (option_map (λ (said : Told). (n + 1, said))) at.2) in
      let rest : drop n (told_so_far a) ≡ at.0 ∷ drop (n + 1) (told_so_far a) = at_drop_more (λ l. l) (told_so_far a) n at.0 at.1 ∙ ap (λ (h : Told). h ∷ drop (n + 1) (told_so_far a)) at.3 in
      (omega (arith, at.1, length-told a), ap (told_with_numbers (n + 1)) rest ∙ ap (λ (h : ℕ × Told). h ∷ replies_from a (n + 1)) (sym is))
  | inr past ↦ absurd (true≢false (ap is_some (some ∙ ap (option_map (λ (said : Told). (n + 1, said))) past.1)))
]

numbered-drop : (k n : ℕ) (says : List Told) → told_with_numbers (n + k) (drop k says) ≡ drop k (told_with_numbers n says)
numbered-drop zero n says = let same : n + 0 ≡ n = omega arith in ap (λ m. told_with_numbers m says) same
numbered-drop (suc k) n [] = refl
numbered-drop (suc k) n (said ∷ says) =
    let same : n + suc k ≡ (n + 1) + k = omega arith in ap (λ m. told_with_numbers m (drop k says)) same ∙ numbered-drop k (n + 1) says

-- those behind so many, or behind all
pub replies-behind : (a : Account) (n k : ℕ) → replies_from a (n + min k (answered_count a - n)) ≡ drop k (replies_from a n)
replies-behind a n k =
    let rest = replies_from a n in
    let few = min k (answered_count a - n) in
    let same : few ≡ min k (length rest) = omega (arith, length-replies_from a n) in
    let first : n + few + 1 ≡ (n + 1) + few = omega arith in
    ap (λ m. told_with_numbers m (drop (n + few) (told_so_far a))) first
    ∙ ap (told_with_numbers ((n + 1) + few)) (sym (drop-drop few n (told_so_far a)))
    ∙ numbered-drop few (n + 1) (drop n (told_so_far a))
    ∙ ap (λ m. drop m rest) same
    ∙ drop_min k rest

-- ---- the reply at a place

front : (xs ys : List Told) (n : ℕ) → n < length xs → slice_get (xs ++ ys) n ≡ slice_get xs n
front [] ys n within = absurd (omega (arith, within))
front (x ∷ xs) ys zero within = refl
front (x ∷ xs) ys (suc n) within = front xs ys n (omega (arith, within))

behind : (xs ys : List Told) (n m : ℕ) → m ≡ length xs + n → slice_get (xs ++ ys) m ≡ slice_get ys n
behind [] ys n m is = ap (slice_get ys) (omega (arith, is))
behind (x ∷ xs) ys n zero is = absurd (omega (arith, is))
behind (x ∷ xs) ys n (suc m) is = behind xs ys n m (omega (arith, is))

-- one that is kept
pub reply_in-kept : (a : Account) (n : ℕ) (said : Told) → slice_get a.kept n ≡ Some said → n < length a.kept → Some (n + 1, said) ≡ reply_in a n
reply_in-kept a n said is within =
    sym (ap (option_map (λ (s : Told). (n + 1, s))) (front a.kept (map (λ (e : List ℕ × Told). e.1) a.book.log) n within ∙ is))

-- the first line of the log has the number behind those that are kept
first-is : (a : Account) → IsSoundAccount a → a.book.first ≡ length a.kept + 1
first-is a sound =
    let next = ap (λ (r : Room). r.next) sound.room in
    omega (arith, next, next_after (first_room a) (take (answered_count a) a.asked), length-take (answered_count a) a.asked, sound.within)

with_number : (n m : ℕ) (o : Option (List ℕ × Told)) → n ≡ m →
    option_map {U = ℕ × Told} (λ (e : List ℕ × Told). (n, e.1)) o ≡ option_map {U = ℕ × Told} (λ (said : Told). (m, said)) (option_map (λ (e : List ℕ × Told). e.1) o)
with_number n m None same = refl
with_number n m (Some e) same = ap (λ (k : ℕ). let r : ℕ × Told = (k, e.1) in Some r) same

-- one of the log
pub reply_in-log : (a : Account) (n place : ℕ) → IsSoundAccount a → n ≡ length a.kept + place → reply_at a.book place ≡ reply_in a n
reply_in-log a n place sound at =
    let log = a.book.log in
    let there : slice_get (told_so_far a) n ≡ option_map (λ (e : List ℕ × Told). e.1) (slice_get log place) =
    behind a.kept (map (λ (e : List ℕ × Told). e.1) log) place n at ∙ slice_get-map (λ (e : List ℕ × Told). e.1) log place in
    with_number (number_at a.book place) (n + 1) (slice_get log place) (omega (arith, first-is a sound, at))
    ∙ ap (option_map {U = ℕ × Told} (λ (said : Told). (n + 1, said))) (sym there)
