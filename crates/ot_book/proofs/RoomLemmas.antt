-- The room of a book, and of lines one after another.
use Rattle.std.proofs.Common.{◌≡◌, ℕ, ◌+◌, ◌≤◌, ◌<◌, List, [], ◌∷◌, ◌++◌, length, take, refl, sym, ap, ◌∙◌, arith, inl, inr, zero, suc, Bool, true, false, true≢false, length-append}
use Rattle.std.specs.Prelude.{Some, None, nat_le, if◌then◌else◌, slice_get}
use Rattle.std.proofs.lemmas.Bool.{le-leb}
use Rattle.std.proofs.lemmas.Bool.Decides.{leb_tells}
use Rattle.ot_book.specs.Answers.{is_checkpoint, answer_or_lost}
use Rattle.ot_book.specs.Books.{Register, next_number, max_number, state_in, line_logged, IsFullFor}
use Rattle.ot_book.specs.Room.{Room, room_in, takes, with_entry, room_after, TakesAll}
use Rattle.ot_book.proofs.BookLemmas.{logged-by}

-- ---- a book

abbrev entries_by : ℕ → Bool → ℕ
entries_by n checkpoint = if checkpoint then 1 else n + 1

pub room-logged : (b : Register) (line : List ℕ) (memory : Bool) → room_in (line_logged b line memory) ≡ with_entry (room_in b) line
room-logged b line memory =
    logged-by (λ r. room_in r ≡ with_entry (room_in b) line) b line memory (is_checkpoint line) refl
    (λ is. let next : next_number b + 1 ≡ next_number b + 1 = refl in
    ap (λ n. let r : Room = record { limit = b.limits.log; entries = n; next = next_number b + 1 } in r) (sym (ap (entries_by (length b.log)) is)))
    (λ is.
    let said = (answer_or_lost b.limits (state_in b) line memory).0 in
    let more : length (b.log ++ (line, said) ∷ []) ≡ length b.log + 1 = length-append b.log ((line, said) ∷ []) in
    let next : b.first + length (b.log ++ (line, said) ∷ []) ≡ next_number b + 1 = omega (arith, more) in
    ap (λ n. let r : Room = record { limit = b.limits.log; entries = n; next = b.first + length (b.log ++ (line, said) ∷ []) } in r) more
    ∙ ap (λ n. let r : Room = record { limit = b.limits.log; entries = length b.log + 1; next = n } in r) next
    ∙ ap (λ n. let r : Room = record { limit = b.limits.log; entries = n; next = next_number b + 1 } in r) (sym (ap (entries_by (length b.log)) is)))

takes-past : (r : Room) (line : List ℕ) → max_number < r.next → takes r line ≡ false
takes-past r line past = elim (leb_tells r.next max_number) [
  | inl at ↦ absurd (omega (arith, at.1, past))
  | inr at ↦ ap (λ t. if t then (if nat_le r.limit r.entries then is_checkpoint line else true) else false) at.0
]

takes-within : (r : Room) (line : List ℕ) → r.next ≤ max_number → takes r line ≡ (if nat_le r.limit r.entries then is_checkpoint line else true)
takes-within r line within = ap (λ t. if t then (if nat_le r.limit r.entries then is_checkpoint line else true) else false) (le-leb r.next max_number within)

-- a book without an open request takes a line exactly where it isn't full for it
pub full-takes : (b : Register) (line : List ℕ) → b.pending ≡ None → IsFullFor b line → takes (room_in b) line ≡ false
full-takes b line closed (inl some) = absurd (cc)
full-takes b line closed (inr (inl past)) = takes-past (room_in b) line past
full-takes b line closed (inr (inr full)) = elim (leb_tells (next_number b) max_number) [
  | inl at ↦ takes-within (room_in b) line at.1 ∙ ap (λ t. if t then is_checkpoint line else true) (le-leb b.limits.log (length b.log) full.0) ∙ full.1
  | inr at ↦ takes-past (room_in b) line at.1
]

other-takes : (t : Bool) → (t ≡ false → ⊥) → t ≡ true
other-takes true h = refl
other-takes false h = absurd (h refl)

pub free-takes : (b : Register) (line : List ℕ) → ¬ (IsFullFor b line) → takes (room_in b) line ≡ true
free-takes b line free =
    let within : max_number < next_number b → ⊥ = λ past. free (inr (inl past)) in
    takes-within (room_in b) line (omega (arith, within)) ∙ elim (leb_tells b.limits.log (length b.log)) [
      | inl at ↦ ap (λ t. if t then is_checkpoint line else true) at.0 ∙ other-takes (is_checkpoint line) (λ no. free (inr (inr (at.1, no))))
      | inr at ↦ ap (λ t. if t then is_checkpoint line else true) at.0
    ]

pub takes-free : (b : Register) (line : List ℕ) → b.pending ≡ None → takes (room_in b) line ≡ true → ¬ (IsFullFor b line)
takes-free b line closed is = λ full. true≢false (sym is ∙ full-takes b line closed full)

-- ---- lines one after another

pub room_after-append : (r : Room) (xs ys : List (List ℕ)) → room_after r (xs ++ ys) ≡ room_after (room_after r xs) ys
room_after-append r [] ys = refl
room_after-append r (x ∷ xs) ys = room_after-append (with_entry r x) xs ys

pub takes_all-more : (r : Room) (xs : List (List ℕ)) (y : List ℕ) → TakesAll r xs → takes (room_after r xs) y ≡ true → TakesAll r (xs ++ y ∷ [])
takes_all-more r [] y all is = (is, tt)
takes_all-more r (x ∷ xs) y all is = (all.0, takes_all-more (with_entry r x) xs y all.1 is)

-- the line at a place is taken after those before it
pub takes_all-at : (r : Room) (xs : List (List ℕ)) (n : ℕ) (y : List ℕ) → TakesAll r xs → slice_get xs n ≡ Some y → takes (room_after r (take n xs)) y ≡ true
takes_all-at r [] n y all is = cc
takes_all-at r (x ∷ xs) zero y all is = cc
takes_all-at r (x ∷ xs) (suc n) y all is = takes_all-at (with_entry r x) xs n y all.1 is
