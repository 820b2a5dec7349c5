-- Branches: by a number, by a test, and by a value that names no cell.
use Rattle.std.proofs.Common.{◌≡◌, ◌≢◌, ◌+◌, ◌<◌, ◌≤◌, ℕ, Bool, true, false, not, refl, sym, ap, subst, ◌∙◌, ◌⊎◌, inl, inr, true≢false, arith}
use Rattle.std.specs.Prelude.{◌==◌, if◌then◌else◌, nat_lt, Option, Some, None, unwrap_or}
use Rattle.std.proofs.lemmas.Bool.{cases_eq}
use Rattle.std.proofs.lemmas.Bool.Decides.{nat_tests}
use Rattle.ot_model.specs.Tree.{E, Literal, CellAt, Apply, PickFrom, val, applied, HasAll}
use Rattle.ot_model.specs.Serial.{either}
use Rattle.ot_model.specs.declared.expr.Cell.{Cell}
use Rattle.ot_check.proofs.Cited.{eq_apart, and_left, and_right, and_true}
use Rattle.ot_race_ways.specs.Known.{names_none, number_in_value}
use Rattle.ot_race_ways.specs.Straight.{is_fixed, is_straight_if}
use Rattle.ot_race_ways.specs.Ways.{ways_of_if}
use Rattle.ot_race_ways.specs.Numbered.{takes_first, left_for_second}

pub either_first : {A : Type 0} (n : ℕ) (one two : A) → n ≢ 0 → either n one two ≡ one
either_first n one two apart = ap (λ b. if b then two else one) (eq_apart n 0 apart)

pub either_second : {A : Type 0} (n : ℕ) (one two : A) → n ≡ 0 → either n one two ≡ two
either_second n one two is = ap (λ m. either m one two) is

pub is_less : (n m : ℕ) → n < m → nat_lt n m ≡ true
is_less n m l = grind (arith, nat_tests)

pub not_less : (n m : ℕ) → m ≤ n → nat_lt n m ≡ false
not_less n m l = grind (arith, nat_tests)

pub if_less : {A : Type 0} (n m : ℕ) (x y : A) → n < m → (if nat_lt n m then x else y) ≡ x
if_less n m x y l = ap (λ b. if b then x else y) (is_less n m l)

pub if_not_less : {A : Type 0} (n m : ℕ) (x y : A) → m ≤ n → (if nat_lt n m then x else y) ≡ y
if_not_less n m x y l = ap (λ b. if b then x else y) (not_less n m l)

-- a choice by a test that is met, or isn't
pub if_met : {A : Type 0} (b : Bool) (x y : A) → b ≡ true → (if b then x else y) ≡ x
if_met b x y h = ap (λ b. if b then x else y) h

pub if_unmet : {A : Type 0} (b : Bool) (x y : A) → b ≡ false → (if b then x else y) ≡ y
if_unmet b x y h = ap (λ b. if b then x else y) h

-- ---- a value that names no cell

-- its number is the same whatever cells hold
pub same_number : (look other : Cell → Option ℕ) (e : E) → names_none e ≡ true → val look e ≡ val other e
same_number look other (Literal n) h = refl
same_number look other (CellAt c) h = cc
same_number look other (Apply o a b) h =
    ap (λ m. applied o m (val look b)) (same_number look other a (and_left (names_none a) (names_none b) h))
    ∙ ap (applied o (val other a)) (same_number look other b (and_right (names_none a) (names_none b) h))
same_number look other (PickFrom s e) h = cc

unwrap_if : (b : Bool) (n m : ℕ) → (b ≡ true → n ≡ m) → unwrap_or (if b then Some n else None) m ≡ m
unwrap_if true n m same = same refl
unwrap_if false n m same = refl

-- where it is known it is what the run has
pub known_in_run : (look : Cell → Option ℕ) (e : E) → unwrap_or (number_in_value e) (val look e) ≡ val look e
known_in_run look e = unwrap_if (names_none e) (val (λ c. None) e) (val look e) (same_number (λ c. None) look e)

pub needs_none : (look : Cell → Option ℕ) (e : E) → names_none e ≡ true → HasAll look e
needs_none look (Literal n) h = tt
needs_none look (CellAt c) h = cc
needs_none look (Apply o a b) h =
    (needs_none look a (and_left (names_none a) (names_none b) h), needs_none look b (and_right (names_none a) (names_none b) h))
needs_none look (PickFrom s e) h = cc

pub picks_none : (e : E) → names_none e ≡ true → is_fixed e ≡ true
picks_none (Literal n) h = refl
picks_none (CellAt c) h = refl
picks_none (Apply o a b) h =
    and_true (is_fixed a) (is_fixed b) (picks_none a (and_left (names_none a) (names_none b) h)) (picks_none b (and_right (names_none a) (names_none b) h))
picks_none (PickFrom s e) h = cc

-- the number of a value that names no cell, whatever cells hold
abbrev pub number_of : E → ℕ
number_of e = val (λ c. None) e

pub known_number : (e : E) (n : ℕ) → names_none e ≡ true → unwrap_or (number_in_value e) n ≡ number_of e
known_number e n h = ap (λ b. unwrap_or (if b then Some (number_of e) else None) n) h

-- ---- an `if` that is straight

knows : (b : Bool) (n : ℕ) (one two : Bool) → is_straight_if (if b then Some n else None) one two ≡ true → b ≡ true
knows true n one two h = refl
knows false n one two h = cc

pub straight_knows : (e : E) (one two : Bool) → is_straight_if (number_in_value e) one two ≡ true → names_none e ≡ true
straight_knows e one two h = knows (names_none e) (number_of e) one two h

pub straight_takes : (e : E) (one two : Bool) → is_straight_if (number_in_value e) one two ≡ true → either (number_of e) one two ≡ true
straight_takes e one two h =
    ap (λ b. is_straight_if (if b then Some (number_of e) else None) one two) (sym (straight_knows e one two h)) ∙ h

-- ---- the body that a way takes: its condition is known, or has this number

pub truth : (b : Bool) → (b ≡ true) ⊎ (b ≡ false)
truth true = inl refl
truth false = inr refl

-- a way takes the first body: so it does by its number there, which is one of the ways
pub first_taken : (o : Option ℕ) (c n w : ℕ) → unwrap_or o c ≢ 0 → n < w → takes_first o n w ≡ true
first_taken None c n w apart less = is_less n w less
first_taken (Some m) c n w apart less = ap not (eq_apart m 0 apart)

pub first_below : (o : Option ℕ) (c n w v : ℕ) → unwrap_or o c ≢ 0 → n < w → n < ways_of_if o w v
first_below None c n w v apart less = omega (arith, less)
first_below (Some m) c n w v apart less = subst (λ k. n < k) (sym (either_first m w v apart)) less

-- or the second one
abbrev pub number_of_second : Option ℕ → ℕ → ℕ → ℕ
number_of_second None w n = w + n
number_of_second (Some m) w n = n

pub second_taken : (o : Option ℕ) (c n w : ℕ) → unwrap_or o c ≡ 0 → takes_first o (number_of_second o w n) w ≡ false
second_taken None c n w is = not_less (w + n) w (omega arith)
second_taken (Some m) c n w is = ap (λ k. not (k == 0)) is

pub second_left : (o : Option ℕ) (n w : ℕ) → n ≡ left_for_second o (number_of_second o w n) w
second_left None n w = omega arith
second_left (Some m) n w = refl

pub second_below : (o : Option ℕ) (c n w v : ℕ) → unwrap_or o c ≡ 0 → n < v → number_of_second o w n < ways_of_if o w v
second_below None c n w v is less = omega (arith, less)
second_below (Some m) c n w v is less = subst (λ k. n < k) (sym (either_second m w v is)) less

-- where its number takes the first body its condition isn't 0, or where it isn't known it may be 1
pub taken_first : (o : Option ℕ) (c n w : ℕ) → takes_first o n w ≡ true → c ≡ 1 → unwrap_or o c ≢ 0
taken_first None c n w h one = λ z. absurd (omega (arith, one, z))
taken_first (Some m) c n w h one = λ z. true≢false (sym h ∙ ap (λ k. not (k == 0)) z)

pub taken_second : (o : Option ℕ) (c n w : ℕ) → takes_first o n w ≡ false → c ≡ 0 → unwrap_or o c ≡ 0
taken_second None c n w h none = none
taken_second (Some m) c n w h none = elim (cases_eq m 0) [
  | inl is ↦ is
  | inr apart ↦ absurd (true≢false (sym (ap not (eq_apart m 0 apart)) ∙ h))
]
