-- Lists of numbers: in their order, and by bits, 64 to a word.
use Rattle.std.proofs.Common.{◌≡◌, ◌≢◌, ◌<◌, ◌≤◌, ◌+◌, ◌-◌, ◌||◌, ℕ, zero, suc, Bool, true, false, true≢false, cond, List, [], ◌∷◌, refl, sym, ap, subst, ◌∙◌, inl, inr, arith, filter, ◌==◌, ◌*◌, ◌/◌, ◌%◌, ◌^◌, ◌++◌, map, set, drop, length, get_or, w64, bit_and, Some, None, slice_get, option_map, ◌⊎◌}
use Rattle.std.specs.List.{range_with_len}
use Rattle.std.proofs.lemmas.Bool.{cases_eq, cases_lt, eq-eqb, ne_eqb}
use Rattle.std.specs.Int.{bit_at, bit_not, trailing_zeros}
use Rattle.std.specs.Int.Count.{ones, ones_step, ones-le}
use Rattle.std.proofs.lemmas.List.{get_or-set_other, get_or-set_same, get_or_default, get_or_past, length-append, length-drop, length-map, length-set}
use Rattle.std.proofs.lemmas.List.Folds.{list_any-from_Any}
use Rattle.std.proofs.lemmas.List.FromFn.{length-range_with_len}
use Rattle.std.proofs.lemmas.List.Sums.{count_by-le-length, length-filter}
use Rattle.std.proofs.lemmas.Nat.Bits.{bit_at_clear_same, bit_at_clear_other, bit_at-zero, bit_at-suc, bit_at_lowest, bit_at-trailing_zeros}
use Rattle.std.proofs.lemmas.Nat.{shr_below}
use Rattle.std.proofs.lemmas.Option.{get_or_from_slice_get, slice_get-get_or, slice_get-map, slice_get_past, slice_get_within}
use Rattle.ot_job_roster.specs.Listed.{has, IsListBelow, has_bit, bits_in, has_number, numbers_in}

-- ---- lists of numbers in their order

-- the numbers from one on, so many, that pass a test
abbrev pub those : (ℕ → Bool) → ℕ → ℕ → List ℕ
those test a n = filter test (range_with_len a n)

pub those-same : (f g : ℕ → Bool) (a n : ℕ) → ((k : ℕ) → a ≤ k → k < a + n → f k ≡ g k) → those f a n ≡ those g a n
those-same f g a zero same = refl
those-same f g a (suc n) same =
    ap (λ b. cond b (a ∷ those f (a + 1) n) (those f (a + 1) n)) (same a (omega arith) (omega arith))
    ∙ ap (λ l. cond (g a) (a ∷ l) l) (those-same f g (a + 1) n (λ k low high. same k (omega (arith, low)) (omega (arith, high))))

has-before : (test : ℕ → Bool) (a n k : ℕ) → k < a → has k (those test a n) ≡ false
has-before test a zero k h = refl
has-before test a (suc n) k h = by (test a) (has-before test (a + 1) n k (omega (arith, h)))
  where
    by : (b : Bool) → has k (those test (a + 1) n) ≡ false → has k (cond b (a ∷ those test (a + 1) n) (those test (a + 1) n)) ≡ false
    by true later = ap (λ b. b || has k (those test (a + 1) n)) (ne_eqb a k (λ is. absurd (omega (arith, is, h)))) ∙ later
    by false later = later

pub has-behind : (test : ℕ → Bool) (a n k : ℕ) → a + n ≤ k → has k (those test a n) ≡ false
has-behind test a zero k h = refl
has-behind test a (suc n) k h = by (test a) (has-behind test (a + 1) n k (omega (arith, h)))
  where
    by : (b : Bool) → has k (those test (a + 1) n) ≡ false → has k (cond b (a ∷ those test (a + 1) n) (those test (a + 1) n)) ≡ false
    by true later = ap (λ b. b || has k (those test (a + 1) n)) (ne_eqb a k (λ is. absurd (omega (arith, is, h)))) ∙ later
    by false later = later

pub has-those : (test : ℕ → Bool) (a n k : ℕ) → a ≤ k → k < a + n → has k (those test a n) ≡ test k
has-those test a zero k low high = absurd (omega (arith, low, high))
has-those test a (suc n) k low high = elim (cases_eq a k) [
  | inl is ↦ here (test a) refl is
  | inr apart ↦ there (test a) apart (has-those test (a + 1) n k (omega (arith, low, apart)) (omega (arith, high)))
]
  where
    here : (b : Bool) → test a ≡ b → a ≡ k → has k (cond b (a ∷ those test (a + 1) n) (those test (a + 1) n)) ≡ test k
    here true e is = ap (λ b. b || has k (those test (a + 1) n)) (eq-eqb a k is) ∙ sym e ∙ ap test is
    here false e is = has-before test (a + 1) n k (omega (arith, is)) ∙ sym e ∙ ap test is

    there : (b : Bool) → a ≢ k → has k (those test (a + 1) n) ≡ test k → has k (cond b (a ∷ those test (a + 1) n) (those test (a + 1) n)) ≡ test k
    there true apart later = ap (λ b. b || has k (those test (a + 1) n)) (ne_eqb a k apart) ∙ later
    there false apart later = later

-- those are listed in their order
pub listed : (test : ℕ → Bool) (n : ℕ) (xs : List ℕ) → xs ≡ those test 0 n → IsListBelow n xs
listed test n xs is =
    is ∙ those-same test (λ i. has i xs) 0 n (λ k low high. sym (ap (has k) is ∙ has-those test 0 n k low (omega (arith, high))))

-- a list of numbers below one has only such
pub below-only : (n : ℕ) (xs : List ℕ) (k : ℕ) → IsListBelow n xs → n ≤ k → has k xs ≡ false
below-only n xs k is h = ap (has k) is ∙ has-behind (λ i. has i xs) 0 n k (omega (arith, h))

-- a list that has what passes a test is the list of those
pub list-is : (test : ℕ → Bool) (n : ℕ) (xs : List ℕ) → IsListBelow n xs → ((k : ℕ) → k < n → has k xs ≡ test k) → xs ≡ those test 0 n
list-is test n xs is same = is ∙ those-same (λ i. has i xs) test 0 n (λ k low high. same k (omega (arith, high)))

-- one number more may be listed
pub those-more : (test : ℕ → Bool) (a n : ℕ) → test (a + n) ≡ false → those test a (suc n) ≡ those test a n
those-more test a zero none =
    let here : test a ≡ false = ap test (omega arith) ∙ none in
    ap (λ b. cond b (a ∷ []) []) here
those-more test a (suc n) none = ap (λ l. cond (test a) (a ∷ l) l) (those-more test (a + 1) n (ap test (omega arith) ∙ none))

pub below-more : (n : ℕ) (xs : List ℕ) → IsListBelow n xs → IsListBelow (n + 1) xs
below-more n xs is =
    let next : suc n ≡ n + 1 = omega arith in
    subst (λ m. IsListBelow m xs) next (is ∙ sym (those-more (λ i. has i xs) 0 n (below-only n xs (0 + n) is (omega arith))))

-- numbers that don't pass behind the others add nothing
pub those-longer : (test : ℕ → Bool) (a n m : ℕ) → ((k : ℕ) → a + n ≤ k → test k ≡ false) → those test a (n + m) ≡ those test a n
those-longer test a zero m none = ap (those test a) (let e : 0 + m ≡ m = omega arith in e) ∙ by a m (λ k h. none k (omega (arith, h)))
  where
    by : (a m : ℕ) → ((k : ℕ) → a ≤ k → test k ≡ false) → those test a m ≡ []
    by a zero none = refl
    by a (suc m) none = ap (λ b. cond b (a ∷ those test (a + 1) m) (those test (a + 1) m)) (none a (omega arith)) ∙ by (a + 1) m (λ k h. none k (omega (arith, h)))
those-longer test a (suc n) m none =
    ap (those test a) (let e : suc n + m ≡ suc (n + m) = omega arith in e) ∙ ap (λ l. cond (test a) (a ∷ l) l) (those-longer test (a + 1) n m (λ k h. none k (omega (arith, h))))

-- a list below one number is below a lesser one where it has none between
pub below-fewer : (n m : ℕ) (xs : List ℕ) → n ≤ m → IsListBelow m xs → ((k : ℕ) → n ≤ k → has k xs ≡ false) → IsListBelow n xs
below-fewer n m xs le is none =
    let sum : m ≡ n + (m - n) = omega (arith, le) in
    is ∙ ap (those (λ i. has i xs) 0) sum ∙ those-longer (λ i. has i xs) 0 n (m - n) (λ k h. none k (omega (arith, h)))

-- a list that differs at a lesser number alone is still below the number
pub below-but : (n m : ℕ) (xs ys : List ℕ) (i : ℕ) → i < n → n ≤ m → IsListBelow n xs → IsListBelow m ys → ((k : ℕ) → k ≢ i → has k ys ≡ has k xs) → IsListBelow n ys
below-but n m xs ys i within le old new others =
    below-fewer n m ys le new (λ k h. others k (λ e. absurd (omega (arith, e, h, within))) ∙ below-only n xs k old h)

-- one that passes a test is among those that do
pub passing-some : (test : ℕ → Bool) (n k : ℕ) → k < n → test k ≡ true → 0 < length (those test 0 n)
passing-some test n k h passes = by (those test 0 n) (has-those test 0 n k (omega arith) (omega (arith, h)) ∙ passes)
  where
    by : (xs : List ℕ) → has k xs ≡ true → 0 < length xs
    by [] there = absurd (true≢false (sym there))
    by (x ∷ xs) there = omega arith

-- and each of those does
pub passing-found : (test : ℕ → Bool) (n k i : ℕ) → slice_get (those test 0 n) k ≡ Some i → (i < n) × (test i ≡ true)
passing-found test n k i at = elim (cases_lt i n) [
  | inl below ↦ (below, sym (has-those test 0 n i (omega arith) (omega (arith, below))) ∙ there)
  | inr past ↦ absurd (true≢false (sym there ∙ has-behind test 0 n i (omega (arith, past))))
]
  where
    there : has i (those test 0 n) ≡ true
    there = list_any-from_Any (λ x. x == i) (those test 0 n) (k, i, slice_get_within (those test 0 n) k i at, get_or_from_slice_get (those test 0 n) k i i at, eq-eqb i i refl)

-- ---- numbers that are listed by bits, 64 to a word

pub has-in : (ws : List ℕ) (k : ℕ) → has k (numbers_in ws) ≡ has_number ws k
has-in ws k = elim (cases_lt k (64 * length ws)) [
  | inl below ↦ has-those (has_number ws) 0 (64 * length ws) k (omega arith) (omega (arith, below))
  | inr past ↦ has-behind (has_number ws) 0 (64 * length ws) k (omega (arith, past)) ∙ sym (none past)
]
  where
    none : 64 * length ws ≤ k → has_number ws k ≡ false
    none past = ap (λ w. has_bit w (k % 64)) (get_or_past ws (k / 64) 0 (omega (arith, past))) ∙ ap (λ b. b == 1) (bit_at-zero (k % 64))

pub numbers-ordered : (ws : List ℕ) → IsListBelow (64 * length ws) (numbers_in ws)
numbers-ordered ws = listed (has_number ws) (64 * length ws) (numbers_in ws) refl

pub numbers-few : (ws : List ℕ) → length (numbers_in ws) ≤ 64 * length ws
numbers-few ws = omega (arith, length-filter (has_number ws) (range_with_len 0 (64 * length ws)), count_by-le-length (has_number ws) (range_with_len 0 (64 * length ws)), length-range_with_len 0 (64 * length ws))

-- ---- one bit changes

pub counted-one : (f g : ℕ → Bool) (a n i : ℕ) → a ≤ i → i < a + n → f i ≡ false → g i ≡ true → ((k : ℕ) → k ≢ i → g k ≡ f k) → length (those g a n) ≡ length (those f a n) + 1
counted-one f g a zero i low high no_f yes_g same = absurd (omega (arith, low, high))
counted-one f g a (suc n) i low high no_f yes_g same = elim (cases_eq a i) [
  | inl is ↦ (let rest = ap length (those-same g f (a + 1) n (λ k l h. same k (λ e. absurd (omega (arith, e, is, l))))) in
      ap (λ b. length (cond b (a ∷ those g (a + 1) n) (those g (a + 1) n))) (ap g is ∙ yes_g)
      ∙ (let more : length (a ∷ those g (a + 1) n) ≡ length (those f (a + 1) n) + 1 = omega (arith, rest) in more)
      ∙ sym (ap (λ b. length (cond b (a ∷ those f (a + 1) n) (those f (a + 1) n)) + 1) (ap f is ∙ no_f)))
  | inr apart ↦ by (f a) (same a apart) (counted-one f g (a + 1) n i (omega (arith, low, apart)) (omega (arith, high)) no_f yes_g same)
]
  where
    by : (b : Bool) → g a ≡ b → length (those g (a + 1) n) ≡ length (those f (a + 1) n) + 1
        → length (cond (g a) (a ∷ those g (a + 1) n) (those g (a + 1) n)) ≡ length (cond b (a ∷ those f (a + 1) n) (those f (a + 1) n)) + 1
    by true e later = ap (λ b. length (cond b (a ∷ those g (a + 1) n) (those g (a + 1) n))) e ∙ (let more : length (a ∷ those g (a + 1) n) ≡ length (a ∷ those f (a + 1) n) + 1 = omega (arith, later) in more)
    by false e later = ap (λ b. length (cond b (a ∷ those g (a + 1) n) (those g (a + 1) n))) e ∙ later

-- a word is exchanged for one with another bit of the number, and no other bit
module _ (ws : List ℕ) (room n word w : ℕ) (roomy : 64 * length ws ≡ room) (below : n < room) (is : word ≡ get_or ws (n / 64) word) (same : (i : ℕ) → i < 64 → i ≢ n % 64 → bit_at w i ≡ bit_at word i) where
  abbrev new : List ℕ
  new = set ws (n / 64) w

  within : n < 64 * length ws
  within = omega (arith, below, roomy)

  was : word ≡ get_or ws (n / 64) 0
  was = is ∙ get_or_default ws (n / 64) word 0 (omega (arith, within))

  here : get_or new (n / 64) 0 ≡ w
  here = get_or-set_same ws (n / 64) w 0 (omega (arith, within))

  other-number : (k : ℕ) → k ≢ n → has_number new k ≡ has_number ws k
  other-number k apart = elim (cases_eq (k / 64) (n / 64)) [
    | inl together ↦ ap (λ q. has_bit (get_or new q 0) (k % 64)) together ∙ ap (λ x. has_bit x (k % 64)) here
        ∙ ap (λ b. b == 1) (same (k % 64) (omega arith) (λ e. absurd (omega (arith, together, e, apart)))) ∙ ap (λ x. has_bit x (k % 64)) was ∙ sym (ap (λ q. has_bit (get_or ws q 0) (k % 64)) together)
    | inr away ↦ ap (λ x. has_bit x (k % 64)) (get_or-set_other ws (n / 64) (k / 64) w 0 away)
  ]

  long : 64 * length new ≡ 64 * length ws
  long = ap (λ l. 64 * l) (length-set ws (n / 64) w)

  pub has-now : (b : Bool) → has_bit w (n % 64) ≡ b → has n (numbers_in new) ≡ b
  has-now b bit = has-in new n ∙ ap (λ x. has_bit x (n % 64)) here ∙ bit

  pub had : (b : Bool) → has_bit word (n % 64) ≡ b → has n (numbers_in ws) ≡ b
  had b bit = has-in ws n ∙ ap (λ x. has_bit x (n % 64)) (sym was) ∙ bit

  pub others-have : (k : ℕ) → k ≢ n → has k (numbers_in new) ≡ has k (numbers_in ws)
  others-have k apart = has-in new k ∙ other-number k apart ∙ sym (has-in ws k)

  pub one-more : has_bit word (n % 64) ≡ false → has_bit w (n % 64) ≡ true → length (numbers_in new) ≡ length (numbers_in ws) + 1
  one-more was_not set =
      ap (λ m. length (those (has_number new) 0 m)) long
      ∙ counted-one (has_number ws) (has_number new) 0 (64 * length ws) n (omega arith) (omega (arith, within)) (sym (has-in ws n) ∙ had false was_not) (sym (has-in new n) ∙ has-now true set) other-number

  pub one-fewer : has_bit word (n % 64) ≡ true → has_bit w (n % 64) ≡ false → length (numbers_in ws) ≡ length (numbers_in new) + 1
  one-fewer was_set cleared =
      counted-one (has_number new) (has_number ws) 0 (64 * length ws) n (omega arith) (omega (arith, within)) (sym (has-in new n) ∙ has-now false cleared) (sym (has-in ws n) ∙ had true was_set)
      (λ k apart. sym (other-number k apart)) ∙ sym (ap (λ m. length (those (has_number new) 0 m) + 1) long)

-- ---- a word more

pub get_or-behind : {A : Type 0} (d : A) (xs : List A) (q : ℕ) → get_or (xs ++ d ∷ []) q d ≡ get_or xs q d
get_or-behind d [] zero = refl
get_or-behind d [] (suc q) = refl
get_or-behind d (x ∷ xs) zero = refl
get_or-behind d (x ∷ xs) (suc q) = get_or-behind d xs q

pub numbers-longer : (ws : List ℕ) → numbers_in (ws ++ 0 ∷ []) ≡ numbers_in ws
numbers-longer ws =
    let more : 64 * length (ws ++ 0 ∷ []) ≡ 64 * length ws + 64 = omega (arith, length-append ws (0 ∷ [])) in
    those-same (has_number (ws ++ 0 ∷ [])) (has_number ws) 0 (64 * length (ws ++ 0 ∷ [])) (λ k l h. ap (λ w. has_bit w (k % 64)) (get_or-behind 0 ws (k / 64)))
    ∙ ap (those (has_number ws) 0) more
    ∙ those-longer (has_number ws) 0 (64 * length ws) 64 (λ k h. ap (λ w. has_bit w (k % 64)) (get_or_past ws (k / 64) 0 (omega (arith, h))) ∙ ap (λ b. b == 1) (bit_at-zero (k % 64)))

-- ---- the bits of a word

-- the first that passes, and the others
those-first : (f g : ℕ → Bool) (a n z : ℕ) → a ≤ z → z < a + n → ((k : ℕ) → k < z → f k ≡ false) → f z ≡ true → g z ≡ false → ((k : ℕ) → k < a + n → k ≢ z → g k ≡ f k)
    → those f a n ≡ z ∷ those g a n
those-first f g a zero z low high none passes fails same = absurd (omega (arith, low, high))
those-first f g a (suc n) z low high none passes fails same = elim (cases_eq a z) [
  | inl is ↦ ap (λ b. cond b (a ∷ those f (a + 1) n) (those f (a + 1) n)) (ap f is ∙ passes) ∙ ap (λ k. k ∷ those f (a + 1) n) is
      ∙ ap (λ l. z ∷ l) (those-same f g (a + 1) n (λ k l h. sym (same k (omega (arith, h)) (λ e. absurd (omega (arith, e, is, l)))))) ∙ sym (ap (λ b. z ∷ cond b (a ∷ those g (a + 1) n) (those g (a + 1) n)) (ap g is ∙ fails))
  | inr apart ↦ (let f_a : f a ≡ false = none a (omega (arith, low, apart)) in
      ap (λ b. cond b (a ∷ those f (a + 1) n) (those f (a + 1) n)) f_a
      ∙ those-first f g (a + 1) n z (omega (arith, low, apart)) (omega (arith, high)) none passes fails (λ k h. same k (omega (arith, h)))
      ∙ sym (ap (λ b. z ∷ cond b (a ∷ those g (a + 1) n) (those g (a + 1) n)) (same a (omega arith) apart ∙ f_a)))
]

pub first-bit : (w v z : ℕ) → z < 64 → bit_at w z ≡ 1 → ((i : ℕ) → i < z → bit_at w i ≡ 0) → bit_at v z ≡ 0 → ((i : ℕ) → i < 64 → i ≢ z → bit_at v i ≡ bit_at w i)
    → bits_in w ≡ z ∷ bits_in v
unfolding bits_in
first-bit w v z within is below cleared others =
    those-first (has_bit w) (has_bit v) 0 64 z (omega arith) (omega (arith, within)) (λ k h. ap (λ b. b == 1) (below k h)) (ap (λ b. b == 1) is) (ap (λ b. b == 1) cleared)
    (λ k h apart. ap (λ b. b == 1) (others k (omega (arith, h)) apart))

-- the numbers from one on, as those from 0 on
pub those-shift : (f : ℕ → Bool) (b a n : ℕ) → those f (b + a) n ≡ map (λ i. b + i) (those (λ i. f (b + i)) a n)
those-shift f b a zero = refl
those-shift f b a (suc n) =
    by (f (b + a)) (ap (λ m. those f m n) (let e : b + a + 1 ≡ b + (a + 1) = omega arith in e) ∙ those-shift f b (a + 1) n)
  where
    by : (c : Bool) → those f (b + a + 1) n ≡ map (λ i. b + i) (those (λ i. f (b + i)) (a + 1) n)
        → cond c ((b + a) ∷ those f (b + a + 1) n) (those f (b + a + 1) n) ≡ map (λ i. b + i) (cond c (a ∷ those (λ i. f (b + i)) (a + 1) n) (those (λ i. f (b + i)) (a + 1) n))
    by true later = ap (λ l. (b + a) ∷ l) later
    by false later = later

-- so many of those behind the first pass as of those from 0 on, each by the number behind it
pub passing-behind : (f : ℕ → Bool) (n : ℕ) → length (those f 1 n) ≡ length (those (λ i. f (suc i)) 0 n)
passing-behind f n =
    ap length (those-shift f 1 0 n) ∙ length-map (those (λ i. f (1 + i)) 0 n) (λ i. 1 + i)
    ∙ ap length (those-same (λ i. f (1 + i)) (λ i. f (suc i)) 0 n (λ i l m. ap f (let e : 1 + i ≡ suc i = omega arith in e)))

ones-counted : (k n : ℕ) → n < 2 ^ k → length (those (has_bit n) 0 k) ≡ ones n
ones-counted zero n h = let none = ones-le 0 n h in omega (arith, none)
ones-counted (suc k) n h = by (ones-counted k (n / 2) half) (elim (cases_eq (n % 2) 1) [ inl one ↦ inl one | inr other ↦ inr (let zero_bit : n % 2 ≡ 0 = omega (arith, other) in zero_bit) ])
  where
    half : n / 2 < 2 ^ k
    half = let twice : n < 2 ^ (k + 1) = subst (λ m. n < 2 ^ m) (let e : suc k ≡ k + 1 = omega arith in e) h in shr_below n k 1 twice

    rest : List ℕ
    rest = those (has_bit n) 1 k

    by : length (those (has_bit (n / 2)) 0 k) ≡ ones (n / 2) → (n % 2 ≡ 1) ⊎ (n % 2 ≡ 0) → length (those (has_bit n) 0 (suc k)) ≡ ones n
    by halved bit = both bit
      where
        later : length rest ≡ ones (n / 2)
        later =
            passing-behind (has_bit n) k ∙ ap length (those-same (λ i. has_bit n (suc i)) (has_bit (n / 2)) 0 k (λ i l m. ap (λ b. b == 1) (bit_at-suc n i))) ∙ halved

        both : (n % 2 ≡ 1) ⊎ (n % 2 ≡ 0) → length (those (has_bit n) 0 (suc k)) ≡ ones n
        both (inl e) =
            ap (λ b. length (cond (b == 1) (0 ∷ rest) rest)) (bit_at_lowest n ∙ e)
            ∙ (let sum : length (0 ∷ rest) ≡ n % 2 + ones (n / 2) = omega (arith, later, e) in sum) ∙ sym (ones_step n)
        both (inr e) =
            ap (λ b. length (cond (b == 1) (0 ∷ rest) rest)) (bit_at_lowest n ∙ e)
            ∙ (let sum : length rest ≡ n % 2 + ones (n / 2) = omega (arith, later, e) in sum) ∙ sym (ones_step n)

pub bits-counted : (w : ℕ) → w < 2 ^ 64 → length (bits_in w) ≡ ones w
unfolding bits_in
bits-counted w h = ones-counted 64 w h

some-bit : (w : ℕ) → w < 2 ^ 64 → 0 < length (bits_in w) → 0 < w
some-bit zero fits some = let none = ones-le 0 0 (omega arith) in absurd (omega (arith, some, none, bits-counted 0 fits))
some-bit (suc w) fits some = omega arith

drop-next : (k : ℕ) (xs : List ℕ) (z : ℕ) (ys : List ℕ) → drop k xs ≡ z ∷ ys → (get_or xs k 0 ≡ z) × (drop (suc k) xs ≡ ys)
drop-next zero [] z ys is = absurd (let none = ap length is in omega (arith, none))
drop-next zero (x ∷ xs) z ys is = (ap (λ l. get_or l 0 0) is, ap (drop 1) is)
drop-next (suc k) [] z ys is = absurd (let none = ap length is in omega (arith, none))
drop-next (suc k) (x ∷ xs) z ys is = drop-next k xs z ys is

-- what is left of the bits once so many were passed
module _ (w k rest : ℕ) (left : drop k (bits_in w) ≡ bits_in rest) (fits : rest < 2 ^ 64) (within : k < length (bits_in w)) where
  lowest : (trailing_zeros w64 rest < 64) × (bit_at rest (trailing_zeros w64 rest) ≡ 1) × ((i : ℕ) → i < trailing_zeros w64 rest → bit_at rest i ≡ 0)
  lowest = bit_at-trailing_zeros w64 rest (some-bit rest fits (omega (arith, within, ap length left, length-drop k (bits_in w)))) fits

  pub lowest-within : trailing_zeros w64 rest < 64
  lowest-within = lowest.0

  module _ (v : ℕ) (cleared : bit_at v (trailing_zeros w64 rest) ≡ 0) (others : (i : ℕ) → i < 64 → i ≢ trailing_zeros w64 rest → bit_at v i ≡ bit_at rest i) where
    next : (get_or (bits_in w) k 0 ≡ trailing_zeros w64 rest) × (drop (suc k) (bits_in w) ≡ bits_in v)
    next = drop-next k (bits_in w) (trailing_zeros w64 rest) (bits_in v) (left ∙ first-bit rest v (trailing_zeros w64 rest) lowest.0 lowest.1 lowest.2 cleared others)

    pub bits-behind : drop (k + 1) (bits_in w) ≡ bits_in v
    bits-behind = ap (λ n. drop n (bits_in w)) (let e : k + 1 ≡ suc k = omega arith in e) ∙ next.1

  pub bit-is : get_or (bits_in w) k 0 ≡ trailing_zeros w64 rest
  bit-is = (next (bit_and rest (bit_not w64 (1 * 2 ^ trailing_zeros w64 rest % 2 ^ 64))) (bit_at_clear_same w64 rest (trailing_zeros w64 rest) lowest.0) (bit_at_clear_other w64 rest (trailing_zeros w64 rest) lowest.0)).0

-- ---- the words before one, and that one

those-append : (f : ℕ → Bool) (a n m : ℕ) → those f a (n + m) ≡ those f a n ++ those f (a + n) m
those-append f a zero m = ap (those f a) (let e : 0 + m ≡ m = omega arith in e) ∙ ap (λ b. those f b m) (let e : a ≡ a + 0 = omega arith in e)
those-append f a (suc n) m =
    ap (those f a) (let e : suc n + m ≡ suc (n + m) = omega arith in e)
    ∙ by (f a) (those-append f (a + 1) n m ∙ ap (λ b. those f (a + 1) n ++ those f b m) (let e : a + 1 + n ≡ a + suc n = omega arith in e))
  where
    by : (c : Bool) → those f (a + 1) (n + m) ≡ those f (a + 1) n ++ those f (a + suc n) m
        → cond c (a ∷ those f (a + 1) (n + m)) (those f (a + 1) (n + m)) ≡ cond c (a ∷ those f (a + 1) n) (those f (a + 1) n) ++ those f (a + suc n) m
    by true later = ap (λ l. a ∷ l) later
    by false later = later

in-the-middle : (xs ys zs : List ℕ) (left : ℕ) → left < length ys → slice_get (xs ++ (ys ++ zs)) (length xs + left) ≡ slice_get ys left
in-the-middle [] ys zs left h = ap (slice_get (ys ++ zs)) (let e : 0 + left ≡ left = omega arith in e) ∙ front ys zs left h
  where
    front : (ys zs : List ℕ) (left : ℕ) → left < length ys → slice_get (ys ++ zs) left ≡ slice_get ys left
    front [] zs left h = absurd (omega (arith, h))
    front (y ∷ ys) zs zero h = refl
    front (y ∷ ys) zs (suc left) h = front ys zs left (omega (arith, h))
in-the-middle (x ∷ xs) ys zs left h = ap (slice_get (x ∷ xs ++ (ys ++ zs))) (let e : suc (length xs) + left ≡ suc (length xs + left) = omega arith in e) ∙ in-the-middle xs ys zs left h

module _ (ws : List ℕ) (i : ℕ) (within : i < length ws) where
  abbrev word : ℕ
  word = get_or ws i 0

  its-bits : those (has_number ws) (0 + 64 * i) 64 ≡ map (λ j. 64 * i + j) (bits_in word)
  unfolding bits_in
  its-bits =
      ap (λ a. those (has_number ws) a 64) (let e : 0 + 64 * i ≡ 64 * i + 0 = omega arith in e) ∙ those-shift (has_number ws) (64 * i) 0 64
      ∙ ap (map (λ j. 64 * i + j)) (those-same (λ j. has_number ws (64 * i + j)) (has_bit word) 0 64 (λ j l h. same j (omega (arith, h))))
    where
      same : (j : ℕ) → j < 64 → has_number ws (64 * i + j) ≡ has_bit word j
      same j h = ap (λ q. has_bit (get_or ws q 0) ((64 * i + j) % 64)) (let e : (64 * i + j) / 64 ≡ i = omega (arith, h) in e) ∙ ap (has_bit word) (let e : (64 * i + j) % 64 ≡ j = omega (arith, h) in e)

  pub words-more : length (those (has_number ws) 0 (64 * (i + 1))) ≡ length (those (has_number ws) 0 (64 * i)) + length (bits_in word)
  words-more =
      ap (λ m. length (those (has_number ws) 0 m)) (let e : 64 * (i + 1) ≡ 64 * i + 64 = omega arith in e)
      ∙ ap length (those-append (has_number ws) 0 (64 * i) 64) ∙ length-append (those (has_number ws) 0 (64 * i)) (those (has_number ws) (0 + 64 * i) 64)
      ∙ ap (λ n. length (those (has_number ws) 0 (64 * i)) + n) (ap length its-bits ∙ length-map (bits_in word) (λ j. 64 * i + j))

  -- the number at this place stands in the word
  pub found-in : (left : ℕ) → left < length (bits_in word) → slice_get (numbers_in ws) (length (those (has_number ws) 0 (64 * i)) + left) ≡ Some (64 * i + get_or (bits_in word) left 0)
  found-in left h =
      let behind = 64 * length ws - (64 * i + 64) in
      let parts : numbers_in ws ≡ those (has_number ws) 0 (64 * i) ++ (map (λ j. 64 * i + j) (bits_in word) ++ those (has_number ws) (0 + 64 * i + 64) behind) =
      ap (those (has_number ws) 0) (let e : 64 * length ws ≡ 64 * i + (64 + behind) = omega (arith, within) in e)
      ∙ those-append (has_number ws) 0 (64 * i) (64 + behind)
      ∙ ap (λ l. those (has_number ws) 0 (64 * i) ++ l) (those-append (has_number ws) (0 + 64 * i) 64 behind ∙ ap (λ l. l ++ those (has_number ws) (0 + 64 * i + 64) behind) its-bits) in
      ap (λ l. slice_get l (length (those (has_number ws) 0 (64 * i)) + left)) parts
      ∙ in-the-middle (those (has_number ws) 0 (64 * i)) (map (λ j. 64 * i + j) (bits_in word)) (those (has_number ws) (0 + 64 * i + 64) behind) left (omega (arith, h, length-map (bits_in word) (λ j. 64 * i + j)))
      ∙ slice_get-map (λ j. 64 * i + j) (bits_in word) left ∙ ap (option_map (λ j. 64 * i + j)) (slice_get-get_or (bits_in word) left 0 h)

  pub found-at : (place left : ℕ) → length (those (has_number ws) 0 (64 * i)) + left ≡ place → left < length (bits_in word) → slice_get (numbers_in ws) place ≡ Some (64 * i + get_or (bits_in word) left 0)
  found-at place left sum h = ap (slice_get (numbers_in ws)) (sym sum) ∙ found-in left h

-- no number stands there
pub none-at : (ws : List ℕ) (place left : ℕ) → length (numbers_in ws) + left ≡ place → slice_get (numbers_in ws) place ≡ None
none-at ws place left sum = slice_get_past (numbers_in ws) place (omega (arith, sum))
