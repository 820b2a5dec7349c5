-- Words with fewer bits.
use Rattle.std.proofs.Common.{◌≡◌, ◌==◌, ℕ, zero, suc, ◌+◌, ◌-◌, ◌/◌, ◌%◌, ◌^◌, ◌<◌, ◌≤◌, ◌&&◌, Bool, true, false, not, min, List, [], ◌∷◌, length, take, get_or, set, refl, sym, ap, ◌∙◌, inl, inr, arith, w64}
use Rattle.std.specs.Prelude.{bit_and}
use Rattle.std.specs.Int.{bit_at, bit_not}
use Rattle.std.proofs.lemmas.Bool.{cases_eq}
use Rattle.std.proofs.lemmas.List.{get_or_default, get_or_past, get_or-set_same, get_or-set_other, get_or-take}
use Rattle.std.proofs.lemmas.Nat.Bits.{bit_at_and, bit_at_not, bit_at-lt, bit_at_ones, bit_at_ones_above, bit_at-zero}
use Rattle.ot_sets.specs.Sets.{bit_in}
use Rattle.ot_sets.proofs.Equal.{eq_itself, eq_apart}

one-bit : (a b : ℕ) → a < 2 → b < 2 → (min a (1 - b) == 1) ≡ ((a == 1) && not (b == 1))
one-bit zero zero l m = refl
one-bit zero (suc zero) l m = refl
one-bit (suc zero) zero l m = refl
one-bit (suc zero) (suc zero) l m = refl
one-bit (suc (suc a)) b l m = absurd (omega (arith, l))
one-bit zero (suc (suc b)) l m = absurd (omega (arith, m))
one-bit (suc zero) (suc (suc b)) l m = absurd (omega (arith, m))

cleared : (w bits j : ℕ) → bits < 2 ^ 64 → j < 64 → (bit_at (bit_and w (bit_not w64 bits)) j == 1) ≡ ((bit_at w j == 1) && not (bit_at bits j == 1))
cleared w bits j l below =
    ap (λ b. b == 1) (bit_at_and w (bit_not w64 bits) j ∙ ap (min (bit_at w j)) (bit_at_not w64 bits j l below)) ∙ one-bit (bit_at w j) (bit_at bits j) (bit_at-lt w j) (bit_at-lt bits j)

and_yes : (b : Bool) → b ≡ (b && not false)
and_yes true = refl
and_yes false = refl

-- these bits of a word are taken out
pub taken : (words : List ℕ) (place w bits k : ℕ) → place < length words → w ≡ get_or words place w → bits < 2 ^ 64
    → bit_in (set words place (bit_and w (bit_not w64 bits))) k ≡ (bit_in words k && not ((k / 64 == place) && (bit_at bits (k % 64) == 1)))
taken words place w bits k within read fits =
    let new = set words place (bit_and w (bit_not w64 bits)) in
    let hit = bit_at bits (k % 64) == 1 in
    elim (cases_eq (k / 64) place) [
      | inl same ↦
          let at : get_or new (k / 64) 0 ≡ bit_and w (bit_not w64 bits) = ap (λ i. get_or new i 0) same ∙ get_or-set_same words place (bit_and w (bit_not w64 bits)) 0 within in
          let was : w ≡ get_or words (k / 64) 0 = read ∙ get_or_default words place w 0 within ∙ ap (λ i. get_or words i 0) (sym same) in
          let below : k % 64 < 64 = omega arith in
          ap (λ v. bit_at v (k % 64) == 1) at ∙ cleared w bits (k % 64) fits below
          ∙ ap (λ v. (bit_at v (k % 64) == 1) && not hit) was
          ∙ ap (λ b. bit_in words k && not (b && hit)) (sym (ap (λ i. i == place) same ∙ eq_itself place))
      | inr apart ↦
          ap (λ v. bit_at v (k % 64) == 1) (get_or-set_other words place (k / 64) (bit_and w (bit_not w64 bits)) 0 apart)
          ∙ and_yes (bit_in words k) ∙ ap (λ b. bit_in words k && not (b && hit)) (sym (eq_apart (k / 64) place apart))
    ]

-- past the last word there is nothing to take out
pub taken-past : (words : List ℕ) (place bits k : ℕ) → length words ≤ place → bit_in words k ≡ (bit_in words k && not ((k / 64 == place) && (bit_at bits (k % 64) == 1)))
taken-past words place bits k past =
    let hit = bit_at bits (k % 64) == 1 in
    elim (cases_eq (k / 64) place) [
      | inl same ↦
          let none : bit_in words k ≡ false =
          ap (λ w. bit_at w (k % 64) == 1) (get_or_past words (k / 64) 0 (omega (arith, same, past))) ∙ ap (λ b. b == 1) (bit_at-zero (k % 64)) in
          none ∙ ap (λ b. b && not ((k / 64 == place) && hit)) (sym none)
      | inr apart ↦ and_yes (bit_in words k) ∙ ap (λ b. bit_in words k && not (b && hit)) (sym (eq_apart (k / 64) place apart))
    ]

-- ---- the bits of other words

-- the bits of these words are taken out below a place
abbrev pub AreTaken : List ℕ → List ℕ → List ℕ → ℕ → Type 0
AreTaken words others now place =
    (k : ℕ) → (k / 64 < place → bit_in now k ≡ (bit_in words k && not (bit_in others k))) × (place ≤ k / 64 → bit_in now k ≡ bit_in words k)

-- ---- the lower bits of a word

min_one : (a b : ℕ) → a < 2 → b ≡ 1 → min a b ≡ a
min_one a b l is = omega (arith, l, is)

min_none : (a b : ℕ) → b ≡ 0 → min a b ≡ 0
min_none a b is = omega (arith, is)

shorter : {A : Type 0} (n : ℕ) (xs : List A) → length (take n xs) ≤ n
shorter zero xs = omega arith
shorter (suc n) [] = omega arith
shorter (suc n) (x ∷ xs) = let l = shorter n xs in omega (arith, l)

within-take : {A : Type 0} (n i : ℕ) (xs : List A) → i < n → i < length xs → i < length (take n xs)
within-take zero i xs l m = absurd (omega (arith, l))
within-take (suc n) i [] l m = absurd (omega (arith, m))
within-take (suc n) zero (x ∷ xs) l m = omega arith
within-take (suc n) (suc i) (x ∷ xs) l m = let k = within-take n i xs (omega (arith, l)) (omega (arith, m)) in omega (arith, k)

-- the words up to that of a number, where the bits below the number are kept
module _ (words cut : List ℕ) (number w mask : ℕ) (is : cut ≡ take (number / 64 + 1) words) (there : number / 64 < length words)
    (read : w ≡ get_or cut (number / 64) w) (ones : mask ≡ 2 ^ (number % 64) - 1) where
  abbrev new : List ℕ
  new = set cut (number / 64) (bit_and w mask)

  within : number / 64 < length cut
  within = let l = within-take (number / 64 + 1) (number / 64) words (omega arith) there in omega (arith, ap length is, l)

  here : get_or new (number / 64) 0 ≡ bit_and w (2 ^ (number % 64) - 1)
  here = get_or-set_same cut (number / 64) (bit_and w mask) 0 within ∙ ap (bit_and w) ones

  kept : (i : ℕ) → i < number / 64 + 1 → get_or cut i 0 ≡ get_or words i 0
  kept i l = ap (λ ws. get_or ws i 0) is ∙ get_or-take (number / 64 + 1) words i 0 l

  was : w ≡ get_or words (number / 64) 0
  was = read ∙ get_or_default cut (number / 64) w 0 within ∙ kept (number / 64) (omega arith)

  pub cut-below : (k : ℕ) → k < number → bit_in new k ≡ bit_in words k
  cut-below k l =
      elim (cases_eq (k / 64) (number / 64)) [
        | inl same ↦
            let low : k % 64 < number % 64 = omega (arith, l, same) in
            ap (λ i. bit_at (get_or new i 0) (k % 64) == 1) same ∙ ap (λ v. bit_at v (k % 64) == 1) here
            ∙ ap (λ b. b == 1) (bit_at_and w (2 ^ (number % 64) - 1) (k % 64)
            ∙ min_one (bit_at w (k % 64)) (bit_at (2 ^ (number % 64) - 1) (k % 64)) (bit_at-lt w (k % 64)) (bit_at_ones (number % 64) (k % 64) low))
            ∙ ap (λ v. bit_at v (k % 64) == 1) was ∙ ap (λ i. bit_at (get_or words i 0) (k % 64) == 1) (sym same)
        | inr apart ↦
            ap (λ v. bit_at v (k % 64) == 1) (get_or-set_other cut (number / 64) (k / 64) (bit_and w mask) 0 apart ∙ kept (k / 64) (omega (arith, l)))
      ]

  pub cut-rest : (k : ℕ) → number ≤ k → bit_in new k ≡ false
  cut-rest k l =
      elim (cases_eq (k / 64) (number / 64)) [
        | inl same ↦
            let high : number % 64 ≤ k % 64 = omega (arith, l, same) in
            ap (λ i. bit_at (get_or new i 0) (k % 64) == 1) same ∙ ap (λ v. bit_at v (k % 64) == 1) here
            ∙ ap (λ b. b == 1) (bit_at_and w (2 ^ (number % 64) - 1) (k % 64)
            ∙ min_none (bit_at w (k % 64)) (bit_at (2 ^ (number % 64) - 1) (k % 64)) (bit_at_ones_above (number % 64) (k % 64) high))
        | inr apart ↦
            let short = shorter (number / 64 + 1) words in
            ap (λ v. bit_at v (k % 64) == 1) (get_or-set_other cut (number / 64) (k / 64) (bit_and w mask) 0 apart
            ∙ get_or_past cut (k / 64) 0 (omega (arith, l, short, ap length is, apart)))
            ∙ ap (λ b. b == 1) (bit_at-zero (k % 64))
      ]
