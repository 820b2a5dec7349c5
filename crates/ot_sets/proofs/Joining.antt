-- Words with more bits.
use Rattle.std.proofs.Common.{◌≡◌, ◌≢◌, ◌==◌, ℕ, zero, suc, ◌+◌, ◌*◌, ◌/◌, ◌%◌, ◌^◌, ◌<◌, ◌≤◌, ◌||◌, max, List, length, get_or, set, refl, sym, ap, ◌∙◌, inl, inr, arith, w64}
use Rattle.std.specs.Prelude.{bit_or}
use Rattle.std.specs.Int.{bit_at}
use Rattle.std.specs.Int.Bits.{or_zero_r}
use Rattle.std.proofs.lemmas.Bool.{cases_eq, cases_lt}
use Rattle.std.proofs.Math.Bool.{or-false, or-true}
use Rattle.std.proofs.lemmas.List.{get_or_past, get_or_default, get_or-set_same, get_or-set_other}
use Rattle.std.proofs.lemmas.Nat.Bits.{bit_at_or, bit_at_set_same, bit_at_set_other}
use Rattle.ot_sets.specs.Sets.{bit_in}
use Rattle.ot_sets.proofs.Equal.{eq_itself, eq_apart}

-- one bit more
bit_in-insert : (words new : List ℕ) (n k : ℕ) → get_or new (n / 64) 0 ≡ bit_or (get_or words (n / 64) 0) (1 * 2 ^ (n % 64) % 2 ^ 64)
    → ((i : ℕ) → i ≢ n / 64 → get_or new i 0 ≡ get_or words i 0) → bit_in new k ≡ (bit_in words k || (k == n))
bit_in-insert words new n k here others =
    elim (cases_eq (k / 64) (n / 64)) [
      | inl word ↦
          let low : n % 64 < 64 = omega arith in
          let at : get_or new (k / 64) 0 ≡ bit_or (get_or words (k / 64) 0) (1 * 2 ^ (n % 64) % 2 ^ 64) =
          ap (λ i. get_or new i 0) word ∙ here ∙ ap (λ i. bit_or (get_or words i 0) (1 * 2 ^ (n % 64) % 2 ^ 64)) (sym word) in
          elim (cases_eq (k % 64) (n % 64)) [
            | inl bit ↦
                let is : k ≡ n = omega (arith, word, bit) in
                ap (λ w. bit_at w (k % 64) == 1) at
                ∙ ap (λ j. bit_at (bit_or (get_or words (k / 64) 0) (1 * 2 ^ (n % 64) % 2 ^ 64)) j == 1) bit
                ∙ ap (λ b. b == 1) (bit_at_set_same w64 (get_or words (k / 64) 0) (n % 64) low)
                ∙ sym (ap (λ b. bit_in words k || b) (ap (λ j. k == j) (sym is) ∙ eq_itself k) ∙ or-true (bit_in words k))
            | inr bit ↦
                ap (λ w. bit_at w (k % 64) == 1) at
                ∙ ap (λ b. b == 1) (bit_at_set_other w64 (get_or words (k / 64) 0) (n % 64) low (k % 64) bit)
                ∙ sym (ap (λ b. bit_in words k || b) (eq_apart k n (λ e. bit (ap (λ j. j % 64) e))) ∙ or-false (bit_in words k))
          ]
      | inr word ↦
          ap (λ w. bit_at w (k % 64) == 1) (others (k / 64) word)
          ∙ sym (ap (λ b. bit_in words k || b) (eq_apart k n (λ e. word (ap (λ j. j / 64) e))) ∙ or-false (bit_in words k))
    ]

max_one : (x y : ℕ) → x < 2 → y < 2 → (max x y == 1) ≡ ((x == 1) || (y == 1))
max_one zero zero l m = refl
max_one zero (suc zero) l m = refl
max_one (suc zero) zero l m = refl
max_one (suc zero) (suc zero) l m = refl
max_one zero (suc (suc y)) l m = absurd (omega (arith, m))
max_one (suc zero) (suc (suc y)) l m = absurd (omega (arith, m))
max_one (suc (suc x)) y l m = absurd (omega (arith, l))

-- the bits of both
pub or-one : (a b j : ℕ) → (bit_at (bit_or a b) j == 1) ≡ ((bit_at a j == 1) || (bit_at b j == 1))
or-one a b j =
    let one : ℕ = bit_at a j in
    let other : ℕ = bit_at b j in
    ap (λ n. n == 1) (bit_at_or a b j) ∙ max_one one other (omega arith) (omega arith)

bit_in-join : (words others new : List ℕ) → ((i : ℕ) → get_or new i 0 ≡ bit_or (get_or words i 0) (get_or others i 0)) → (k : ℕ)
    → bit_in new k ≡ (bit_in words k || bit_in others k)
bit_in-join words others new joined k =
    ap (λ w. bit_at w (k % 64) == 1) (joined (k / 64)) ∙ or-one (get_or words (k / 64) 0) (get_or others (k / 64) 0) (k % 64)

-- a word that is read where there is one
word_read : (xs : List ℕ) (i w : ℕ) → i < length xs → w ≡ get_or xs i w → w ≡ get_or xs i 0
word_read xs i w l is = is ∙ get_or_default xs i w 0 l

pub bit_in-inserted : (words reached : List ℕ) (n k w : ℕ) → ((i : ℕ) → get_or reached i 0 ≡ get_or words i 0) → n / 64 + 1 ≤ length reached
    → w ≡ get_or reached (n / 64) w → bit_in (set reached (n / 64) (bit_or w (1 * 2 ^ (n % 64) % 2 ^ 64))) k ≡ (bit_in words k || (k == n))
bit_in-inserted words reached n k w same there read =
    let within : n / 64 < length reached = omega (arith, there) in
    bit_in-insert words (set reached (n / 64) (bit_or w (1 * 2 ^ (n % 64) % 2 ^ 64))) n k
    (get_or-set_same reached (n / 64) (bit_or w (1 * 2 ^ (n % 64) % 2 ^ 64)) 0 within
    ∙ ap (λ w. bit_or w (1 * 2 ^ (n % 64) % 2 ^ 64)) (word_read reached (n / 64) w within read ∙ same (n / 64)))
    (λ i apart. get_or-set_other reached (n / 64) i (bit_or w (1 * 2 ^ (n % 64) % 2 ^ 64)) 0 apart ∙ same i)

-- words that are joined below a place
abbrev pub AreJoined : List ℕ → List ℕ → List ℕ → ℕ → Type 0
AreJoined words others now place =
    (length others ≤ length now) × ((i : ℕ) → i < place → get_or now i 0 ≡ bit_or (get_or words i 0) (get_or others i 0))
    × ((i : ℕ) → place ≤ i → get_or now i 0 ≡ get_or words i 0)

pub bit_in-joined : (words others now : List ℕ) (place : ℕ) → AreJoined words others now place → length others ≤ place → (k : ℕ)
    → bit_in now k ≡ (bit_in words k || bit_in others k)
bit_in-joined words others now place h all =
    bit_in-join words others now (λ i. elim (cases_lt i place) [
      | inl below ↦ h.1 i below
      | inr above ↦
          h.2 i above ∙ sym (ap (bit_or (get_or words i 0)) (get_or_past others i 0 (omega (arith, all, above))) ∙ or_zero_r (get_or words i 0))
    ])
