-- Bits of words, found.
use Rattle.std.proofs.Common.{◌≡◌, ◌≢◌, ◌==◌, ℕ, zero, ◌+◌, ◌*◌, ◌/◌, ◌%◌, ◌^◌, ◌<◌, min, true, false, not, List, get_or, sym, ap, ◌∙◌, arith, w64}
use Rattle.std.specs.Prelude.{bit_and}
use Rattle.std.specs.Int.{bit_at, trailing_zeros}
use Rattle.std.proofs.lemmas.Nat.{and_le_r}
use Rattle.std.proofs.lemmas.Nat.Bits.{bit_at_and, bit_at-lt, bit_at-trailing_zeros, bit_at-zero}
use Rattle.ot_sets.specs.Sets.{bit_in}
use Rattle.ot_sets.proofs.Equal.{eq_apart}

-- a bit of a word that isn't zero
pub bit-there : (words : List ℕ) (place w : ℕ) → w ≡ get_or words place 0 → w < 2 ^ 64 → w ≢ 0 → (k : ℕ) × (bit_in words k ≡ true)
bit-there words place w is fits some =
    let t = bit_at-trailing_zeros w64 w (omega (arith, some)) fits in
    let j : ℕ = trailing_zeros w64 w in
    let d : (place * 64 + j) / 64 ≡ place = omega (arith, t.0) in
    let r : (place * 64 + j) % 64 ≡ j = omega (arith, t.0) in (
      place * 64 + j,
      ap (λ i. bit_at (get_or words i 0) ((place * 64 + j) % 64) == 1) d ∙ ap (λ v. bit_at v ((place * 64 + j) % 64) == 1) (sym is)
          ∙ ap (λ i. bit_at w i == 1) r ∙ ap (λ b. b == 1) t.1,
    )

-- a number of a word
pub bit_here : (words : List ℕ) (place j : ℕ) → j < 64 → bit_in words (place * 64 + j) ≡ (bit_at (get_or words place 0) j == 1)
bit_here words place j l =
    let d : (place * 64 + j) / 64 ≡ place = omega arith in
    let r : (place * 64 + j) % 64 ≡ j = omega arith in
    ap (λ i. bit_at (get_or words i 0) ((place * 64 + j) % 64) == 1) d ∙ ap (λ i. bit_at (get_or words place 0) i == 1) r

-- a bit of both words is one that both have in common
pub common-at : (a b j : ℕ) → bit_at a j ≡ 1 → bit_at b j ≡ 1 → not (bit_and a b == 0) ≡ true
common-at a b j here there =
    let one : bit_at (bit_and a b) j ≡ 1 = bit_at_and a b j ∙ ap (λ x. min x (bit_at b j)) here ∙ ap (min 1) there in
    let apart : bit_and a b ≢ 0 = λ e. let o : zero ≡ 1 = sym (bit_at-zero j) ∙ ap (λ n. bit_at n j) (sym e) ∙ one in absurd (omega (arith, o)) in
    ap not (eq_apart (bit_and a b) 0 apart)

min_one : (x y : ℕ) → min x y ≡ 1 → x < 2 → y < 2 → (x ≡ 1) × (y ≡ 1)
min_one x y h l m = (omega (arith, h, l, m), omega (arith, h, l, m))

-- and there is one where they have any
pub common-found : (a b : ℕ) → b < 2 ^ 64 → not (bit_and a b == 0) ≡ true → (j : ℕ) × (j < 64) × (bit_at a j ≡ 1) × (bit_at b j ≡ 1)
common-found a b l h =
    let n : ℕ = bit_and a b in
    let apart : n ≢ 0 = λ e. let f : false ≡ true = sym (ap not (ap (λ n. n == 0) e)) ∙ h in cc in
    let t = bit_at-trailing_zeros w64 n (omega (arith, apart)) (omega (arith, l, and_le_r a b)) in
    let j : ℕ = trailing_zeros w64 n in
    let both = min_one (bit_at a j) (bit_at b j) (sym (bit_at_and a b j) ∙ t.1) (bit_at-lt a j) (bit_at-lt b j) in
    (j, t.0, both.0, both.1)
