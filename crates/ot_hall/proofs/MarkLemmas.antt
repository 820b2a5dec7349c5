-- Marks as the bits of words.
use Rattle.std.proofs.Common.{◌≡◌, ◌≢◌, ◌==◌, ℕ, ◌+◌, ◌-◌, ◌*◌, ◌/◌, ◌%◌, ◌^◌, ◌<◌, ◌≤◌, Bool, true, false, true≢false, min, map, replicate, List, length, get_or, set, refl, sym, ap, ◌∙◌, inl, inr, arith, w64}
use Rattle.std.specs.Prelude.{bit_and, None, Some}
use Rattle.std.specs.Int.{bit_at, div_ceil, trailing_zeros}
use Rattle.std.specs.List.{range_with_len}
use Rattle.std.specs.Slice.Scan.{HoldsNowhere}
use Rattle.std.proofs.lemmas.Bool.{cases_eq, cases_lt}
use Rattle.std.proofs.lemmas.List.{ext_get_or, get_or_past, get_or-set_same, get_or-set_other, get_or-replicate, length-replicate, length-set}
use Rattle.std.proofs.lemmas.List.FromFn.{length-map-range_with_len, get_or-map-range_with_len}
use Rattle.std.proofs.lemmas.Nat.{and_le_l}
use Rattle.std.proofs.lemmas.Grind.{div_ceil_times}
use Rattle.std.proofs.lemmas.Nat.Bits.{bit_at_and, bit_at-zero, bit_at-lt, bit_at_mask_inside, bit_at_mask_below, bit_at-trailing_zeros, ones_shl}
use Rattle.ot_hall.proofs.IndexLemmas.{replicated-at}
use Rattle.ot_hall.specs.Marking.{is_number_marked, IsFirst, has_bit_at, IsLowest, bit_marked}

-- ---- one word

-- `word & (MAX << from)`
abbrev pub from_on : ℕ → ℕ → ℕ
from_on word from = bit_and word (18446744073709551615 * 2 ^ from % 18446744073709551616)

bit-from : (word from k : ℕ) → from < 64 → bit_at (from_on word from) k ≡ min (bit_at word k) (bit_at (2 ^ 64 - 2 ^ from) k)
bit-from word from k low = ap (λ m. bit_at (bit_and word m) k) (ones_shl 64 from (omega arith)) ∙ bit_at_and word (2 ^ 64 - 2 ^ from) k

bit-ahead : (word from k : ℕ) → from < 64 → from ≤ k → k < 64 → bit_at (from_on word from) k ≡ bit_at word k
bit-ahead word from k low after within = omega (arith, bit-from word from k low, bit_at_mask_inside from 64 k after within, bit_at-lt word k)

bit-before : (word from k : ℕ) → from < 64 → k < from → bit_at (from_on word from) k ≡ 0
bit-before word from k low before = omega (arith, bit-from word from k low, bit_at_mask_below from 64 k before)

clear : (word k : ℕ) → bit_at word k ≡ 0 → has_bit_at word k ≡ false
clear word k is = ap (λ b. b == 1) is

pub none-from : (word from : ℕ) → from < 64 → from_on word from ≡ 0 → HoldsNowhere (has_bit_at word) from 64
none-from word from low none k after within = clear word k (sym (bit-ahead word from k low after within) ∙ ap (λ w. bit_at w k) none ∙ bit_at-zero k)

pub lowest-from : (word from : ℕ) → word < 2 ^ 64 → from < 64 → 0 < from_on word from → IsLowest word from (Some (trailing_zeros w64 (from_on word from)))
lowest-from word from fits low some =
    let at = trailing_zeros w64 (from_on word from) in
    let found = bit_at-trailing_zeros w64 (from_on word from) some (omega (arith, and_le_l word (18446744073709551615 * 2 ^ from % 18446744073709551616))) in
    let after : from ≤ at = elim (cases_lt at from) [
      | inl before ↦ absurd (omega (arith, found.1, bit-before word from at low before))
      | inr after ↦ after
    ] in (
      found.0,
      record {
        low = after;
        high = omega (arith, found.0);
        before = λ k behind below. clear word k (sym (bit-ahead word from k low behind (omega (arith, found.0))) ∙ found.2 k below);
        hit = λ _. ap (λ b. b == 1) (sym (bit-ahead word from at low after found.0) ∙ found.1);
      },
    )

-- ---- the words

-- the marks are those of a list, where they are at each number
pub marks-are : (words : List ℕ) (count : ℕ) (marks : List Bool) → length marks ≡ count → ((k : ℕ) → k < count → bit_marked words k ≡ get_or marks k false)
    → map (bit_marked words) (range_with_len 0 count) ≡ marks
marks-are words count marks many each =
    ext_get_or false (map (bit_marked words) (range_with_len 0 count)) marks (length-map-range_with_len (bit_marked words) 0 count ∙ sym many)
    (λ k within.
    let below : k < count = omega (arith, within, length-map-range_with_len (bit_marked words) 0 count) in
    get_or-map-range_with_len (bit_marked words) 0 count k k false below (omega arith) ∙ each k below)

-- a mark is its bit, since no bit is set behind them
pub marked : (words : List ℕ) (count : ℕ) (k : ℕ) → ((j : ℕ) → count ≤ j → bit_marked words j ≡ false) → is_number_marked (map (bit_marked words) (range_with_len 0 count)) k ≡ bit_marked words k
marked words count k clean = elim (cases_lt k count) [
  | inl within ↦ get_or-map-range_with_len (bit_marked words) 0 count k k false within (omega arith)
  | inr past ↦ get_or_past (map (bit_marked words) (range_with_len 0 count)) k false (omega (arith, length-map-range_with_len (bit_marked words) 0 count)) ∙ sym (clean k past)
]

pub none-in : (n k : ℕ) → bit_marked (replicate n 0) k ≡ false
none-in n k = clear (get_or (replicate n 0) (k / 64) 0) (k % 64) (ap (λ (w : ℕ). bit_at w (k % 64)) (replicated-at {X = ℕ} 0 n (k / 64)) ∙ bit_at-zero (k % 64))

pub none-set : (n count : ℕ) → map (bit_marked (replicate n 0)) (range_with_len 0 count) ≡ replicate count false
none-set n count = marks-are (replicate n 0) count (replicate count false) (length-replicate count false) (λ k within. none-in n k ∙ sym (get_or-replicate count k false false within))

-- ---- a mark is put

-- the word of a number becomes another, where only its bit differs
pub record Puts (words : List ℕ) (number w : ℕ) (is_set : Bool) : Type 0 where
  pub within : number / 64 < length words
  pub here : has_bit_at w (number % 64) ≡ is_set
  pub others : (i : ℕ) → i < 64 → i ≢ number % 64 → has_bit_at w i ≡ has_bit_at (get_or words (number / 64) 0) i

put-here : (words : List ℕ) (number w : ℕ) (is_set : Bool) → Puts words number w is_set → bit_marked (set words (number / 64) w) number ≡ is_set
put-here words number w is_set puts = ap (λ v. has_bit_at v (number % 64)) (get_or-set_same words (number / 64) w 0 puts.within) ∙ puts.here

pub put-other : (words : List ℕ) (number w : ℕ) (is_set : Bool) → Puts words number w is_set → (k : ℕ) → k ≢ number → bit_marked (set words (number / 64) w) k ≡ bit_marked words k
put-other words number w is_set puts k apart =
    let new = set words (number / 64) w in
    elim (cases_eq (k / 64) (number / 64)) [
      | inl same ↦
          ap (λ i. has_bit_at (get_or new i 0) (k % 64)) same ∙ ap (λ v. has_bit_at v (k % 64)) (get_or-set_same words (number / 64) w 0 puts.within)
          ∙ puts.others (k % 64) (omega arith) (λ e. apart (omega (arith, same, e))) ∙ ap (λ i. has_bit_at (get_or words i 0) (k % 64)) (sym same)
      | inr other ↦ ap (λ v. has_bit_at v (k % 64)) (get_or-set_other words (number / 64) (k / 64) w 0 other)
    ]

pub put-marks : (words : List ℕ) (count number w : ℕ) (is_set : Bool) → number < count → Puts words number w is_set
    → map (bit_marked (set words (number / 64) w)) (range_with_len 0 count) ≡ set (map (bit_marked words) (range_with_len 0 count)) number is_set
put-marks words count number w is_set below puts =
    let old = map (bit_marked words) (range_with_len 0 count) in
    let many : length old ≡ count = length-map-range_with_len (bit_marked words) 0 count in
    marks-are (set words (number / 64) w) count (set old number is_set) (length-set old number is_set ∙ many) (λ k within. elim (cases_eq k number) [
      | inl here ↦
          ap (bit_marked (set words (number / 64) w)) here ∙ put-here words number w is_set puts ∙ sym (get_or-set_same old number is_set false (omega (arith, below, many)))
          ∙ ap (λ i. get_or (set old number is_set) i false) (sym here)
      | inr other ↦
          put-other words number w is_set puts k other ∙ sym (get_or-map-range_with_len (bit_marked words) 0 count k k false within (omega arith))
          ∙ sym (get_or-set_other old number k is_set false other)
    ])

-- ---- the first mark

-- no mark is set from one number up to the next to be looked at, which lies in the word at this place
pub record IsLookedAt (words : List ℕ) (from next place : ℕ) : Type 0 where
  pub at : next / 64 ≡ place
  pub behind : from ≤ next
  pub none : HoldsNowhere (bit_marked words) from next

in-word : (words : List ℕ) (k place : ℕ) → k / 64 ≡ place → bit_marked words k ≡ has_bit_at (get_or words place 0) (k % 64)
in-word words k place is = ap (λ i. has_bit_at (get_or words i 0) (k % 64)) is

pub looked-on : (words : List ℕ) (from next place : ℕ) → IsLookedAt words from next place → HoldsNowhere (has_bit_at (get_or words place 0)) (next % 64) 64
    → IsLookedAt words from ((place + 1) * 64) (place + 1)
looked-on words from next place looked none = record {
  at = omega arith;
  behind = omega (arith, looked.behind, looked.at);
  none = λ k after before. elim (cases_lt k next) [
    | inl was ↦ looked.none k after was
    | inr here ↦
        let at : k / 64 ≡ place = omega (arith, looked.at, here, before) in
        in-word words k place at ∙ none (k % 64) (omega (arith, looked.at, here, at)) (omega arith)
  ];
}

pub found : (words : List ℕ) (count from next place bit : ℕ) → ((j : ℕ) → count ≤ j → bit_marked words j ≡ false) → IsLookedAt words from next place
    → IsLowest (get_or words place 0) (next % 64) (Some bit) → IsFirst (map (bit_marked words) (range_with_len 0 count)) from (Some (place * 64 + bit))
found words count from next place bit clean looked lowest =
    let k : ℕ = place * 64 + bit in
    let marks = map (bit_marked words) (range_with_len 0 count) in
    let many : length marks ≡ count = length-map-range_with_len (bit_marked words) 0 count in
    let at : k / 64 ≡ place = omega (arith, lowest.0) in
    let rest : k % 64 ≡ bit = omega (arith, lowest.0) in
    let hit : bit_marked words k ≡ true = in-word words k place at ∙ ap (has_bit_at (get_or words place 0)) rest ∙ lowest.1.hit lowest.0 in
    let within : k < count = elim (cases_lt k count) [
      | inl within ↦ within
      | inr past ↦ absurd (true≢false (sym hit ∙ clean k past))
    ] in (
      omega (arith, within, many),
      record {
        low = omega (arith, looked.behind, looked.at, lowest.1.low);
        high = omega (arith, within, many);
        before = λ j after before. marked words count j clean ∙ (elim (cases_lt j next) [
          | inl was ↦ looked.none j after was
          | inr here ↦
              let in_it : j / 64 ≡ place = omega (arith, looked.at, here, before, at) in
              in-word words j place in_it ∙ lowest.1.before (j % 64) (omega (arith, looked.at, here, in_it)) (omega (arith, in_it, before))
        ]);
        hit = λ _. marked words count k clean ∙ hit;
      },
    )

pub not-found : (words : List ℕ) (count from next place : ℕ) → ((j : ℕ) → count ≤ j → bit_marked words j ≡ false) → IsLookedAt words from next place → length words ≤ place
    → IsFirst (map (bit_marked words) (range_with_len 0 count)) from None
not-found words count from next place clean looked past k after within = marked words count k clean ∙ (elim (cases_lt k next) [
  | inl was ↦ looked.none k after was
  | inr behind ↦ in-word words k (k / 64) refl ∙ ap (λ w. has_bit_at w (k % 64)) (get_or_past words (k / 64) 0 (omega (arith, looked.at, behind, past))) ∙ clear 0 (k % 64) (bit_at-zero (k % 64))
])

-- ---- bounds

pub below-count : (words : List ℕ) (count number : ℕ) (marks : List Bool) → map (bit_marked words) (range_with_len 0 count) ≡ marks → number < length marks → number < count
below-count words count number marks is below = omega (arith, below, ap length is, length-map-range_with_len (bit_marked words) 0 count)

pub within-words : (words : List ℕ) (count number : ℕ) → length words ≡ div_ceil count 64 → number < count → number / 64 < length words
within-words words count number many below = omega (arith, many, below, div_ceil_times count 64 (omega arith))

pub place-fits : (words : List ℕ) (count place bit : ℕ) → length words ≡ div_ceil count 64 → count < 2 ^ 32 → place < length words → bit < 64 → place * 64 + bit < 2 ^ 32
place-fits words count place bit many fits within low = omega (arith, many, fits, within, low, div_ceil_times count 64 (omega arith))
