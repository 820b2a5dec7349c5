-- Marks of numbers: a bit each, 64 in a word.
use Rattle.std.specs.Prelude.{◌≡◌, ◌==◌, ◌^◌, ◌≤◌, ◌<◌, ◌/◌, ◌%◌, ℕ, Bool, false, List, length, map, Option, Some, None, slice_index_or}
use Rattle.std.specs.Int.{bit_at, div_ceil}
use Rattle.std.specs.List.{range_with_len}
use Rattle.std.specs.Slice.Scan.{HoldsNowhere, IsFirstPlace}
use Rattle.ot_hall.specs.declared.marks.Marks.TheInside.{Inside}

-- ---- as callers see them

-- whether the mark of a number is set
abbrev pub is_number_marked : List Bool → ℕ → Bool
is_number_marked marks k = slice_index_or marks k false

-- the first number from one on whose mark is set
abbrev pub IsFirst : List Bool → ℕ → Option ℕ → Type 0
IsFirst marks from None = HoldsNowhere (is_number_marked marks) from (length marks)
IsFirst marks from (Some k) = (k < length marks) × IsFirstPlace (is_number_marked marks) from (length marks) k

-- ---- as they are kept

-- whether a bit of a word is set
abbrev pub has_bit_at : ℕ → ℕ → Bool
has_bit_at word k = bit_at word k == 1

-- the lowest bit of a word that is set, from a place on
abbrev pub IsLowest : ℕ → ℕ → Option ℕ → Type 0
IsLowest word from None = HoldsNowhere (has_bit_at word) from 64
IsLowest word from (Some k) = (k < 64) × IsFirstPlace (has_bit_at word) from 64 k

-- whether the bit of a number is set
abbrev pub bit_marked : List ℕ → ℕ → Bool
bit_marked words k = has_bit_at (slice_index_or words (k / 64) 0) (k % 64)

abbrev pub marks_of : Inside → List Bool
marks_of m = map (bit_marked m.words.items) (range_with_len 0 m.count)

-- there are words for all, and no bit is set behind them
pub record IsMarks (m : Inside) : Type 0 where
  pub many : length m.words.items ≡ div_ceil m.count 64
  pub few : m.count < 2 ^ 32
  pub clean : (k : ℕ) → m.count ≤ k → bit_marked m.words.items k ≡ false
