-- Numbers that are listed by bits, 64 to a word.
use Rattle.std.specs.Prelude.{◌≡◌, ◌*◌, ◌/◌, ◌%◌, ◌==◌, ℕ, Bool, List, length, get_or, filter}
use Rattle.std.specs.Int.{bit_at}
use Rattle.std.specs.List.{list_any, range_with_len}

-- the numbers in their order, and how many numbers there is room for
pub record Numbers : Type 0 where
  pub listed : List ℕ
  pub room : ℕ

-- whether the number is in the list
abbrev pub has : ℕ → List ℕ → Bool
has n xs = list_any (λ x. x == n) xs

-- the list has numbers below this one, each once, in their order
abbrev pub IsListBelow : ℕ → List ℕ → Type 0
IsListBelow count list = list ≡ filter (λ i. has i list) (range_with_len 0 count)

-- whether a bit of the word is set
abbrev pub has_bit : ℕ → ℕ → Bool
has_bit word i = bit_at word i == 1

-- the bits that are set, in their order
unfoldable pub bits_in : ℕ → List ℕ
bits_in word = filter (has_bit word) (range_with_len 0 64)

-- whether a number is listed
abbrev pub has_number : List ℕ → ℕ → Bool
has_number words i = has_bit (get_or words (i / 64) 0) (i % 64)

-- the numbers that are listed, in their order
abbrev pub numbers_in : List ℕ → List ℕ
numbers_in words = filter (has_number words) (range_with_len 0 (64 * length words))
