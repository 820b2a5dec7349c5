-- Sets of numbers as bits.
use Rattle.std.specs.Prelude.{◌==◌, ℕ, ◌/◌, ◌%◌, Bool, List, get_or}
use Rattle.std.specs.Int.{bit_at}
use Rattle.ot_sets.specs.declared.numbers.Numbers.{Numbers}

-- the words of a set, which have a bit for each number, 64 in a word
abbrev pub words_of : Numbers → List ℕ
words_of numbers = numbers.words.items

-- whether a number is in a set that has these words
abbrev pub bit_in : List ℕ → ℕ → Bool
bit_in words k = bit_at (get_or words (k / 64) 0) (k % 64) == 1

-- whether a number is in a set
abbrev pub has : Numbers → ℕ → Bool
has numbers k = bit_in (words_of numbers) k
