-- Signs bind as C's grammar says.
use Rattle.std.specs.Prelude.{◌≡◌, ◌≤◌, List, ◌++◌, false, Ok}
use Rattle.ot_c_words.specs.declared.word.Word.{Word}
use Rattle.ot_c_expressions.specs.Tree.{E}
use Rattle.ot_c_expressions.specs.Reading.{value_at}
use Rattle.ot_c_expressions.specs.Spelling.{words_of_value, value_with_places, depth, IsPlain, goes_on}

-- what is spelled with the fewest brackets is read as the value that was spelled, each part where it stands, whatever follows that
-- doesn't go on with it
abbrev pub SpelledReadsAsItself : Type 0
SpelledReadsAsItself = (e : E) (rest : List Word) → IsPlain e → depth e ≤ 72 → goes_on rest ≡ false → value_at 72 1 (words_of_value e ++ rest) ≡ Ok (value_with_places e rest, rest)
