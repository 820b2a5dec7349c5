use Rattle.std.proofs.Common.{◌≡◌, ◌∷◌, ◌++◌, map, take, string_bytes}
use Rattle.json.specs.Token.{begin_array}
use Rattle.ot_book.specs.Answers.{name_and_length}
use Rattle.ot_book.specs.Pieces.{tokens_of_all}
use Rattle.ot_book.proofs.reply.write_arrays.Given as goal

abbrev pub invariant-loop-array : goal.invariant-loop-array
invariant-loop-array l =
    (l.out.tokens ≡ l.fn.out.tokens ++ (begin_array ∷ tokens_of_all (map (λ a. name_and_length (string_bytes a.name, a.len)) (take l.array-index l.arrays))))
    × (l.out.before ≡ l.fn.out.before)
