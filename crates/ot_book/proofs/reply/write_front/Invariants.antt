use Rattle.std.proofs.Common.{◌≡◌, ◌∷◌, ◌++◌, map, take}
use Rattle.json.specs.Token.{begin_array, string}
use Rattle.ot_book.specs.Answers.{nat}
use Rattle.ot_book.specs.Pieces.{tokens_of_all}
use Rattle.ot_book.proofs.reply.write_front.Given as goal

abbrev pub invariant-loop-number : goal.invariant-loop-number
invariant-loop-number l =
    (l.out.tokens ≡ l.fn.out.tokens ++ (begin_array ∷ string l.word ∷ tokens_of_all (map nat (take l.number-index l.numbers))))
    × (l.out.before ≡ l.fn.out.before)
