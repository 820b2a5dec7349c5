use Rattle.std.proofs.Common.{◌≡◌, ◌∷◌, ◌++◌, map, take}
use Rattle.json.specs.Token.{begin_array}
use Rattle.ot_book.specs.Answers.{nats}
use Rattle.ot_book.specs.Pieces.{tokens_of_all}
use Rattle.ot_book.proofs.reply.write_shows.Given as goal

abbrev pub invariant-loop-numbers : goal.invariant-loop-numbers
invariant-loop-numbers l =
    (l.out.tokens ≡ l.fn.out.tokens ++ (begin_array ∷ tokens_of_all (map (λ s. nats s.items) (take l.numbers-index l.shows))))
    × (l.out.before ≡ l.fn.out.before)
