use Rattle.std.proofs.Common.{◌∷◌, ◌++◌, ◌∙◌, map, ap}
use Rattle.std.proofs.lemmas.List.{take_all}
use Rattle.json.specs.Token.{begin_array}
use Rattle.ot_book.specs.Answers.{nat}
use Rattle.ot_book.specs.Pieces.{tokens_of_all}
use Rattle.ot_book.proofs.RepliesLemmas.{written-end, on_ok-map}
use Rattle.ot_book.proofs.reply.write_numbers.Goals as goal

pub returns-clause-tokens : goal.returns-clause-tokens
returns-clause-tokens c =
    let base = c.args.out.now.tokens in
    let all = take_all c.loop-number.number-index c.args.numbers.now c.loop-number-test.false in
    let done = c.loop-number.invariant.0 ∙ ap (λ ns. base ++ (begin_array ∷ tokens_of_all (map nat ns))) all in
    on_ok-map c.end_array.result _ _ (written-end base c.loop-number.out.tokens c.end_array.new.self.tokens (map nat c.args.numbers.now) done) c.end_array.ensures.ok
