use Rattle.std.proofs.Common.{◌∷◌, map}
use Rattle.serde_json.specs.Data.{string}
use Rattle.ot_book.specs.Answers.{nat}
use Rattle.ot_book.proofs.RepliesLemmas.{written-end, on_ok-map}
use Rattle.ot_book.proofs.reply.write_list.Goals as goal

pub returns-clause-tokens : goal.returns-clause-tokens
returns-clause-tokens c =
    on_ok-map c.end_array.result _ _
    (written-end c.args.out.now.tokens c.write_front.new.out.tokens c.end_array.new.self.tokens (string c.args.word.now ∷ map nat c.args.numbers.now) c.in_ok-write_front.ensures.tokens)
    c.end_array.ensures.ok
