use Rattle.std.proofs.Common.{◌∷◌, ◌++◌, ◌∙◌, List, map, ap, sym}
use Rattle.std.proofs.lemmas.List.{take_all}
use Rattle.std.proofs.lemmas.Simd.{map-map}
use Rattle.std.specs.Global.{Vec}
use Rattle.json.specs.Token.{begin_array}
use Rattle.ot_book.specs.Answers.{nats}
use Rattle.ot_book.specs.Pieces.{tokens_of_all}
use Rattle.ot_book.proofs.RepliesLemmas.{written-end, on_ok-map}
use Rattle.ot_book.proofs.reply.write_shows.Goals as goal

pub returns-clause-tokens : goal.returns-clause-tokens
returns-clause-tokens c =
    let base = c.args.out.now.tokens in
    let shows : List (Vec _) = c.args.shows.now in
    let all = ap (map (λ (s : Vec _). nats s.items)) (take_all c.loop-numbers.numbers-index shows c.loop-numbers-test.false)
    ∙ sym (map-map nats (λ (s : Vec _). s.items) shows) in
    let done = c.loop-numbers.invariant.0 ∙ ap (λ ds. base ++ (begin_array ∷ tokens_of_all ds)) all in
    on_ok-map c.end_array.result _ _
    (written-end base c.loop-numbers.out.tokens c.end_array.new.self.tokens (map nats (map (λ (s : Vec _). s.items) shows)) done) c.end_array.ensures.ok
