use Rattle.std.proofs.Common.{◌∷◌, ◌++◌, ◌∙◌, List, map, ap, sym, string_bytes}
use Rattle.std.proofs.lemmas.List.{take_all}
use Rattle.std.proofs.lemmas.Simd.{map-map}
use Rattle.json.specs.Token.{begin_array}
use Rattle.ot_model.specs.Programs.{arrays_of}
use Rattle.ot_model.specs.declared.shape.ArrayShape.{ArrayShape}
use Rattle.ot_book.specs.Answers.{name_and_length}
use Rattle.ot_book.specs.Pieces.{tokens_of_all}
use Rattle.ot_book.proofs.RepliesLemmas.{written-end, on_ok-map}
use Rattle.ot_book.proofs.reply.write_arrays.Goals as goal

pub returns-clause-tokens : goal.returns-clause-tokens
returns-clause-tokens c =
    let base = c.args.out.now.tokens in
    let arrays : List ArrayShape = c.args.arrays.now in
    let all = ap (map (λ (a : ArrayShape). name_and_length (string_bytes a.name, a.len))) (take_all c.loop-array.array-index arrays c.loop-array-test.false)
    ∙ sym (map-map name_and_length (λ (a : ArrayShape). (string_bytes a.name, a.len)) arrays) in
    let done = c.loop-array.invariant.0 ∙ ap (λ ds. base ++ (begin_array ∷ tokens_of_all ds)) all in
    on_ok-map c.end_array.result _ _
    (written-end base c.loop-array.out.tokens c.end_array.new.self.tokens (map name_and_length (arrays_of arrays)) done) c.end_array.ensures.ok
