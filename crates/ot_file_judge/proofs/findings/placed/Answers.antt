use Rattle.std.proofs.Common.{◌+◌, ◌∙◌, ap, arith}
use Rattle.std.specs.Prelude.{option_map}
use Rattle.serde_json.specs.View.{view}
use Rattle.ot_file_diagnosis.specs.Diagnoses.{place_in}
use Rattle.ot_file_judge.specs.Judging.{IsInPiece}
use Rattle.ot_file_judge.proofs.FindingLemmas.{placed_found, placed_fault}
use Rattle.ot_file_judge.proofs.findings.placed.Goals as goal

pub returns-clause-placed : goal.returns-clause-placed
returns-clause-placed c =
    let blank = c.args.blank.now in
    let found = c.args.found.now in
    let place = c.in_ok-place.place in
    let at = c.among-2.ensures.place ∙ ap (λ text. place_in text (found.start + place)) (c.mark.ensures ∙ c.requires.text) in
    let inside : IsInPiece blank found.start found.end c.among-2.result =
    record { offset = place; within = omega (arith, c.in_ok-place.ensures.within); is = at } in
    placed_found blank found c.args.book.now c.among-2.result c.if-found.false
    (λ code number told. at ∙ ap (λ offset. place_in blank (found.start + offset)) (c.in_ok-place.ensures.statement code number told))
    (λ code told.
    placed_fault (option_map view found.request) c.args.book.now blank found.start found.end place c.among-2.result at inside
    (λ request value. c.in_ok-place.ensures.fault code request told value))
    inside
