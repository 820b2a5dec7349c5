use Rattle.std.proofs.Common.{Option, ap, sym, ◌∙◌}
use Rattle.std.specs.Prelude.{option_map, unwrap_or}
use Rattle.serde_json.specs.View.{view}
use Rattle.serde_json.specs.declared.value.Value.{Value}
use Rattle.ot_file_judge.specs.Judging.{statement_offset}
use Rattle.ot_file_judge.proofs.PlaceLemmas.{statement_by}
use Rattle.ot_file_judge.proofs.place.statement_in.Goals as goal

pub returns-in-Some-2-clause-offset : goal.returns-in-Some-2-clause-offset
returns-in-Some-2-clause-offset c =
    c.offset_in.ensures.offset
    ∙ sym
    (ap (λ o. unwrap_or o 0)
    (ap (λ (r : Option Value). statement_offset (option_map view r) c.args.piece.now c.args.number) c.in-Some.is
    ∙ statement_by c.args.piece.now c.args.number (view c.in-Some.request) c.in-Some-2.place c.in_ok-place.field-0 c.in_ok-place.ensures c.in-Some-2.is))
