use Rattle.std.proofs.Common.{refl, sym, ap, ◌∙◌}
use Rattle.serde_json.specs.View.{view}
use Rattle.ot_model.specs.Programs.{Arrays, array_lengths, arrays_of}
use Rattle.ot_check.proofs.Cited.{if_ok}
use Rattle.ot_program.specs.Programs.{program_of}
use Rattle.ot_c_judge.specs.Reports.{run_of, source_of, told_by}
use Rattle.ot_c_judge.specs.Start.{array_names_of, shape_of, starting_cells}
use Rattle.ot_c_judge.proofs.ReportLemmas.{same_lengths, same_source, same_reports}
use Rattle.ot_c_judge.proofs.judging.report_c.Goals as goal

pub report_read-requires-clause-cells : goal.report_read-requires-clause-cells
report_read-requires-clause-cells c =
    same_lengths c.args.lowered.arrays.items ∙ sym (ap array_lengths (c.in_ok-shape.ensures ∙ ap shape_of c.as_slice-given.ensures.value))

pub returns : goal.returns
returns c =
    let l = c.args.lowered in
    let shape = c.in_ok-shape.ensures ∙ ap shape_of c.as_slice-given.ensures.value in
    let same = same_source c.args.name.now c.args.text.now l.order (view c.in_ok-request.request) (run_of (view l.program)) (arrays_of c.arrays-names.result.now) (array_names_of l.arrays.items)
    c.as_slice-bytes.result.now l.places.items c.in_ok-request.ensures (c.arrays-names.ensures.arrays ∙ ap (λ (s : Arrays). s.arrays) shape) c.as_slice-bytes.ensures.value in
    if_ok c.report_read.result _ _
    (λ told h. same_reports _ (source_of c.args.name.now c.args.text.now l) _ (starting_cells l.arrays.items) _ _ (told_by told) same
    refl (ap (λ s. program_of s (view l.program)) shape) h)
    (c.report_read.ensures _ c.read_program-read.ensures.read)
