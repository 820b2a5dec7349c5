use Rattle.std.proofs.Common.{sym, subst}
use Rattle.std.specs.Prelude.{IfOk}
use Rattle.ot_model.specs.Programs.{IsNamedIn, expanded_of, array_lengths}
use Rattle.ot_program.specs.Returned.{Gives}
use Rattle.ot_check.proofs.Cited.{if_ok}
use Rattle.ot_c_judge.specs.Reports.{ReportsRead, told_by}
use Rattle.ot_c_judge.specs.SiteView.{source_by}
use Rattle.ot_c_judge.specs.Start.{starting_cells}
use Rattle.ot_c_judge.proofs.judging.report_read.Goals as goal

pub report_with_cells-requires-clause-named : goal.report_with_cells-requires-clause-named
report_with_cells-requires-clause-named c = subst (λ r. IfOk r (λ program. IsNamedIn (array_lengths c.args.shape.now) (expanded_of program))) c.in-Ok.is c.requires.named

pub returns-in-Ok : goal.returns-in-Ok
returns-in-Ok c = λ program gives.
    let s = source_by c.args.source.now in
    if_ok c.report_with_cells.result _ (λ told. ReportsRead s (starting_cells c.args.arrays.items) program (told_by told))
    (λ told h. subst (λ r. ReportsRead s (starting_cells c.args.arrays.items) r (told_by told)) (sym (subst (λ r. Gives expanded_of r program) c.in-Ok.is gives)) h)
    c.report_with_cells.ensures
