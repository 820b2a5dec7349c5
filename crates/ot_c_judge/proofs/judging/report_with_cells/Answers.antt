use Rattle.std.proofs.Common.{ap, ◌∙◌, subst}
use Rattle.std.specs.Prelude.{IfOk}
use Rattle.ot_model.specs.Cells.{lengths}
use Rattle.ot_model.specs.View.{stmts_of}
use Rattle.ot_c_judge.specs.Reports.{ReportsProgram, told_by}
use Rattle.ot_c_judge.specs.SiteView.{source_by}
use Rattle.ot_c_judge.proofs.judging.report_with_cells.Goals as goal

pub report_program-requires-clause-cells : goal.report_program-requires-clause-cells
report_program-requires-clause-cells c = ap lengths c.in_ok-cells.ensures ∙ c.requires.cells

pub returns : goal.returns
returns c =
    subst (λ cells. IfOk c.report_program.result (λ told. ReportsProgram (source_by c.args.source.now) cells (stmts_of c.args.program.body.items) (told_by told)))
    c.in_ok-cells.ensures c.report_program.ensures
