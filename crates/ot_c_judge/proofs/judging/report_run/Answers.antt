use Rattle.std.proofs.Common.{map, sym, subst}
use Rattle.ot_model.specs.Names.{NamedIn}
use Rattle.ot_model.specs.View.{stmts_of}
use Rattle.ot_check.proofs.Cited.{if_ok}
use Rattle.ot_file_diagnosis.specs.DiagnosisView.{diagnosis_by}
use Rattle.ot_c_judge.specs.Reports.{ReportsRun}
use Rattle.ot_c_judge.specs.SiteView.{source_by}
use Rattle.ot_c_judge.proofs.FoundLemmas.{body-fits}
use Rattle.ot_c_judge.proofs.judging.report_run.Goals as goal

pub find-requires : goal.find-requires
find-requires c = subst (λ ls. NamedIn ls (stmts_of c.args.program.now.body.items)) (sym c.requires.cells) c.requires.named.body

pub report_finding-requires : goal.report_finding-requires
report_finding-requires c = body-fits _ (stmts_of c.args.program.now.body.items) c.requires.named.body

pub returns : goal.returns
returns c =
    let first = c.in_ok-first.ensures in
    if_ok c.report_finding.result _ (λ report. ReportsRun (source_by c.args.source.now) c.args.cells (stmts_of c.args.program.now.body.items) report.verdict (map diagnosis_by report.found.items))
    (λ report h. (c.in_ok-finding.finding, c.in_ok-finding.ensures first, h))
    (c.report_finding.ensures first)
