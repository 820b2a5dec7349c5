use Rattle.std.proofs.Common.{◌∙◌, map, subst}
use Rattle.ot_check.proofs.Cited.{if_ok}
use Rattle.ot_file_diagnosis.specs.DiagnosisView.{diagnosis_by}
use Rattle.ot_file_text.specs.Comments.{comments_blanked}
use Rattle.ot_file_judge.specs.Judging.{refusals_in, finds, Goes}
use Rattle.ot_file_report.specs.Report.{Reports}
use Rattle.ot_file_report.proofs.reporting.report_on.Goals as goal

pub returns : goal.returns
returns c =
    let found = c.in_ok-findings.ensures in
    let all = refusals_in (finds found.0) (comments_blanked c.args.text.now) in
    let text_is = c.as_slice.ensures.value ∙ c.in_ok-blank.ensures in
    if_ok c.report_all.result _ _
    (λ told h. (found.0, found.1, subst (λ blank. Reports blank all (map diagnosis_by told.items)) (found.2 ∙ text_is) h))
    (c.report_all.ensures all (subst (λ text. Goes (refusals_in (finds found.0) text) c.in_ok-findings.findings) text_is found.3))
