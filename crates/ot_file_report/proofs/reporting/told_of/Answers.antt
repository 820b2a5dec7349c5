use Rattle.std.proofs.Common.{ap, sym, ◌∙◌, map, subst}
use Rattle.ot_check.proofs.Cited.{if_ok}
use Rattle.ot_file_diagnosis.specs.DiagnosisView.{remark_by, diagnosis_by}
use Rattle.ot_file_judge.specs.Judging.{Refusal, IsBookBehind, IsSeen}
use Rattle.ot_file_report.specs.Report.{IsTold, refusal_at}
use Rattle.ot_file_report.proofs.ReportLemmas.{is_told}
use Rattle.ot_file_report.proofs.reporting.told_of.Goals as goal

pub returns-clause-told : goal.returns-clause-told
returns-clause-told c =
    let f = c.args.finding.now in
    let blank = c.args.findings.now.blank in
    if_ok c.refused.result _ (λ found. (one : Refusal) → IsBookBehind one c.args.findings.now.book → IsSeen one f → IsTold blank one f.place (diagnosis_by found))
    (λ found is one behind seen.
    subst (IsTold blank one f.place) (sym is)
    (is_told blank one f c.in_ok-notes.notes.items (map remark_by c.in_ok-remarks.remarks.items) seen
    (c.in_ok-notes.ensures one (subst (IsBookBehind one) (sym c.book.ensures) behind) seen) c.in_ok-remarks.ensures.told))
    c.refused.ensures
