use Rattle.std.proofs.Common.{map, sym, ap, ◌∙◌, subst}
use Rattle.ot_file_diagnosis.specs.DiagnosisView.{diagnosis_by}
use Rattle.ot_file_judge.specs.Judging.{IsPlaced, Standing, Goes, IsBookBehind}
use Rattle.ot_file_judge.proofs.FindingLemmas.{match_none, match_some}
use Rattle.ot_file_report.specs.Report.{IsTold}
use Rattle.ot_file_report.proofs.ReportLemmas.{reporting_more, reporting_ends}
use Rattle.ot_file_report.proofs.reporting.report_all.Goals as goal

pub loop-found-preserved : goal.loop-found-preserved
loop-found-preserved c = record {
  reports = λ all goes.
      let f = c.in-Some.finding in
      let r = c.loop-found.invariant.reports all goes in
      let file = c.in_ok-finding.ensures.file in
      let h = match_some c.in_ok-finding.field-0 _ _ f c.in-Some.is (c.in_ok-finding.ensures.next r.behind r.goes) in
      let told = c.in_ok-told_of.ensures.told h.0 h.5 h.4 in
      reporting_more r h.0 h.1 c.told_of.new.findings f.place (diagnosis_by c.in_ok-told_of.field-0) _ h.2
      (subst (λ s. Goes h.1 s) (sym c.in_ok-told_of.ensures.same) h.3) (subst (λ text. IsPlaced text h.0 f.place) c.loop-found.invariant.file h.6)
      (subst (λ text. IsTold text h.0 f.place (diagnosis_by c.in_ok-told_of.field-0)) (file ∙ c.loop-found.invariant.file) told)
      c.in_ok-put.ensures;
  file = ap (λ (s : Standing). s.blank) c.in_ok-told_of.ensures.same ∙ c.in_ok-finding.ensures.file ∙ c.loop-found.invariant.file;
}

pub returns : goal.returns
returns c = λ all goes.
    let r = c.loop-found.invariant.reports all goes in
    reporting_ends r (match_none c.in_ok-finding.field-0 _ _ c.in_default.is (c.in_ok-finding.ensures.next r.behind r.goes))
