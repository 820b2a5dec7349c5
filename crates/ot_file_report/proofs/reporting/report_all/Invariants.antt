use Rattle.std.proofs.Common.{◌≡◌, List, map}
use Rattle.ot_file_diagnosis.specs.DiagnosisView.{diagnosis_by}
use Rattle.ot_file_judge.specs.Judging.{Refusal, Goes, bytes_left}
use Rattle.ot_file_report.proofs.ReportLemmas.{Reporting}
use Rattle.ot_file_report.proofs.reporting.report_all.Given as goal

abbrev pub invariant-loop-found : goal.invariant-loop-found
invariant-loop-found l = record {
  reports : (all : List Refusal) → Goes all l.fn.findings → Reporting l.fn.findings.blank all l.findings (map diagnosis_by l.found.items);
  file : l.findings.blank ≡ l.fn.findings.blank;
}

abbrev pub decreases-loop-found : goal.decreases-loop-found
decreases-loop-found l = bytes_left l.findings
