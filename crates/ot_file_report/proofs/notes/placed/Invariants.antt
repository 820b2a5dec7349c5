use Rattle.std.proofs.Common.{◌≡◌, map}
use Rattle.std.specs.Prelude.{option_map}
use Rattle.serde_json.specs.View.{view}
use Rattle.ot_file_diagnosis.specs.DiagnosisView.{remark_by}
use Rattle.ot_file_report.specs.NoteView.{note_by}
use Rattle.ot_file_report.specs.Report.{notes_told}
use Rattle.ot_file_report.proofs.notes.placed.Given as goal

abbrev pub invariant-loop-note : goal.invariant-loop-note
invariant-loop-note l = record {
  told : map remark_by l.told.items ≡ notes_told (option_map view l.finding.request) l.fn.findings.blank l.finding.start l.finding.end l.finding.place (map note_by l.yielded);
  same : l.findings ≡ l.fn.findings;
}
