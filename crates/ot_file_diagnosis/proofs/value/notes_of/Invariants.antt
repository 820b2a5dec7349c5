use Rattle.std.proofs.Common.{◌≡◌, map, take}
use Rattle.serde_json.specs.View.{view}
use Rattle.ot_file_diagnosis.specs.DiagnosisView.{remark_by}
use Rattle.ot_file_diagnosis.specs.Values.{note_values}
use Rattle.ot_file_diagnosis.proofs.value.notes_of.Given as goal

abbrev pub invariant-loop-note : goal.invariant-loop-note
invariant-loop-note l = map (λ v. view v) l.values.items ≡ note_values l.name (map remark_by (take l.note-index l.notes))
