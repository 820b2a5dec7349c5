use Rattle.std.proofs.Common.{◌≡◌, map, take}
use Rattle.serde_json.specs.View.{view}
use Rattle.ot_file_diagnosis.specs.DiagnosisView.{remark_by}
use Rattle.ot_file_diagnosis.specs.Sarif.{related_value}
use Rattle.ot_file_diagnosis.proofs.sarif.related_to.Given as goal

abbrev pub invariant-loop-note : goal.invariant-loop-note
invariant-loop-note l = map (λ v. view v) l.values.items ≡ map (related_value l.name) (map remark_by (take l.note-index l.notes))
