use Rattle.std.proofs.Common.{◌≡◌, ◌++◌, map, take}
use Rattle.ot_file_diagnosis.specs.DiagnosisView.{remark_by}
use Rattle.ot_file_diagnosis.specs.Annotations.{notes_text}
use Rattle.ot_file_diagnosis.proofs.annotation.put_notes.Given as goal

abbrev pub invariant-loop-note : goal.invariant-loop-note
invariant-loop-note l = l.out.items ≡ l.fn.out.items ++ notes_text l.name (map remark_by (take l.note-index l.notes))
