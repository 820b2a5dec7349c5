use Rattle.std.proofs.Common.{◌≡◌, ◌++◌, map, take}
use Rattle.ot_file_diagnosis.specs.DiagnosisView.{remark_by}
use Rattle.ot_file_diagnosis.specs.Texts.{notes_shown}
use Rattle.ot_file_diagnosis.proofs.text.put_notes.Given as goal

abbrev pub invariant-loop-note : goal.invariant-loop-note
invariant-loop-note l = l.out.items ≡ l.fn.out.items ++ notes_shown l.paint l.source.name.now l.source.text.now (map remark_by (take l.note-index l.notes))
