-- What the code's values stand for.
use Rattle.std.specs.Prelude.{ℕ, List, map, option_map, string_bytes}
use Rattle.ot_file_diagnosis.specs.Diagnoses as d
use Rattle.ot_file_diagnosis.specs.declared.diagnosis.Included.{Included}
use Rattle.ot_file_diagnosis.specs.declared.diagnosis.Turn.{Turn}
use Rattle.ot_file_diagnosis.specs.declared.diagnosis.Remark.{Remark}
use Rattle.ot_file_diagnosis.specs.declared.diagnosis.Diagnosis.{Diagnosis}

abbrev pub turn_by : Turn → List ℕ × ℕ
turn_by turn = (string_bytes turn.name, turn.number)

abbrev pub file_by : Included → List ℕ × ℕ
file_by file = (string_bytes file.path, file.from)

abbrev pub remark_by : Remark → d.Remark
remark_by r = record { place = r.place; file = option_map file_by r.file; turns = map turn_by r.turns.items; message = string_bytes r.message }

abbrev pub diagnosis_by : Diagnosis → d.Diagnosis
diagnosis_by one = record { severity = one.severity; code = one.code; told = remark_by one.told; notes = map remark_by one.notes.items }
