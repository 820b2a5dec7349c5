use Rattle.std.proofs.Common.{◌≡◌, ◌++◌, map, take}
use Rattle.ot_file_diagnosis.specs.DiagnosisView.{diagnosis_by}
use Rattle.ot_file_diagnosis.specs.Formats.{found_text}
use Rattle.ot_file_diagnosis.proofs.format.put_found.Given as goal

abbrev pub invariant-loop-one : goal.invariant-loop-one
invariant-loop-one l = l.out.items ≡ l.fn.out.items ++ found_text l.format l.source.name.now l.source.text.now (map diagnosis_by (take l.one-index l.found))
