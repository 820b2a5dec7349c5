use Rattle.std.proofs.Common.{◌≡◌, map}
use Rattle.ot_file_diagnosis.specs.DiagnosisView.{diagnosis_by}
use Rattle.ot_file_diagnosis.specs.Formats.{without_refusals}
use Rattle.ot_file_diagnosis.proofs.format.without_refusals.Given as goal

abbrev pub invariant-loop-one : goal.invariant-loop-one
invariant-loop-one l = map diagnosis_by l.kept.items ≡ without_refusals (map diagnosis_by l.yielded)
