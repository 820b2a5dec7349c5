use Rattle.std.proofs.Common.{◌≡◌, ◌++◌, map, take}
use Rattle.serde_json.specs.View.{view}
use Rattle.ot_file_diagnosis.specs.DiagnosisView.{diagnosis_by}
use Rattle.ot_file_diagnosis.specs.Sarif.{result_value}
use Rattle.ot_file_diagnosis.proofs.format.put_results.Given as goal

abbrev pub invariant-loop-one : goal.invariant-loop-one
invariant-loop-one l = map (λ r. view r) l.results.items ≡ map (λ r. view r) l.fn.results.items ++ map (result_value l.name) (map diagnosis_by (take l.one-index l.found))
