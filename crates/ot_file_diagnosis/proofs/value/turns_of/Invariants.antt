use Rattle.std.proofs.Common.{◌≡◌, map, take}
use Rattle.serde_json.specs.View.{view}
use Rattle.ot_file_diagnosis.specs.DiagnosisView.{turn_by}
use Rattle.ot_file_diagnosis.specs.Values.{turn_value}
use Rattle.ot_file_diagnosis.proofs.value.turns_of.Given as goal

abbrev pub invariant-loop-turn : goal.invariant-loop-turn
invariant-loop-turn l = map (λ v. view v) l.values.items ≡ map turn_value (map turn_by (take l.turn-index l.turns))
