use Rattle.std.proofs.Common.{◌≡◌, map, take}
use Rattle.serde_json.specs.View.{view}
use Rattle.ot_file_diagnosis.specs.Sarif.{rule_value}
use Rattle.ot_file_diagnosis.proofs.sarif.rules_of.Given as goal

abbrev pub invariant-loop-kind : goal.invariant-loop-kind
invariant-loop-kind l = map (λ v. view v) l.values.items ≡ map rule_value (take l.kind-index l.kinds)
