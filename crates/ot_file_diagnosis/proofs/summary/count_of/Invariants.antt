use Rattle.std.proofs.Common.{◌≡◌, take}
use Rattle.std.specs.Prelude.{count_by}
use Rattle.ot_file_diagnosis.specs.Summaries.{is_same}
use Rattle.ot_file_diagnosis.proofs.summary.count_of.Given as goal

abbrev pub invariant-loop-outcome : goal.invariant-loop-outcome
invariant-loop-outcome l = l.count ≡ count_by (is_same l.kind) (take l.outcome-index l.outcomes)
