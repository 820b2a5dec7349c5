use Rattle.std.proofs.Common.{◌≡◌, ◌++◌, drop, false}
use Rattle.ot_file_diagnosis.specs.Summaries.{parts_text}
use Rattle.ot_file_diagnosis.proofs.summary.put_parts.Given as goal

abbrev pub invariant-loop-kind : goal.invariant-loop-kind
invariant-loop-kind l = l.out.items ++ parts_text l.outcomes l.later (drop l.kind-index l.kinds) ≡ l.fn.out.items ++ parts_text l.outcomes false l.kinds
