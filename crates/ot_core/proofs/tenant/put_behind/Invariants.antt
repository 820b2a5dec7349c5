use Rattle.std.proofs.Common.{◌≡◌, ◌++◌}
use Rattle.std.specs.Prelude.{vec_capacity}
use Rattle.ot_core.proofs.tenant.put_behind.Given as goal

abbrev pub invariant-loop-told : goal.invariant-loop-told
invariant-loop-told l = (l.kept.items ≡ l.initial.kept.items ++ l.yielded) × (vec_capacity l.kept ≡ vec_capacity l.initial.kept)
