use Rattle.std.proofs.Common.{◌≡◌, ◌+◌, ◌≤◌, drop}
use Rattle.std.specs.Prelude.{min}
use Rattle.ot_model.specs.View.{stmts_of}
use Rattle.ot_race_ways.specs.Naming.{named_in}
use Rattle.ot_race_ways.proofs.naming.+naming.Given as goal

-- with what is left they are those of the whole body
abbrev pub invariant-named_in-loop-stmt : goal.invariant-named_in-loop-stmt
invariant-named_in-loop-stmt l =
    (l.named ≤ 20000001)
    × (min (l.named + named_in (stmts_of (drop l.stmt-index l.body.items))) 20000001 ≡ min (named_in (stmts_of l.body.items)) 20000001)
