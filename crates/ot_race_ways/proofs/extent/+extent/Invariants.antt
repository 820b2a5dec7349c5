use Rattle.std.proofs.Common.{◌≡◌, ◌+◌, ◌*◌, ◌<◌, ◌≤◌, drop}
use Rattle.std.specs.Prelude.{min}
use Rattle.ot_model.specs.View.{stmts_of}
use Rattle.ot_model.specs.Tree.{size}
use Rattle.ot_race_ways.specs.Ways.{ways}
use Rattle.ot_race_ways.proofs.extent.+extent.Given as goal

-- with what is left it is what the whole body has
abbrev pub invariant-extent_all-loop-stmt : goal.invariant-extent_all-loop-stmt
invariant-extent_all-loop-stmt l =
    (l.statements + size (stmts_of (drop l.stmt-index l.body.items)) ≡ size (stmts_of l.body.items))
    × (0 < l.ways)
    × (l.ways ≤ 1025)
    × (min (l.ways * ways (stmts_of (drop l.stmt-index l.body.items))) 1025 ≡ min (ways (stmts_of l.body.items)) 1025)
