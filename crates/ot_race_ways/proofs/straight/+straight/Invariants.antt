use Rattle.std.proofs.Common.{◌≡◌, drop}
use Rattle.ot_model.specs.View.{stmts_of}
use Rattle.ot_race_ways.specs.Straight.{is_straight}
use Rattle.ot_race_ways.proofs.straight.+straight.Given as goal

-- what was passed is straight
abbrev pub invariant-is_straight-loop-stmt : goal.invariant-is_straight-loop-stmt
invariant-is_straight-loop-stmt l = is_straight (stmts_of (drop l.stmt-index l.body.items)) ≡ is_straight (stmts_of l.body.items)
