use Rattle.std.proofs.Common.{◌≡◌, ◌+◌, drop}
use Rattle.ot_model.specs.View.{stmts_of}
use Rattle.ot_model.specs.Tree.{size}
use Rattle.ot_show_graph.proofs.place.+behind.Given as goal

-- what is left of the body ends where the whole body does
abbrev pub invariant-behind_all-loop-stmt : goal.invariant-behind_all-loop-stmt
invariant-behind_all-loop-stmt l = l.next + size (stmts_of (drop l.stmt-index l.body.items)) ≡ l.place + size (stmts_of l.body.items)
