use Rattle.std.proofs.Common.{◌≡◌, drop}
use Rattle.ot_model.specs.View.{stmts_of}
use Rattle.ot_race_order.specs.Orders.{folds_in}
use Rattle.ot_race_order.proofs.alike.+folding.Given as goal

-- nothing that was passed folds
abbrev pub invariant-folds_in-loop-stmt : goal.invariant-folds_in-loop-stmt
invariant-folds_in-loop-stmt l = folds_in (stmts_of (drop l.stmt-index l.body.items)) ≡ folds_in (stmts_of l.body.items)
