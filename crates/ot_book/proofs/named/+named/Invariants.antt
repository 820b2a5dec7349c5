use Rattle.std.proofs.Common.{◌≡◌, ◌-◌, ◌^◌, ◌+◌, ◌<◌, min, drop}
use Rattle.ot_model.specs.View.{stmts_of}
use Rattle.ot_book.specs.Shelves.{named_in}
use Rattle.ot_book.proofs.named.+named.Given as goal

-- the total with the cells of the statements that are left
abbrev pub invariant-cells_named-loop-stmt : goal.invariant-cells_named-loop-stmt
invariant-cells_named-loop-stmt l =
    (min (l.total + named_in (stmts_of (drop l.stmt-index l.stmts))) (2 ^ 32 - 1) ≡ min (named_in (stmts_of l.stmts)) (2 ^ 32 - 1)) × (l.total < 2 ^ 32)
