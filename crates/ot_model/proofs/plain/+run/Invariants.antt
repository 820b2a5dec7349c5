use Rattle.std.proofs.Common.{◌≡◌, ◌+◌, ◌≤◌, drop}
use Rattle.ot_model.specs.View.{stmts_of}
use Rattle.ot_model.specs.Tree.{size, tasks_in}
use Rattle.ot_model.specs.Serial.{serial, state_of}
use Rattle.ot_model.specs.Names.{NamedIn}
use Rattle.ot_model.specs.Cells.{lengths}
use Rattle.ot_model.proofs.plain.+run.Given as goal

abbrev pub invariant-run_all-loop-stmt : goal.invariant-run_all-loop-stmt
invariant-run_all-loop-stmt l =
    (serial (stmts_of (drop l.stmt-index l.body.items)) (state_of l.cells l.counts)
    ≡ serial (stmts_of l.body.items) (state_of l.initial.cells l.initial.counts))
    × (lengths l.cells ≡ lengths l.initial.cells)
    × NamedIn (lengths l.initial.cells) (stmts_of (drop l.stmt-index l.body.items))
    × (l.counts.units + size (stmts_of (drop l.stmt-index l.body.items)) ≤ l.initial.counts.units + size (stmts_of l.body.items))
    × (l.counts.tasks + tasks_in (stmts_of (drop l.stmt-index l.body.items)) ≤ l.initial.counts.tasks + tasks_in (stmts_of l.body.items))
