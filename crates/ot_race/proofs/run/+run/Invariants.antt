use Rattle.std.proofs.Common.{◌≡◌, ◌+◌, ◌++◌, ◌≤◌, drop, length}
use Rattle.std.specs.Prelude.{option_map}
use Rattle.ot_model.specs.View.{stmts_of}
use Rattle.ot_model.specs.Tree.{size, tasks_in}
use Rattle.ot_model.specs.Serial.{serial, state_of}
use Rattle.ot_model.specs.Names.{NamedIn}
use Rattle.ot_model.specs.Cells.{lengths}
use Rattle.ot_race.specs.Events.{this_way, events}
use Rattle.ot_race.specs.View.{events_in}
use Rattle.ot_race.proofs.run.+run.Given as goal

-- what is left of the body, run from the cells and counts as they are now, gives what the whole body gives
abbrev pub invariant-run_all-loop-stmt : goal.invariant-run_all-loop-stmt
invariant-run_all-loop-stmt l =
    (serial (stmts_of (drop l.stmt-index l.body.items)) (state_of l.run.cells l.run.counts)
    ≡ serial (stmts_of l.body.items) (state_of l.initial.run.cells l.initial.run.counts))
    × (lengths l.run.cells ≡ lengths l.initial.run.cells)
    × NamedIn (lengths l.initial.run.cells) (stmts_of (drop l.stmt-index l.body.items))
    × (l.run.counts.units + size (stmts_of (drop l.stmt-index l.body.items)) ≤ l.initial.run.counts.units + size (stmts_of l.body.items))
    × (l.run.counts.tasks + tasks_in (stmts_of (drop l.stmt-index l.body.items)) ≤ l.initial.run.counts.tasks + tasks_in (stmts_of l.body.items))
    × (l.next + size (stmts_of (drop l.stmt-index l.body.items)) ≡ l.place + size (stmts_of l.body.items))
    × (length l.run.events.items + size (stmts_of (drop l.stmt-index l.body.items)) ≤ length l.initial.run.events.items + size (stmts_of l.body.items))
    × (events_in l.run.events.items ++ events this_way (option_map (λ d. d.now) l.owner.own) l.owner.task l.next (stmts_of (drop l.stmt-index l.body.items)) (state_of l.run.cells l.run.counts)
    ≡ events_in l.initial.run.events.items ++ events this_way (option_map (λ d. d.now) l.owner.own) l.owner.task l.place (stmts_of l.body.items) (state_of l.initial.run.cells l.initial.run.counts))
