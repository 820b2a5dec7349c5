use Rattle.std.proofs.Common.{◌≡◌, ◌+◌, ◌++◌, ◌≤◌, ◌<◌, ℕ, List, drop, length}
use Rattle.std.specs.Prelude.{option_map}
use Rattle.ot_model.specs.View.{stmts_of}
use Rattle.ot_model.specs.Tree.{size, tasks_in}
use Rattle.ot_model.specs.Names.{NamedIn}
use Rattle.ot_race.specs.View.{events_in}
use Rattle.ot_race_ways.specs.Ways.{ways}
use Rattle.ot_race_ways.specs.Numbered.{events_on, tasks_on, turns_on}
use Rattle.ot_race_ways.proofs.follow.+follow.Given as goal

-- what is left of the body, on what is left of the number, gives what the whole body gives
abbrev pub invariant-follow_all-loop-stmt : goal.invariant-follow_all-loop-stmt
invariant-follow_all-loop-stmt l =
    record {
      named : (lens : List ℕ) × NamedIn lens (stmts_of (drop l.stmt-index l.body.items));
      few_ways : ways (stmts_of (drop l.stmt-index l.body.items)) < 1025;
      few_tasks : l.trail.tasks + tasks_in (stmts_of (drop l.stmt-index l.body.items)) ≤ l.initial.trail.tasks + tasks_in (stmts_of l.body.items);
      places : l.next + size (stmts_of (drop l.stmt-index l.body.items)) ≡ l.place + size (stmts_of l.body.items);
      few_events : length l.trail.events.items + size (stmts_of (drop l.stmt-index l.body.items))
          ≤ length l.initial.trail.events.items + size (stmts_of l.body.items);
      events : events_in l.trail.events.items
          ++ events_on l.left (option_map (λ d. d.now) l.owner.own) l.owner.task l.next (stmts_of (drop l.stmt-index l.body.items)) l.trail.tasks
          ≡ events_in l.initial.trail.events.items
          ++ events_on l.way (option_map (λ d. d.now) l.owner.own) l.owner.task l.place (stmts_of l.body.items) l.initial.trail.tasks;
      turns : l.trail.turns.items ++ turns_on l.left l.next (stmts_of (drop l.stmt-index l.body.items))
          ≡ l.initial.trail.turns.items ++ turns_on l.way l.place (stmts_of l.body.items);
      tasks : l.trail.tasks + tasks_on l.left (stmts_of (drop l.stmt-index l.body.items)) ≡ l.initial.trail.tasks + tasks_on l.way (stmts_of l.body.items);
    }
