use Rattle.std.proofs.Common.{◌≡◌, ◌+◌, ◌++◌, ◌≤◌, drop, length}
use Rattle.std.specs.Prelude.{option_map}
use Rattle.ot_race.specs.View.{events_in}
use Rattle.ot_exec_outline.specs.Tree.{steps_size}
use Rattle.ot_exec_outline.specs.View.{steps_in}
use Rattle.ot_exec_outline.specs.Followed.{list_answer, steps_events, tasks, Fits}
use Rattle.ot_exec_outline.proofs.following.+follow.Given as goal

-- what is left gives what the whole gives
abbrev pub invariant-follow_all-loop-step : goal.invariant-follow_all-loop-step
invariant-follow_all-loop-step l =
    record {
      fits : Fits (steps_in (drop l.step-index l.steps.items));
      few_tasks : l.trail.tasks + steps_size (steps_in (drop l.step-index l.steps.items)) ≤ l.initial.trail.tasks + steps_size (steps_in l.steps.items);
      few_events : length l.trail.events.items + steps_size (steps_in (drop l.step-index l.steps.items))
          ≤ length l.initial.trail.events.items + steps_size (steps_in l.steps.items);
      events : events_in l.trail.events.items
          ++ steps_events (list_answer l.answers) (option_map (λ d. d.now) l.owner.own) l.owner.task (steps_in (drop l.step-index l.steps.items)) l.trail.tasks
          ≡ events_in l.initial.trail.events.items
          ++ steps_events (list_answer l.answers) (option_map (λ d. d.now) l.owner.own) l.owner.task (steps_in l.steps.items) l.initial.trail.tasks;
      tasks : tasks (list_answer l.answers) (steps_in (drop l.step-index l.steps.items)) l.trail.tasks
          ≡ tasks (list_answer l.answers) (steps_in l.steps.items) l.initial.trail.tasks;
    }
