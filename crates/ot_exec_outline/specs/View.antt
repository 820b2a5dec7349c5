-- The steps and the events that the code's stand for.
use Rattle.std.specs.Prelude.{List, map}
use Rattle.ot_model.specs.View.{expr_of}
use Rattle.ot_race.specs.Events as race
use Rattle.ot_exec_outline.specs.Tree.{SetAt, FoldAt, TouchAt, IfAt, ChooseAt, TaskAt, WaitAt, GroupAt, Steps, steps_of}
use Rattle.ot_exec_outline.specs.Tree as s
use Rattle.ot_exec_outline.specs.declared.noted.Did.{Did}
use Rattle.ot_exec_outline.specs.declared.noted.Did.TheVariants as d
use Rattle.ot_exec_outline.specs.declared.noted.Noted.{Noted}
use Rattle.ot_exec_outline.specs.declared.step.Step.{Step, fold-Step}
use Rattle.ot_exec_outline.specs.declared.step.Step.TheOpen.{Step-F}

-- one step, the steps inside already seen
abbrev pub step_step : Step-F s.OutlineStep → s.OutlineStep
step_step (Step-F.Set k c e) = SetAt k c (expr_of e)
step_step (Step-F.Fold k o c e) = FoldAt k o c (expr_of e)
step_step (Step-F.Touch k us) = TouchAt k us.items
step_step (Step-F.If k n e a b) = IfAt k n (expr_of e) (steps_of a.items) (steps_of b.items)
step_step (Step-F.Choose k n a b) = ChooseAt k n (steps_of a.items) (steps_of b.items)
step_step (Step-F.Task k d b) = TaskAt k d (steps_of b.items)
step_step (Step-F.Wait k w) = WaitAt k w
step_step (Step-F.Group k o cs b) = GroupAt k o cs.items (steps_of b.items)

abbrev pub step_of : Step → s.OutlineStep
step_of = fold-Step s.OutlineStep step_step

abbrev pub steps_in : List Step → Steps
steps_in xs = steps_of (map step_of xs)

-- the event that was noted

abbrev pub did_of : Did → race.Deed
did_of d.Touches = race.Touches
did_of (d.Begins parent decl) = race.Begins parent decl
did_of (d.Awaits w) = race.Awaits w
did_of (d.Leaves count) = race.Leaves count

abbrev pub noted_of : Noted → race.Event
noted_of n = race.event n.task n.place (did_of n.did) n.uses.items

abbrev pub noted_in : List Noted → List race.Event
noted_in ns = map noted_of ns
