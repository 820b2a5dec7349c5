-- What happens on a way through an outline: its events, in the order of the serial run, each task where it is created.
use Rattle.std.specs.Prelude.{ℕ, ◌+◌, ◌++◌, length, List, [], ◌∷◌, map, Some, None}
use Rattle.ot_model.specs.Tree.{E, val}
use Rattle.ot_model.specs.Cells.{cell_of}
use Rattle.ot_model.specs.Joining.{join_by}
use Rattle.ot_model.specs.Serial.{State, bump, change, either}
use Rattle.ot_model.specs.declared.expr.Cell.{Cell}
use Rattle.ot_model.specs.declared.stmt.Mode.TheVariants.{Reads, Writes}
use Rattle.ot_check.specs.Offences.{use_as, Declared}
use Rattle.ot_race.specs.Events as runs
use Rattle.ot_race.specs.Events.{Event, event, Touches, Begins, Awaits, Leaves, fold_as, beginning}
use Rattle.ot_exec_outline.specs.Tree.{OutlineStep, SetAt, FoldAt, TouchAt, IfAt, ChooseAt, TaskAt, WaitAt, GroupAt, Steps, Done, Then}

-- A way: the number of the condition of a choice, where it is a value and where it isn't known; and the cells that a value reads
pub record ChoiceWay : Type 0 where
  pub condition : ℕ → State → E → ℕ
  pub chosen : ℕ → ℕ
  pub reads : State → E → List Cell

-- the cells and counts behind steps, on this way. What is written by no value of the language isn't known here: cells stay
abbrev mutual
  pub state_after_step : ChoiceWay → OutlineStep → State → State
  state_after_step way (SetAt k c e) s = bump 0 1 (change s c (λ _. val (cell_of s.cells) e))
  state_after_step way (FoldAt k o c e) s = bump 0 1 (change s c (λ n. join_by o n (val (cell_of s.cells) e)))
  state_after_step way (TouchAt k us) s = bump 0 1 s
  state_after_step way (IfAt k n e a b) s = either (way.condition n s e) (state_after_steps way a (bump 0 1 s)) (state_after_steps way b (bump 0 1 s))
  state_after_step way (ChooseAt k n a b) s = either (way.chosen n) (state_after_steps way a (bump 0 1 s)) (state_after_steps way b (bump 0 1 s))
  state_after_step way (TaskAt k d b) s = state_after_steps way b (bump 1 1 s)
  state_after_step way (WaitAt k w) s = bump 0 1 s
  state_after_step way (GroupAt k o cs b) s = state_after_steps way b (bump 0 1 s)

  pub state_after_steps : ChoiceWay → Steps → State → State
  state_after_steps way Done s = s
  state_after_steps way (Then x rest) s = state_after_steps way rest (state_after_step way x s)

-- the events of steps in the task `me`, which declares this, each at its site
abbrev mutual
  pub happens_one : ChoiceWay → Declared → ℕ → OutlineStep → State → List Event
  happens_one way own me (SetAt k c e) s = event me k Touches (map (use_as Reads) (way.reads s e) ++ use_as Writes c ∷ []) ∷ []
  happens_one way own me (FoldAt k o c e) s = event me k Touches (map (use_as Reads) (way.reads s e) ++ use_as (fold_as own o c) c ∷ []) ∷ []
  happens_one way own me (TouchAt k us) s = event me k Touches us ∷ []
  happens_one way own me (IfAt k n e a b) s =
      event me k Touches (map (use_as Reads) (way.reads s e))
      ∷ either (way.condition n s e) (happens way own me a (bump 0 1 s)) (happens way own me b (bump 0 1 s))
  happens_one way own me (ChooseAt k n a b) s = either (way.chosen n) (happens way own me a (bump 0 1 s)) (happens way own me b (bump 0 1 s))
  happens_one way own me (TaskAt k d b) s = event (s.tasks + 1) k (Begins me d) [] ∷ happens way (Some d) (s.tasks + 1) b (bump 1 1 s)
  happens_one way own me (WaitAt k w) s = event me k (Awaits w) [] ∷ []
  happens_one way own me (GroupAt k o cs b) s =
      let inside = happens way own me b (bump 0 1 s) in
      inside ++ event me k (Leaves (length inside)) (map (use_as Writes) cs) ∷ []

  pub happens : ChoiceWay → Declared → ℕ → Steps → State → List Event
  happens way own me Done s = []
  happens way own me (Then x rest) s = happens_one way own me x s ++ happens way own me rest (state_after_step way x s)

abbrev pub happens_of : ChoiceWay → Steps → List (List ℕ) → List Event
happens_of way steps cells = happens way None 0 steps (beginning cells)

-- a way through a program's tree, as one through its outline
abbrev pub way_as : runs.Way → (ℕ → ℕ) → ChoiceWay
way_as way chosen = record { condition = λ n s e. way.condition s e; chosen = chosen; reads = way.reads }
