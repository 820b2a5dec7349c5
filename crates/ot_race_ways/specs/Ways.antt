-- All ways through a program: on each, an `if` takes either of its bodies, but for one whose condition names no cell.
use Rattle.std.specs.Prelude.{ℕ, ◌+◌, ◌*◌, ◌++◌, Bool, true, false, List, [], ◌∷◌, Option, Some, None, unwrap_or}
use Rattle.ot_model.specs.Tree.{E, S, Set, Fold, If, Task, Wait, Group, Body, End, Next, size, size_one}
use Rattle.ot_model.specs.Serial.{State, bump, either}
use Rattle.ot_race.specs.Events.{Way, after_one}
use Rattle.ot_race_ways.specs.Known.{number_in_value, may_read}
use Rattle.ot_race_ways.specs.declared.verdict.Turn.{Turn}

-- The way on which conditions have these numbers, whatever the cells hold; one that names no cell has its own. A value reads each
-- cell that it may read: a pick whose value names no cell one, and another its whole section.
abbrev pub way_by : (State → E → ℕ) → Way
way_by condition = record { condition = λ s e. unwrap_or (number_in_value e) (condition s e); reads = λ s e. may_read e }

-- how many ways there are through an `if` with so many through its bodies; one whose condition is known takes the body that it says
abbrev pub ways_of_if : Option ℕ → ℕ → ℕ → ℕ
ways_of_if None one two = one + two
ways_of_if (Some n) one two = either n one two

-- how many ways there are through a statement, through a body
abbrev mutual
  pub ways_one : S → ℕ
  ways_one (Set c e) = 1
  ways_one (Fold o c e) = 1
  ways_one (If e a b) = ways_of_if (number_in_value e) (ways a) (ways b)
  ways_one (Task d b) = ways b
  ways_one (Wait w) = 1
  ways_one (Group o cs b) = ways b

  pub ways : Body → ℕ
  ways End = 1
  ways (Next x rest) = ways_one x * ways rest

abbrev pub turn : ℕ → Bool → Turn
turn place first = record { place = place; first = first }

-- the turns of a way through a statement, through a body, whose place is k: for each `if` that it meets, whether it takes
-- the first body
abbrev mutual
  pub turns_one : Way → ℕ → S → State → List Turn
  turns_one way k (Set c e) s = []
  turns_one way k (Fold o c e) s = []
  turns_one way k (If e a b) s =
      either (way.condition s e) (turn k true ∷ turns way (k + 1) a (bump 0 1 s)) (turn k false ∷ turns way (k + 1 + size a) b (bump 0 1 s))
  turns_one way k (Task d b) s = turns way (k + 1) b (bump 1 1 s)
  turns_one way k (Wait w) s = []
  turns_one way k (Group o cs b) s = turns way (k + 1) b (bump 0 1 s)

  pub turns : Way → ℕ → Body → State → List Turn
  turns way k End s = []
  turns way k (Next x rest) s = turns_one way k x s ++ turns way (k + size_one x) rest (after_one way x s)
