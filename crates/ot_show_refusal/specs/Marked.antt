-- What is drawn of a program, and which of its statements are marked.
use Rattle.std.specs.Prelude.{ℕ, List, [], ◌∷◌, ◌++◌, Option, Some, None, codes, decimal, flat_map, if◌then◌else◌}
use Rattle.ot_show_print.specs.Shown.{Text, statement}
use Rattle.ot_show_refusal.specs.Stands.{Standing, standing_found, is_task, holder}

-- a statement with its number
abbrev pub label_of : List Text → Standing → Text
label_of names s = decimal s.place ++ (codes ": " ++ statement names s.statement)

-- the tasks: each with its number, that of the task around it, and what stands in its node
abbrev pub task_in : List Text → Standing → List (ℕ × ℕ × Text)
task_in names s = if is_task s.statement then (s.place, s.owner, label_of names s) ∷ [] else []

abbrev pub marked_tasks : List Text → List Standing → List (ℕ × ℕ × Text)
marked_tasks names ss = flat_map (task_in names) ss

-- a statement that is marked: the task that does it, and what stands in its box
abbrev pub touch : List Text → Standing → ℕ × Text
touch names s = (holder s, label_of names s)

abbrev pub touch_found : List Text → Option Standing → ℕ × Text
touch_found names None = (0, [])
touch_found names (Some s) = touch names s

abbrev pub touch_at : List Text → List Standing → ℕ → ℕ × Text
touch_at names ss place = touch_found names (standing_found place ss)

-- the other statement, or words at the task of the one that offends
abbrev pub other_at : List Text → List Standing → ℕ → Option ℕ → Text → ℕ × Text
other_at names ss place (Some other) words = touch_at names ss other
other_at names ss place None words = ((touch_at names ss place).0, words)

-- the other one, and the one that offends
abbrev pub pair : List Text → List Standing → ℕ → Option ℕ → Text → (ℕ × Text) × (ℕ × Text)
pair names ss place other words = (other_at names ss place other words, touch_at names ss place)
