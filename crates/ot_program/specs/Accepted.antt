-- What holds of each program that is accepted: its tree, measured by itself, is within the limits.
use Rattle.std.specs.Prelude.{ℕ, ◌+◌, ◌≤◌, max, List, [], ◌∷◌, ◌++◌, length, flat_map, Some, None, IfOk}
use Rattle.serde_json.specs.Data.{Data}
use Rattle.ot_model.specs.Tree.{size, tasks_in, E, Literal, CellAt, Apply, PickFrom, S, Set, Fold, If, Task, Wait, Group, Body, End, Next, cells_of}
use Rattle.ot_model.specs.Programs.{Arrays}
use Rattle.ot_model.specs.declared.expr.Cell.{Cell}
use Rattle.ot_model.specs.declared.expr.Section.{Section}
use Rattle.ot_program.specs.Limits.{max_nesting, max_depth, max_statements, max_nodes, max_cells, depth_of}
use Rattle.ot_program.specs.Programs.{program_of}

-- a value and all its parts
abbrev pub parts : E → List E
parts (Literal n) = Literal n ∷ []
parts (CellAt c) = CellAt c ∷ []
parts (Apply o a b) = Apply o a b ∷ (parts a ++ parts b)
parts (PickFrom s e) = PickFrom s e ∷ parts e

-- the cells among which a pick chooses
abbrev pub choices : E → List Cell
choices (PickFrom s e) = cells_of s
choices e = []

-- the sum of a measure over all values of a tree
abbrev mutual
  pub sum_one : (E → ℕ) → S → ℕ
  sum_one f (Set c e) = f e
  sum_one f (Fold o c e) = f e
  sum_one f (If e a b) = f e + sum_in f a + sum_in f b
  sum_one f (Task us b) = sum_in f b
  sum_one f (Wait w) = 0
  sum_one f (Group o cs b) = sum_in f b

  pub sum_in : (E → ℕ) → Body → ℕ
  sum_in f End = 0
  sum_in f (Next s rest) = sum_one f s + sum_in f rest

-- the cells that declarations of tasks and waits, and groups, name: each cell of a declaration once
abbrev mutual
  pub named_one : S → ℕ
  named_one (Set c e) = 0
  named_one (Fold o c e) = 0
  named_one (If e a b) = named_in a + named_in b
  named_one (Task us b) = length us + named_in b
  named_one (Wait None) = 0
  named_one (Wait (Some us)) = length us
  named_one (Group o cs b) = length cs + named_in b

  pub named_in : Body → ℕ
  named_in End = 0
  named_in (Next s rest) = named_one s + named_in rest

-- the depth of the deepest value of a tree
abbrev mutual
  pub deepest_one : S → ℕ
  deepest_one (Set c e) = depth_of e
  deepest_one (Fold o c e) = depth_of e
  deepest_one (If e a b) = max (depth_of e) (max (deepest a) (deepest b))
  deepest_one (Task us b) = deepest b
  deepest_one (Wait w) = 0
  deepest_one (Group o cs b) = deepest b

  pub deepest : Body → ℕ
  deepest End = 0
  deepest (Next s rest) = max (deepest_one s) (deepest rest)

-- how many bodies stand in one another, the outermost among them
abbrev mutual
  pub nesting_one : S → ℕ
  nesting_one (Set c e) = 0
  nesting_one (Fold o c e) = 0
  nesting_one (If e a b) = max (nesting a) (nesting b)
  nesting_one (Task us b) = nesting b
  nesting_one (Wait w) = 0
  nesting_one (Group o cs b) = nesting b

  pub nesting : Body → ℕ
  nesting End = 1
  nesting (Next s rest) = max (1 + nesting_one s) (nesting rest)

-- a program with these shows and this body is within the limits
pub record IsSmall (limit : ℕ) (shows : List Section) (b : Body) : Type 0 where
  pub statements : size b ≤ max_statements
  pub tasks : tasks_in b ≤ limit
  pub nodes : sum_in (λ e. length (parts e)) b ≤ max_nodes
  pub cells : length (flat_map cells_of shows) + sum_in (λ e. length (flat_map choices (parts e))) b + named_in b ≤ max_cells
  pub depth : deepest b ≤ max_depth
  pub nesting : nesting b ≤ max_nesting

abbrev pub AcceptedIsSmall : Type 0
AcceptedIsSmall = (shape : Arrays) (d : Data) → IfOk (program_of shape d) (λ p. IsSmall shape.tasks p.shows p.body)
