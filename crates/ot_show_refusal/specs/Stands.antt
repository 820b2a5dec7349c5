-- Where each statement of a program stands.
use Rattle.std.specs.Prelude.{ℕ, ◌+◌, ◌==◌, Bool, true, false, List, [], ◌∷◌, ◌++◌, Option, Some, None, if◌then◌else◌}
use Rattle.ot_model.specs.Tree.{S, Set, Fold, If, Task, Wait, Group, Body, End, Next, size, size_one}

-- a statement, its number, and that of the task in whose body it stands: 0 for the program
pub record Standing : Type 0 where
  pub place : ℕ
  pub owner : ℕ
  pub statement : S

abbrev pub standing : ℕ → ℕ → S → Standing
standing owner k x = record { place = k; owner = owner; statement = x }

-- the statements in the bodies of one, and those of a body with all in them, which are counted in their order; what stands in a
-- task's body is the task's own
abbrev mutual
  pub standings_within : ℕ → ℕ → S → List Standing
  standings_within owner k (Set c e) = []
  standings_within owner k (Fold o c e) = []
  standings_within owner k (If e a b) = stands owner (k + 1) a ++ stands owner (k + 1 + size a) b
  standings_within owner k (Task d b) = stands k (k + 1) b
  standings_within owner k (Wait w) = []
  standings_within owner k (Group o cs b) = stands owner (k + 1) b

  pub stands : ℕ → ℕ → Body → List Standing
  stands owner k End = []
  stands owner k (Next x rest) = standing owner k x ∷ (standings_within owner k x ++ stands owner (k + size_one x) rest)

-- the statement with this number
abbrev pub standing_found : ℕ → List Standing → Option Standing
standing_found place [] = None
standing_found place (s ∷ ss) = if s.place == place then Some s else standing_found place ss

abbrev pub is_task : S → Bool
is_task (Task d b) = true
is_task x = false

-- the task that does it: itself where it is one, else the one around it
abbrev pub holder : Standing → ℕ
holder s = if is_task s.statement then s.place else s.owner
