-- The programs that a book keeps, the one that was used last first.
use Rattle.std.specs.Prelude.{◌≡◌, ℕ, ◌+◌, ◌<◌, ◌≤◌, ◌⊎◌, List, ◌∷◌, length, take, remove, slice_get, None, Some, sum_by}
use Rattle.ot_model.specs.Programs.{expanded_of}
use Rattle.ot_model.specs.Tree.{S, Set, Fold, If, Task, Wait, Group, Body, End, Next}
use Rattle.ot_program.specs.Limits.{picked_of}
use Rattle.ot_book.specs.Readings.{Reading}

-- How many cells statements name: those that tasks and waits declare, those that groups reduce, and those of the sections
-- that values pick from, each as often as it is named.

abbrev mutual
  pub named_in_one : S → ℕ
  named_in_one (Set c e) = picked_of e
  named_in_one (Fold o c e) = picked_of e
  named_in_one (If e a b) = picked_of e + named_in a + named_in b
  named_in_one (Task d b) = length d + named_in b
  named_in_one (Wait None) = 0
  named_in_one (Wait (Some d)) = length d
  named_in_one (Group o cs b) = length cs + named_in b

  pub named_in : Body → ℕ
  named_in End = 0
  named_in (Next s rest) = named_in_one s + named_in rest

-- the statements of a reading's program
abbrev pub statements_of : Reading → ℕ
statements_of r = r.checked.program.statements

-- the cells that a reading's program names
abbrev pub named_of : Reading → ℕ
named_of r = named_in (expanded_of r.checked.program).body

-- so many they are, and no more than all that are kept may name
pub record IsCounted (r : Reading) (named : ℕ) : Type 0 where
  pub exact : named ≡ named_of r
  pub few : named ≤ 262144

-- they are at most 8, have at most 80,000 statements in all, and name at most 262,144 cells in all
pub record FitOn (kept : List Reading) : Type 0 where
  pub few : length kept ≤ 8
  pub light : sum_by statements_of kept ≤ 80000
  pub narrow : sum_by named_of kept ≤ 262144

-- a reading that is used stands first then
pub record Uses (old : List Reading) (r : Reading) (new : List Reading) : Type 0 where
  pub place : ℕ
  pub there : slice_get old place ≡ Some r
  pub first : new ≡ r ∷ remove old place

-- One more stands first, and behind it stay as many of the others as fit, in their order: those that were used longest
-- ago go. At least four are kept, where there are as many and the first four don't name too many cells.
pub record Keeps (old : List Reading) (r : Reading) (new : List Reading) : Type 0 where
  pub behind : ℕ
  pub is : new ≡ r ∷ take behind old
  pub most : (new ≡ r ∷ old) ⊎ (¬ (FitOn (r ∷ take (behind + 1) old)))
  pub four : (new ≡ r ∷ old) ⊎ ((4 ≤ length new) ⊎ (262144 < sum_by named_of (take 4 (r ∷ old))))
