-- How many cells a statement names, a body: in clauses, and in values, where a pick names each cell that it may choose. A cell counts
-- as often as it is named.
use Rattle.std.specs.Prelude.{ℕ, ◌+◌, length, Some, None}
use Rattle.ot_model.specs.Tree.{S, Set, Fold, If, Task, Wait, Group, Body, End, Next}
use Rattle.ot_race_ways.specs.Known.{may_read}

abbrev mutual
  pub named_in_one : S → ℕ
  named_in_one (Set c e) = length (may_read e)
  named_in_one (Fold o c e) = length (may_read e)
  named_in_one (If e a b) = length (may_read e) + named_in a + named_in b
  named_in_one (Task d b) = length d + named_in b
  named_in_one (Wait None) = 0
  named_in_one (Wait (Some d)) = length d
  named_in_one (Group o cs b) = length cs + named_in b

  pub named_in : Body → ℕ
  named_in End = 0
  named_in (Next x rest) = named_in_one x + named_in rest
