-- Where a task stands.
use Rattle.std.specs.Prelude.{◌≡◌, ℕ, List, ◌∷◌, Option, Some, None, Bool, true, false, []}
use Rattle.ot_model.specs.Tree.{E, Body, End}
use Rattle.ot_job_task.specs.Regions.{Open, innermost, Region, Run}
use Rattle.ot_owner.specs.Lending.{Lease, lease_of}
use Rattle.ot_owner.specs.declared.lent.LentCell.{LentCell}
-- the sets and folds that come first, what stands behind them, how many they are; the condition of an `if` that comes next
pub use Rattle.ot_parts.specs.Parts.{leading, after_parts, leading_len, test_of}

-- what is left of the innermost open group's body, and the open groups, the innermost first
pub record Standing : Type 0 where
  pub rest : Body
  pub groups : List Open

-- behind the end of the innermost open group
abbrev pub left_group : Standing → Standing
left_group s = behind_end s.rest s.groups
  where
    behind_end : Body → List Open → Standing
    behind_end rest [] = record { rest = rest; groups = [] }
    behind_end rest (o ∷ os) = record { rest = o.behind; groups = os }

-- whether the place is at the body's end
abbrev pub is_at_end : Body → List Open → Bool
is_at_end End [] = true
is_at_end rest os = false

-- What a piece is taken from, and what is left behind it.

-- behind the end of the innermost open group, where that end is reached
abbrev pub groups_passed : Body → List Open → Standing
groups_passed End (o ∷ os) = record { rest = o.behind; groups = os }
groups_passed rest os = record { rest = rest; groups = os }

abbrev pub passed_end : Standing → Standing
passed_end s = groups_passed s.rest s.groups

-- the number of the innermost open group, where its end is reached
abbrev pub ended_group : Body → List Open → Option ℕ
ended_group End os = innermost os
ended_group rest os = None

-- the group whose end the task passes as it goes on
abbrev pub group_passed : Region → Option ℕ
group_passed r = ended_group r.rest r.groups

-- the region as its task goes on
abbrev pub awake : Region → Region
awake r = let s = groups_passed r.rest r.groups in record r { rest = s.rest; groups = s.groups; waiting = None }

-- the region once the worker has a piece of it, which holds this
abbrev pub piece_begun : ℕ → Lease → Region → Region
piece_begun worker lease r = let s = awake r in record s { rest = after_parts s.rest; running = Some (record { worker = worker; assigns = leading s.rest; lease = lease }) }

-- some worker has a piece of these assigns, which holds this
abbrev pub IsWith : Option Run → Body → Lease → Type 0
IsWith running assigns lease = (worker : ℕ) × (running ≡ Some (record { worker = worker; assigns = assigns; lease = lease }))

-- the region runs these assigns with this condition on these inputs
abbrev pub Runs : Region → Body → Option E → List LentCell → Type 0
Runs r assigns test lent = IsWith r.running assigns (lease_of lent) × (test ≡ test_of r.rest)
