-- What comes first in a body, and what stands behind it.
use Rattle.std.specs.Prelude.{◌≡◌, Bool, true, false, if◌then◌else◌, List, [], ◌∷◌, map, Option, Some, None, IfSome, Vec, ℕ, ◌+◌, max}
use Rattle.std.specs.Arc.{arc_value}
use Rattle.std.specs.declared.sync.Arc.{Arc}
use Rattle.std.specs.Global.{Global}
use Rattle.ot_model.specs.Tree.{E, S, Set, Fold, If, Task, Wait, Group, Body, End, Next, append}
use Rattle.ot_parts.specs.declared.part.Part.{Part, fold-Part}
use Rattle.ot_parts.specs.declared.part.Part.TheOpen.{Part-F}

-- the sets and folds that come first
abbrev pub leading : Body → Body
leading (Next (Set c e) rest) = Next (Set c e) (leading rest)
leading (Next (Fold o c e) rest) = Next (Fold o c e) (leading rest)
leading b = End

-- what stands behind them
abbrev pub after_parts : Body → Body
after_parts (Next (Set c e) rest) = after_parts rest
after_parts (Next (Fold o c e) rest) = after_parts rest
after_parts b = b

-- how many they are
abbrev pub leading_len : Body → ℕ
leading_len (Next (Set c e) rest) = 1 + leading_len rest
leading_len (Next (Fold o c e) rest) = 1 + leading_len rest
leading_len b = 0

-- the condition of an `if` that comes next
abbrev pub test_of : Body → Option E
test_of (Next (If e a b) rest) = Some e
test_of b = None

-- the control statement that comes next, where no set or fold comes before it
abbrev pub control_next : Body → Option S
control_next End = None
control_next (Next (Set c e) rest) = None
control_next (Next (Fold o c e) rest) = None
control_next (Next x rest) = Some x

-- what stands behind that one
abbrev pub past_control : Body → Body
past_control End = End
past_control (Next (Set c e) rest) = Next (Set c e) rest
past_control (Next (Fold o c e) rest) = Next (Fold o c e) rest
past_control (Next x rest) = rest

-- the body with the branch that is taken in place of an `if` that comes next
abbrev pub branch_taken : Bool → Body → Body
branch_taken taken (Next (If e a b) rest) = append (if taken then a else b) rest
branch_taken taken b = b

-- The bodies that shared parts stand for: what ot_model's View says of statements, but that sets and folds come by runs.

-- what a part stands for: its sets and folds, and the control statement behind them, if there is one
pub record Meaning : Type 0 where
  pub run : Body
  pub control : Option S

-- a statement alone, or none
abbrev pub alone : Option S → Body
alone None = End
alone (Some x) = Next x End

-- the body of a part
abbrev pub whole : Meaning → Body
whole m = append m.run (alone m.control)

-- the body that parts stand for, one behind the other
abbrev pub parts_joined : List Meaning → Body
parts_joined [] = End
parts_joined (m ∷ ms) = append (whole m) (parts_joined ms)

-- one part, the parts inside already seen
abbrev pub part_step : Part-F Meaning → Meaning
part_step (Part-F.End r) = record { run = r.assigns; control = None }
part_step (Part-F.If r a b) = record { run = r.assigns; control = Some (If r.test (parts_joined a.value.items) (parts_joined b.value.items)) }
part_step (Part-F.Task r d b) = record { run = r.assigns; control = Some (Task d.value (parts_joined b.value.items)) }
part_step (Part-F.Wait r w) = record { run = r.assigns; control = Some (Wait w) }
part_step (Part-F.Group r o cs b) = record { run = r.assigns; control = Some (Group o cs.items (parts_joined b.value.items)) }

abbrev pub part_of : Part → Meaning
part_of = fold-Part Meaning part_step

abbrev pub parts_of : List Part → Body
parts_of ps = parts_joined (map part_of ps)

-- the body that a shared list of parts stands for
abbrev pub body_in : Arc (Vec Part Global) Global → Body
body_in b = parts_of (arc_value b).items

-- the condition of an `if`
abbrev pub condition_of : Option S → Option E
condition_of (Some (If e a b)) = Some e
condition_of x = None

-- the condition of a part's control statement, if there is a part
abbrev pub condition_at : Option Meaning → Option E
condition_at None = None
condition_at (Some m) = condition_of m.control

-- the body of an `if` that is taken
abbrev pub branch_of : Bool → Option S → Option Body
branch_of taken (Some (If e a b)) = Some (if taken then a else b)
branch_of taken x = None

-- whether a statement is neither a set nor a fold
abbrev pub is_control : S → Bool
is_control (Set c e) = false
is_control (Fold o c e) = false
is_control x = true

-- there are sets and folds alone in the run, and behind it is a control statement, if one is
abbrev pub IsPart : Meaning → Type 0
IsPart m = (leading m.run ≡ m.run) × IfSome m.control (λ x. is_control x ≡ true)

-- How many settles a body may still take.

-- of a body: one for each control statement, one more for a task's last piece, and one more for a group's end
abbrev mutual
  pub weight_one : S → ℕ
  weight_one (Set c e) = 0
  weight_one (Fold o c e) = 0
  weight_one (If e a b) = 1 + max (weight a) (weight b)
  weight_one (Task d b) = 2 + weight b
  weight_one (Wait w) = 1
  weight_one (Group o cs b) = 2 + weight b

  pub weight : Body → ℕ
  weight End = 0
  weight (Next x rest) = weight_one x + weight rest
