-- What a task doesn't declare that a statement in it needs.
use Rattle.std.specs.Prelude.{ℕ, ◌+◌, ◌==◌, not, if◌then◌else◌, find, Option, Some, None}
use Rattle.std.specs.Option.{option_or}
use Rattle.ot_model.specs.Tree.{S, Set, Fold, If, Task, Wait, Group, Body, End, Next, size, size_one}
use Rattle.ot_model.specs.declared.stmt.Use.{Use}
use Rattle.ot_check.specs.Offences.{touches, Declared, allows, exceeds}
use Rattle.ot_check.specs.declared.fault.Offence.{Offence}
use Rattle.ot_check.specs.declared.fault.Offence.TheVariants.{NotDeclared, ChildBeyond}

-- a statement, and what the task around it declares
pub record Stood : Type 0 where
  pub own : Declared
  pub statement : S

abbrev pub stood_at : Declared → S → Stood
stood_at own x = record { own = own; statement = x }

-- what stands at a place in the bodies of a statement, in a body, whose place is k, in a task that declares this
abbrev mutual
  pub found_inside : ℕ → Declared → ℕ → S → Option Stood
  found_inside place own k (Set c e) = None
  found_inside place own k (Fold o c e) = None
  found_inside place own k (If e a b) = option_or (stood_in_body place own (k + 1) a) (stood_in_body place own (k + 1 + size a) b)
  found_inside place own k (Task d b) = stood_in_body place (Some d) (k + 1) b
  found_inside place own k (Wait w) = None
  found_inside place own k (Group o cs b) = stood_in_body place own (k + 1) b

  pub stood_in_body : ℕ → Declared → ℕ → Body → Option Stood
  stood_in_body place own k End = None
  stood_in_body place own k (Next x rest) =
      option_or (if k == place then Some (stood_at own x) else found_inside place own k x) (stood_in_body place own (k + size_one x) rest)

-- a statement itself, or what stands in its bodies
abbrev pub found_one : ℕ → Declared → ℕ → S → Option Stood
found_one place own k x = if k == place then Some (stood_at own x) else found_inside place own k x

-- the first use of a statement that the task around it doesn't allow
abbrev pub lacks_to : Declared → S → Option Use
lacks_to own x = find (λ u. not (allows own u)) (touches x)

-- the first use of a child that goes beyond what the task around it declares
abbrev pub lacks_for : Declared → S → Option Use
lacks_for own (Task d b) = find (exceeds own) d
lacks_for own x = None

-- what is lacking by such an offence
abbrev pub lacks_by : Offence → Option Stood → Option Use
lacks_by NotDeclared (Some at) = lacks_to at.own at.statement
lacks_by ChildBeyond (Some at) = lacks_for at.own at.statement
lacks_by offence at = None

-- the same of the statement at a place of a program
abbrev pub lacks : Body → ℕ → Offence → Option Use
lacks body place offence = lacks_by offence (stood_in_body place None 1 body)
