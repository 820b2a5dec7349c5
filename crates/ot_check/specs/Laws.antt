-- Laws of bodies, for whoever runs them in another order.
use Rattle.std.specs.Prelude.{◌≡◌, ℕ, true, List, Some, Option, None}
use Rattle.ot_model.specs.Tree.{Body}
use Rattle.ot_model.specs.Names.{NamedIn}
use Rattle.ot_model.specs.Serial.{State, serial}
use Rattle.ot_check.specs.Offences.{allows, Offends, IsFirstOf, AreApart, EachTask, EachTouch}
use Rattle.ot_check.specs.Discipline.{OffendsNowhere, nobody, nothing_open}
use Rattle.ot_check.specs.walk.Walk.{first}
use Rattle.ot_check.specs.declared.fault.Offence.{Offence}

-- two bodies that are apart give the same cells and counts in either order
abbrev pub Apart : Type 0
Apart = (a b : Body) (s : State) → AreApart a b → serial b (serial a s) ≡ serial a (serial b s)

-- in a program without an offence, whose cells are in a shape, a task's own declaration lets it make each touch of its
-- body, those in the tasks within it among them
abbrev pub Inside : Type 0
Inside =
    (lens : List ℕ) (body : Body) → NamedIn lens body → OffendsNowhere body
    → EachTask (λ uses b. EachTouch (λ u. allows (Some uses) u ≡ true) b) body

-- The first offence of a program's body, as a value.

-- its place and what it is; told by one walk, of which nobody needs to know more than the law below
unfoldable pub first_offence : Body → Option (ℕ × Offence)
first_offence body = first None nothing_open nobody 1 body

-- it is the first of the offences on paths, and nothing else is
abbrev pub FirstOffenceIsFirst : Type 0
FirstOffenceIsFirst =
    (body : Body) → IsFirstOf (Offends body) (first_offence body)
    × ((told : Option (ℕ × Offence)) → IsFirstOf (Offends body) told → told ≡ first_offence body)
