-- That nothing that is left of a task is an offence, and that its body ends with no child unawaited.
use Rattle.std.specs.Prelude.{◌≡◌, ℕ, Bool, false, not, ◌&&◌, List, [], ◌∷◌}
use Rattle.std.specs.List.{list_any}
use Rattle.ot_model.specs.Tree.{Body}
use Rattle.ot_depend.specs.Siblings.{Sibling, is_unfinished, is_in}
use Rattle.ot_check.specs.Offences.{Declared, Openings}
use Rattle.ot_check.specs.Discipline.{Children, anyone, nothing_open, with_group, through, behind, IsFine}
use Rattle.ot_job_task.specs.Regions.{Open, Waiting, is_awaited_at}

-- whether an open group by an operation names a cell
abbrev pub openings_of : List Open → Openings
openings_of [] = nothing_open
openings_of (o ∷ os) = with_group (openings_of os) o.op o.cells

-- children, with the groups that each was created in, told by what is true of some of them
abbrev pub Kids : Type 0
Kids = (Sibling → Bool) → Bool

-- what they declare
abbrev pub children_of : Kids → Children
children_of kids test = kids (λ s. test s.uses)

-- those that may be unawaited behind the end of a group of whose body this is left
abbrev pub kids_behind : Kids → Body → ℕ → Kids
kids_behind kids rest g test = kids (λ s. through s.uses rest && (not (is_in g s) && test s))

-- nothing that is left is an offence, where these children may be unawaited
abbrev pub IsFineAt : Declared → Kids → Body → List Open → Type 0
IsFineAt own kids rest [] = IsFine own nothing_open (children_of kids) rest
IsFineAt own kids rest (o ∷ os) = IsFine own (openings_of (o ∷ os)) (children_of kids) rest × IsFineAt own (kids_behind kids rest o.group) o.behind os

-- the children that have not finished, but for those that the wait awaits at which the task stands: it goes on only once
-- none of these is left
abbrev pub unfinished_unawaited : Waiting → List Sibling → Kids
unfinished_unawaited waiting siblings test = list_any (λ s. is_unfinished s && (not (is_awaited_at waiting s) && test s)) siblings

-- the body ends with no child unawaited, where these children may be unawaited now
abbrev pub AwaitsAll : Kids → Body → List Open → Type 0
AwaitsAll kids rest [] = behind (children_of kids) rest anyone ≡ false
AwaitsAll kids rest (o ∷ os) = AwaitsAll (kids_behind kids rest o.group) o.behind os
