-- What the job's parts ask of each other, and what they tell.
use Rattle.std.specs.Prelude.{◌≡◌, ◌<◌, ℕ, List, ◌∷◌, ◌++◌, Option, option_map, length, true, false, is_some, All, Any, Contains, IsSome, IfSome, IsPermutation}
use Rattle.ot_model.specs.Cells.{cell_of, lengths}
use Rattle.ot_model.specs.declared.expr.Cell.{Cell}
use Rattle.ot_model.specs.declared.fold.Fold.{Fold as Operation}
use Rattle.ot_model.specs.declared.stmt.Mode.TheVariants.{Writes, Folds}
use Rattle.ot_model.specs.declared.stmt.Use.{Use}
use Rattle.ot_depend.specs.Siblings.{IsReady, IsUnfinished}
use Rattle.ot_owner.specs.Keeping.{Keeping, Prepared, IsLast, IsOpenable}
use Rattle.ot_owner.specs.Worth.{AreStored, all_back, worth, AreJoined, AreWorthSame}
use Rattle.ot_owner.specs.Lending.{lent_from}
use Rattle.ot_owner.specs.Owning.{Owned, loan_of, IsFreeFor, IsSummed, IsSummedBy, begun_for}
use Rattle.ot_owner.specs.declared.lent.LentCell.{LentCell}
use Rattle.ot_job_task.specs.Regions.{Region}
use Rattle.ot_job.specs.Numbered.{at, parent_of}
use Rattle.ot_job.specs.Opened.{opened_under}
use Rattle.ot_job.specs.Opening.{MayOpen, left_open, passed_over}
use Rattle.ot_job.specs.Taken.{Came, IsRun}

-- what the slip says may be lent behind the end of the group that is passed: the slip is the last, its cells are there and free, and
-- what it folds goes into a group that stays open; the group that is passed is open, its cells are there, and no loan is out on one
pub record MayLend (owners : Keeping) (cells : List (List ℕ)) (passed : Option ℕ) (slip : Prepared) : Type 0 where
  pub last : IsLast owners slip
  pub is_open : IfSome passed (λ group. Any (λ g. g.group ≡ group) owners.owned.groups)
  pub unused : IfSome passed (λ group. All (λ g. g.group ≡ group → IsFreeFor owners.owned.out g.uses) owners.owned.groups)
  pub known : IfSome passed (λ group. All (λ g. g.group ≡ group → All (λ u. IsSome (cell_of cells u.cell)) g.uses) owners.owned.groups)
  pub free : IsFreeFor owners.owned.out slip.uses
  pub there : All (λ u. IsSome (cell_of cells u.cell)) slip.uses
  pub summed : All (λ u. (op : Operation) → u.mode ≡ Folds op → IsSummedBy (left_open passed owners.owned.groups) op u.cell) slip.uses

-- it is lent: the group that is passed is closed, its copies in the stored numbers of its cells, and every cell is worth the same
pub record IsLentBy (before : Owned) (was : List (List ℕ)) (passed : Option ℕ) (slip : Prepared) (copies : List LentCell) (after : Owned) (now : List (List ℕ)) : Type 0 where
  pub lent : copies ≡ lent_from now slip.uses
  pub out : IsPermutation (loan_of slip.worker copies ∷ before.out) after.out
  pub groups : after.groups ≡ begun_for slip.worker slip.uses (left_open passed before.groups)
  pub stored : (cell : Cell) → cell_of now cell ≡ option_map (passed_over passed before.groups cell) (cell_of was cell)
  pub lengths : lengths now ≡ lengths was
  pub worth : AreWorthSame before after was now

-- what was lent may come back from its worker before the group of the room is opened: it is out, its cells are there, of none that it
-- wrote a copy is kept, and the group may be opened
pub record MayTakeBack (owners : Keeping) (cells : List (List ℕ)) (lent : List LentCell) (worker : ℕ) (room : Option (Operation × List Use)) (group : ℕ) : Type 0 where
  pub openable : IfSome room (λ _. IsOpenable owners)
  pub opens : IfSome room (λ r. MayOpen owners.owned (loan_of worker lent) group r.1)
  pub out : Contains owners.owned.out (loan_of worker lent)
  pub there : All (λ l. IsSome (cell_of cells l.cell)) lent
  pub unsummed : All (λ l. l.mode ≡ Writes → ¬ IsSummed owners.owned.groups l.cell) lent

-- it is back: its cells have what the piece left, what it folded is in the rows of its worker, and the group is open
pub record IsBack (before : Owned) (was : List (List ℕ)) (done : Came) (worker : ℕ) (room : Option (Operation × List Use)) (group : ℕ) (after : Owned) (now : List (List ℕ)) : Type 0 where
  pub run : IsRun done
  pub stored : AreStored done.lent (cell_of was) (cell_of now)
  pub lengths : lengths now ≡ lengths was
  pub groups : after.groups ≡ all_back worker done.lent before.groups ++ opened_under group room
  pub worth : AreJoined done.lent (worth before was) (worth after now)
  pub ended : IsPermutation before.out (loan_of worker done.lent ∷ after.out)

-- a piece of the task is out
pub record HasPiece (rs : List Region) (i : ℕ) : Type 0 where
  pub known : i < length rs
  pub out : is_some (at rs i).running ≡ true

-- its parent's table lets the task finish
pub record MayFinish (rs : List Region) (i : ℕ) : Type 0 where
  pub parent : parent_of rs i < length rs
  pub ready : IsReady (at rs (parent_of rs i)).children (at rs i).child
  pub unfinished : IsUnfinished (at rs (parent_of rs i)).children (at rs i).child

-- the task's piece may come back: its body has not ended, and may end
pub record MayEnd (rs : List Region) (i : ℕ) : Type 0 where
  pub piece : HasPiece rs i
  pub alive : (at rs i).ended ≡ false
  pub finish : 0 < i → MayFinish rs i
