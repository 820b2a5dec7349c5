-- What owners keep: what is out, the open groups, and what is reserved for the calls that take no memory.
use Rattle.std.specs.Prelude.{◌≡◌, ◌≤◌, ◌<◌, ◌^◌, ℕ, true, List, All, length, Some, IsSome, IfSome, slice_get}
use Rattle.ot_model.specs.Cells.{is_fold}
use Rattle.ot_model.specs.declared.fold.Fold.{Fold as Operation}
use Rattle.ot_model.specs.declared.stmt.Mode.TheVariants.{Writes, Folds}
use Rattle.ot_model.specs.declared.stmt.Use.{Use}
use Rattle.ot_owner.specs.Owning.{Owned, NoTwoConflict, Summed, IsOnlyBy, NoTwoShare, copy_among, folds_in}

-- the cells of an open group, and how many copies there is room for in the row of each worker
pub record Made : Type 0 where
  pub uses : List Use
  pub rows : List ℕ

-- what is out and open; what is made of the rows of each open group; for how many loans and for how many groups there is
-- a place
pub record Keeping : Type 0 where
  pub owned : Owned
  pub made : List Made
  pub loans : ℕ
  pub places : ℕ

-- what a slip says: the uses of the lease that is to come, and its worker
pub record Prepared : Type 0 where
  pub uses : List Use
  pub worker : ℕ

-- the row of the worker is made
abbrev pub HasRow : ℕ → Made → Type 0
HasRow worker m = slice_get m.rows worker ≡ Some (length m.uses)

-- the slip is of the last `prepare`, and no group was opened after it: there is a place for its loan, and its worker's row
-- is made in each group that names a cell into which it folds
pub record IsLast (k : Keeping) (s : Prepared) : Type 0 where
  pub place : 1 ≤ k.loans
  pub rows : All (λ m. folds_in m.uses s.uses ≡ true → HasRow s.worker m) k.made

-- the room is of the last `room`: there is a place for its group
abbrev pub IsOpenable : Keeping → Type 0
IsOpenable k = 1 ≤ k.places

-- ---- what always holds

-- the group names its cells to write them, has a row or none for each of 17 numbers, and each row has a copy of each cell,
-- each below 2^64
pub record IsRegular (g : Summed) : Type 0 where
  pub written : All (λ u. u.mode ≡ Writes) g.uses
  pub numbers : length g.rows ≡ 17
  pub long : All (λ row. IfSome row (λ copies. length copies ≡ length g.uses)) g.rows
  pub small : All (λ row. IfSome row (λ copies. All (λ copy. copy < 2 ^ 64) copies)) g.rows

-- the worker has a copy of each cell into which the uses fold
abbrev pub HasCopies : List Summed → ℕ → List Use → Type 0
HasCopies gs worker uses = All (λ u. is_fold u.mode ≡ true → IsSome (copy_among gs worker u.cell)) uses

-- each cell into which the uses fold is named only by a group of the same operation
abbrev pub IsByOwn : List Summed → List Use → Type 0
IsByOwn gs uses = All (λ u. (op : Operation) → u.mode ≡ Folds op → IsOnlyBy gs op u.cell) uses

-- no two loans conflict, no two groups share a cell, and who folds has a copy to fold into, of a group of the same operation
pub record IsSound (owned : Owned) : Type 0 where
  pub apart : NoTwoConflict owned.out
  pub regular : All IsRegular owned.groups
  pub single : NoTwoShare owned.groups
  pub copies : All (λ loan. HasCopies owned.groups loan.worker loan.lease.uses) owned.out
  pub own : All (λ loan. IsByOwn owned.groups loan.lease.uses) owned.out
