-- What the pieces that are out hold, in every job, failing ones too.
use Rattle.std.specs.Prelude.{◌≡◌, ◌≢◌, ℕ, true, false, List, Some, None, Contains}
use Rattle.ot_model.specs.Cells.{Conflict, mode_in}
use Rattle.ot_model.specs.declared.expr.Cell.{Cell}
use Rattle.ot_model.specs.declared.fold.Fold.{Fold as Operation}
use Rattle.ot_model.specs.declared.stmt.Mode.TheVariants.{Reads, Writes, Folds}
use Rattle.ot_model.specs.declared.stmt.Use.{Use}
use Rattle.ot_check.specs.Offences.{Declared, folds_to}
use Rattle.ot_owner.specs.Lending.{lease_of, lent_from}
use Rattle.ot_owner.specs.Worth.{worths}
use Rattle.ot_job_task.specs.Pieces.{test_of}
use Rattle.ot_job_task.specs.Regions.{Region, Run}
use Rattle.ot_job_task.specs.Touched.{piece_touches}
use Rattle.ot_job.specs.Dealings.{Live}
use Rattle.ot_job.specs.Numbered.{at}

-- one of the touches is of the cell
abbrev pub Touches : List Use → Cell → Type 0
Touches us c = (u : Use) × Contains us u × (u.cell ≡ c)

-- each touch of the cell reads it
abbrev pub OnlyReads : List Use → Cell → Type 0
OnlyReads us c = (u : Use) → Contains us u → u.cell ≡ c → u.mode ≡ Reads

-- the body declares no fold of the cell
abbrev pub FoldsNone : Declared → Cell → Type 0
FoldsNone own c = (o : Operation) → folds_to own o c ≡ false

-- A piece with these touches holds each cell that it touches: as Folds of the operation where its body declares one, else as
-- Reads where it only reads it, else as Writes. It holds no other cell.
pub record Holds (own : Declared) (us held : List Use) : Type 0 where
  pub folds : (o : Operation) (c : Cell) → Touches us c → folds_to own o c ≡ true → mode_in held c ≡ Some (Folds o)
  pub reads : (c : Cell) → Touches us c → FoldsNone own c → OnlyReads us c → mode_in held c ≡ Some Reads
  pub writes : (c : Cell) → Touches us c → FoldsNone own c → ¬ OnlyReads us c → mode_in held c ≡ Some Writes
  pub others : (c : Cell) → ¬ Touches us c → mode_in held c ≡ None

-- what a region's piece touches: the cells of its assignments and of its condition
abbrev pub touches_out : Region → Run → List Use
touches_out r run = piece_touches run.assigns (test_of r.rest)

-- each piece that is out holds what it touches
abbrev pub AllHold : Live → Type 0
AllHold j = (i : ℕ) (run : Run) → (at j.regions i).running ≡ Some run → Holds (at j.regions i).own (touches_out (at j.regions i) run) run.lease.uses

-- what it was lent are the cells as they are worth now, and under Folds the unit of the operation
abbrev pub HavePresent : Live → Type 0
HavePresent j = (i : ℕ) (run : Run) → (at j.regions i).running ≡ Some run → run.lease ≡ lease_of (lent_from (worths j.owned j.cells) run.lease.uses)

-- no two pieces that are out hold what conflicts
abbrev pub ArePiecesApart : Live → Type 0
ArePiecesApart j =
    (i k : ℕ) (one two : Run) → i ≢ k → (at j.regions i).running ≡ Some one → (at j.regions k).running ≡ Some two → ¬ Conflict one.lease.uses two.lease.uses
