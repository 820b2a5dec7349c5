-- What holds of a job between its calls.
use Rattle.std.specs.Prelude.{◌≡◌, ◌<◌, ◌≤◌, ◌+◌, ◌*◌, ℕ, false, Some, All, Contains, IsSome, length, IsPermutation}
use Rattle.ot_model.specs.Names.{NamedIn, AreInShape}
use Rattle.ot_model.specs.Cells.{cell_of, lengths}
use Rattle.ot_model.specs.Tree.{size}
use Rattle.ot_job_task.specs.Regions.{Run, weight_of}
use Rattle.ot_job.specs.Numbered.{at, parent_of, todo_at}
use Rattle.ot_job.specs.Sound.{IsRootOrReady, IsSoundRegions}
use Rattle.ot_job.specs.Kept.{KeepsMeaning}
use Rattle.ot_depend.specs.Siblings.{IsReady, IsUnfinished}
use Rattle.ot_job.specs.Dealings.{Live}
use Rattle.ot_job.specs.Whole.{wholes, loan_in, loans_out}
use Rattle.ot_job.specs.Opened.{AreOpen}
use Rattle.ot_job.specs.Holding.{AllHold, HavePresent, ArePiecesApart}
use Rattle.ot_job.specs.Running.{RunsWell}

-- what holds until it fails
pub record IsOnCourse (j : Live) : Type 0 where
  pub some : 0 < length j.regions
  pub sound : IsSoundRegions (wholes j.regions)
  pub named : (i : ℕ) → NamedIn (lengths j.cells) (todo_at (wholes j.regions) i)
  pub runs : (i : ℕ) (run : Run) → (at j.regions i).running ≡ Some run → RunsWell (at j.regions i) run
  pub begun : (i : ℕ) (run : Run) → (at j.regions i).running ≡ Some run → IsRootOrReady (wholes j.regions) i
  pub copies : AreOpen j.regions j.owned.groups
  pub older : (i : ℕ) → All (λ o. o.group < j.counts.units) (at j.regions i).groups
  pub there : (i : ℕ) → All (λ o. AreInShape (lengths j.cells) o.cells) (at j.regions i).groups
  pub kept : KeepsMeaning j

-- The loans that are out are those of its tasks' pieces, of which each holds what it touches, as the cells are worth now, and
-- no two conflict. Its arrays are as long as those that were handed in. It has the root and each task that was created, has
-- executed at most its statements, and weighs no more than when it began.
pub record IsWell (j : Live) : Type 0 where
  pub rights : IsPermutation j.owned.out (loans_out j.regions)
  pub holds : AllHold j
  pub present : HavePresent j
  pub apart : ArePiecesApart j
  pub lengths : lengths j.cells ≡ lengths j.before
  pub created : length j.regions ≡ 1 + j.counts.tasks
  pub few : j.counts.units ≤ size j.program.body
  pub light : weight_of j.regions ≤ 2 * size j.program.body + 1
  pub course : j.failing ≡ false → IsOnCourse j

-- what holds of a job for each piece that is out: its loan is out, its cells are there, and its parent's table lets it finish
pub record MaySettle (j : Live) : Type 0 where
  pub out : (i : ℕ) (run : Run) → (at j.regions i).running ≡ Some run → Contains j.owned.out (loan_in run) × All (λ u. IsSome (cell_of j.cells u.cell)) run.lease.uses
  pub kin : (i : ℕ) (run : Run) → (at j.regions i).running ≡ Some run → 0 < i
      → (parent_of j.regions i < length j.regions) × IsReady (at j.regions (parent_of j.regions i)).children (at j.regions i).child
      × IsUnfinished (at j.regions (parent_of j.regions i)).children (at j.regions i).child
