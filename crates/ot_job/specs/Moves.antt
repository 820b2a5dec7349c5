-- What a claim does to a job.
use Rattle.std.specs.Prelude.{◌≡◌, ℕ, ◌∷◌, Option, Some, None, option_map, IsPermutation, ◌<◌, ◌≤◌, ◌+◌, Bool, true, if◌then◌else◌, List, nat_lt}
use Rattle.ot_model.specs.Tree.{Body, Task, End, Next}
use Rattle.ot_model.specs.Cells.{cell_of, lengths, updated, AreInOrder}
use Rattle.ot_model.specs.declared.expr.Cell.{Cell}
use Rattle.ot_owner.specs.Lending.{lease_of, lent_from, uses_of}
use Rattle.ot_owner.specs.Owning.{loan_of, begun_for}
use Rattle.ot_owner.specs.Worth.{worths, AreWorthSame, AreStored, all_back, AreJoined, worth}
use Rattle.ot_job.specs.Numbered.{at, parent_of}
use Rattle.ot_job.specs.Dealings.{Live, claimable_in, state_in}
use Rattle.ot_job.specs.Opening.{left_open, passed_over, Opens}
use Rattle.ot_job.specs.Taken.{Taken, Came, IsOut, taken_by, worker_in}
use Rattle.ot_job_task.specs.Pieces.{leading, after_parts, test_of, awake, piece_begun, group_passed, is_at_end, leading_len}
use Rattle.ot_job_task.specs.Touched.{piece_touches}
use Rattle.ot_job.specs.Holding.{Holds}
use Rattle.ot_job.specs.Claiming.{picked_at}
use Rattle.ot_model.specs.Serial.{State, bump}
use Rattle.ot_model.specs.declared.plain.Counts.{Counts}
use Rattle.ot_model.specs.declared.stmt.Use.{Use}
use Rattle.ot_job_task.specs.Regions.{Region, group_next, control_executed, is_control, next_task, over, region_stopped, tasks_next, without, weight_of}
use Rattle.ot_job.specs.declared.piece.Refused.{Refused}
use Rattle.ot_job.specs.declared.piece.Refused.TheVariants.{Stranger, Failing, Memory}
use Rattle.ot_job.specs.declared.state.State.TheVariants.{Working}

-- what a task goes on with
abbrev pub ahead : Live → ℕ → Body
ahead j i = (awake (at j.regions i)).rest

-- Where the task passes a group's end, the group's copies go to the stored numbers of its cells, and its rows are gone: so
-- that the piece has what was folded among its inputs. Each cell is worth the same.
pub record Claims (old : Live) (pick worker : ℕ) (p : Taken) (new : Live) : Type 0 where
  pub task : picked_at (claimable_in old) pick ≡ Some p.task
  pub assigns : p.assigns ≡ leading (ahead old p.task)
  pub test : p.test ≡ test_of (after_parts (ahead old p.task))
  pub held : Holds (at old.regions p.task).own (piece_touches p.assigns p.test) (uses_of p.lent)
  pub inputs : p.lent ≡ lent_from (worths old.owned old.cells) (uses_of p.lent)
  pub out : IsPermutation (loan_of worker p.lent ∷ old.owned.out) new.owned.out
  pub groups : new.owned.groups ≡ begun_for worker (uses_of p.lent) (left_open (group_passed (at old.regions p.task)) old.owned.groups)
  pub stored : (cell : Cell) → cell_of new.cells cell ≡ option_map (passed_over (group_passed (at old.regions p.task)) old.owned.groups cell) (cell_of old.cells cell)
  pub lengths : lengths new.cells ≡ lengths old.cells
  pub worth : AreWorthSame old.owned new.owned old.cells new.cells
  pub now : new ≡ record old { regions = updated old.regions p.task (piece_begun worker (lease_of p.lent)); cells = new.cells; owned = new.owned }

abbrev pub Claimed : Live → ℕ → ℕ → Option Taken → Live → Type 0
Claimed old pick worker None new = (picked_at (claimable_in old) pick ≡ None) × (new ≡ old)
Claimed old pick worker (Some p) new = Claims old pick worker p new

-- What a settle does to a job.

-- task i has finished, as its parent's table tells
abbrev pub told_parent : ℕ → List Region → List Region
told_parent i rs = if nat_lt 0 i then updated rs (parent_of rs i) (without (at rs i).child) else rs

-- task i has ended its body
abbrev pub region_ended_at : ℕ → List Region → List Region
region_ended_at i rs = updated (told_parent i rs) i over

-- the place behind the piece, and the control statement executed that comes next
abbrev pub moved_on : Bool → ℕ → ℕ → List Region → List Region
moved_on taken g i rs = if is_at_end (at rs i).rest (at rs i).groups then region_ended_at i rs else control_executed taken g i rs

abbrev pub regions_settled : Bool → ℕ → ℕ → List Region → List Region
regions_settled taken g i rs = updated (moved_on taken g i rs) i region_stopped

-- what the control statement that comes next counts: one unit, and one task where it is a task
abbrev pub units_counted : Body → State → State
units_counted End s = s
units_counted (Next (Task d b) rest) s = bump 1 1 s
units_counted (Next x rest) s = bump 0 1 s

-- where a task comes next, its declaration is in order
abbrev pub CreatesInOrder : Region → Type 0
CreatesInOrder r = (child : List Use × Body) → next_task r.rest ≡ Some child → AreInOrder child.0

-- the units: the assigns, and one more where a control statement was executed
abbrev pub units_of : Body → Body → ℕ
units_of assigns rest = leading_len assigns + (if is_control rest then 1 else 0)

-- the counts once a piece has come back, and the control statement behind it is executed
abbrev pub counts_after : Counts → Body → Body → Counts
counts_after counts assigns rest = record { tasks = counts.tasks + tasks_next rest; units = counts.units + units_of assigns rest }

-- A written cell has its present value; what was folded is in the row of the worker to whom the piece was out; and where a
-- group comes next, it is open with no row.
pub record Settles (old : Live) (d : Came) (number : ℕ) (new : Live) : Type 0 where
  pub out : IsOut old.regions d
  pub working : state_in old ≡ Working
  pub units : number ≡ units_of d.assigns (at old.regions d.task).rest
  pub stored : AreStored d.lent (cell_of old.cells) (cell_of new.cells)
  pub lengths : lengths new.cells ≡ lengths old.cells
  pub groups : Opens (group_next (at old.regions d.task).rest) old.counts.units (all_back (worker_in (at old.regions d.task)) d.lent old.owned.groups) new.owned.groups
  pub worth : AreJoined d.lent (worth old.owned old.cells) (worth new.owned new.cells)
  pub ended : IsPermutation old.owned.out (loan_of (worker_in (at old.regions d.task)) d.lent ∷ new.owned.out)
  pub lighter : weight_of new.regions < weight_of old.regions
  pub few : new.counts.units ≤ 20000
  pub now : new ≡ record old { regions = regions_settled (taken_by d.answer) old.counts.units d.task old.regions; cells = new.cells; owned = new.owned; counts = counts_after old.counts d.assigns (at old.regions d.task).rest }

-- why a piece that comes back is refused
abbrev pub Refuses : Live → Came → Refused → Type 0
Refuses old d Stranger = IsOut old.regions d → ⊥
Refuses old d Failing = IsOut old.regions d × (old.failing ≡ true)
Refuses old d Memory = IsOut old.regions d × (state_in old ≡ Working)
