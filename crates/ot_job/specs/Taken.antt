-- A piece that is handed out, and comes back.
use Rattle.std.specs.Prelude.{◌≡◌, ℕ, Bool, List, Option, option_map, unwrap_or, nat_lt}
use Rattle.ot_model.specs.Tree.{E, Body, val}
use Rattle.ot_model.specs.declared.expr.Cell.{Cell}
use Rattle.ot_owner.specs.Lending.{first_at, value_at}
use Rattle.ot_owner.specs.declared.lent.LentCell.{LentCell}
use Rattle.ot_job_task.specs.Copies.{copies_assigned}
use Rattle.ot_job_task.specs.Pieces.{Runs, leading_len}
use Rattle.ot_job_task.specs.Regions.{Region}
use Rattle.ot_job.specs.Numbered.{at}

-- its task, its sets and folds, the condition behind them, and the copies that it was lent
pub record Taken : Type 0 where
  pub task : ℕ
  pub assigns : Body
  pub test : Option E
  pub lent : List LentCell

-- a piece that comes back: what it was claimed with, and the value of its condition
pub record Came : Type 0 where
  pub task : ℕ
  pub assigns : Body
  pub test : Option E
  pub lent : List LentCell
  pub answer : Option ℕ

-- whether it has fewer than 64 sets and folds
abbrev pub is_short : Taken → Bool
is_short p = nat_lt (leading_len p.assigns) 64

-- it was run: its copies have what its assigns make of the inputs, and the answer is its condition's value on them
pub record IsRun (d : Came) : Type 0 where
  pub made : (cell : Cell) → value_at d.lent cell ≡ copies_assigned d.assigns (first_at d.lent) cell
  pub told : d.answer ≡ option_map (λ e. val (value_at d.lent) e) d.test

-- the worker that has a region's piece
abbrev pub worker_in : Region → ℕ
worker_in r = unwrap_or (option_map (λ run. run.worker) r.running) 0

-- its task runs it
abbrev pub IsOut : List Region → Came → Type 0
IsOut rs d = Runs (at rs d.task) d.assigns d.test d.lent

-- whether the condition's value takes the first body
abbrev pub taken_by : Option ℕ → Bool
taken_by answer = nat_lt 0 (unwrap_or answer 0)
