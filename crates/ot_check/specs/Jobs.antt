-- A checked program with the cells that it begins with, and what it means.
use Rattle.std.specs.Prelude.{◌≡◌, ℕ, List}
use Rattle.ot_model.specs.Programs.{expanded_of}
use Rattle.ot_model.specs.Serial.{State, serial_run, state_of}
use Rattle.ot_check.specs.declared.checked.Checked.{Checked}
use Rattle.ot_check.specs.declared.job.Outcome.{Outcome}

pub record Spec : Type 0 where
  pub checked : Checked
  pub before : List (List ℕ)

-- the same program and the same cells, whatever memory they take
pub record AreSame (one other : Spec) : Type 0 where
  pub program : expanded_of one.checked.program ≡ expanded_of other.checked.program
  pub before : one.before ≡ other.before

-- the cells and counts that are left when each task is executed where it is created
abbrev pub meaning_of : Spec → State
meaning_of spec = serial_run (expanded_of spec.checked.program).body spec.before

-- the outcome has the cells and counts of the serial meaning
abbrev pub IsMeaning : Spec → Outcome → Type 0
IsMeaning spec outcome = state_of outcome.cells outcome.counts ≡ meaning_of spec
