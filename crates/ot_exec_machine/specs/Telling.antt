-- What is told of runs: the contexts in which an event stands, and the first fault on a way.
use Rattle.std.specs.Prelude.{ℕ, zero, suc, ◌==◌, Bool, List, [], ◌∷◌, Option, Some, None, slice_get, if◌then◌else◌, Ok, Err}
use Rattle.ot_exec_outline.specs.Followed.{list_answer}
use Rattle.ot_exec_outline.specs.Ways.{Ending, Settled, AsksMore}
use Rattle.ot_exec_machine.specs.Runs.{Reached}
use Rattle.ot_exec_machine.specs.declared.faults.Met.{Met}
use Rattle.ot_exec_machine.specs.declared.faults.Met.TheVariants.{NoFault, FaultOn, TooMany}
use Rattle.ot_exec_state.specs.declared.fault.Fault.{Fault}
use Rattle.ot_exec_state.specs.declared.trail.Context.{Context}

-- ---- contexts

-- a call or a turn of a loop; 0 is the run itself
abbrev pub context_at : List Context → ℕ → Option Context
context_at contexts n = if n == 0 then None else slice_get contexts n

abbrev pub and_around : (ℕ → List Context) → Option Context → List Context
and_around more None = []
and_around more (Some c) = c ∷ more c.outer

-- the innermost of those in which a context stands, itself first, so many at most
unfoldable pub around : List Context → ℕ → ℕ → List Context
around contexts zero n = []
around contexts (suc most) n = and_around (around contexts most) (context_at contexts n)

-- ---- faults

abbrev pub fault_of : Reached → Option Fault
fault_of (Ok p) = None
fault_of (Err e) = Some e

-- what is met: no fault, the first one, with the answers of its way, or there are too many ways or questions
pub data Found : Type 0 where
  None_met : Found
  One_met : List Bool → Fault → Found
  Many : Found

abbrev pub found_in : Met → Found
found_in NoFault = None_met
found_in (FaultOn answers f) = One_met answers.items f
found_in TooMany = Many

abbrev pub met_on : List Bool → Option Fault → ℕ → Found × ℕ → Found × ℕ
met_on given None budget rest = rest
met_on given (Some f) budget rest = (One_met given f, budget)

-- what is met on the ways that end so, in their order, each of which takes one from the budget; and what is left of it
abbrev pub met_in : ((ℕ → Bool) → Option Fault) → List Ending → ℕ → Found × ℕ
met_in fault [] budget = (None_met, budget)
met_in fault (AsksMore ∷ ends) budget = (Many, budget)
met_in fault (Settled given ∷ ends) zero = (Many, 0)
met_in fault (Settled given ∷ ends) (suc budget) = met_on given (fault (list_answer given)) budget (met_in fault ends budget)
