-- What a machine has at one moment.
use Rattle.std.specs.Prelude.{ℕ, Bool, List}
use Rattle.ot_exec_state.specs.Slots.{Slots}
use Rattle.ot_exec_state.specs.Memory.{Memory}
use Rattle.ot_exec_state.specs.Trail.{Trail}
use Rattle.ot_exec_state.specs.Nest.{Nest}
use Rattle.ot_exec_state.specs.Locks.{Locks}
use Rattle.ot_exec_state.specs.declared.siblings.Siblings.{Siblings}

-- the form that is next, slots, objects, what happened, what is open, locks, siblings in no order, how many tasks there have been, and whether the run has ended
pub record MachineState : Type 0 where
  pub at : ℕ
  pub slots : Slots
  pub memory : Memory
  pub trail : Trail
  pub nest : Nest
  pub locks : Locks
  pub siblings : List Siblings
  pub tasks : ℕ
  pub ended : Bool

abbrev pub state : ℕ → Slots → Memory → Trail → Nest → Locks → List Siblings → ℕ → Bool → MachineState
state at slots memory trail nest locks siblings tasks ended =
    record { at = at; slots = slots; memory = memory; trail = trail; nest = nest; locks = locks; siblings = siblings; tasks = tasks; ended = ended }

-- with other slots, with another trail, with other locks; and from another form on
abbrev pub with_slots : MachineState → Slots → MachineState
with_slots s slots = state s.at slots s.memory s.trail s.nest s.locks s.siblings s.tasks s.ended

abbrev pub with_trail : MachineState → Trail → MachineState
with_trail s trail = state s.at s.slots s.memory trail s.nest s.locks s.siblings s.tasks s.ended

abbrev pub with_locks : MachineState → Locks → MachineState
with_locks s locks = state s.at s.slots s.memory s.trail s.nest locks s.siblings s.tasks s.ended

abbrev pub from : ℕ → MachineState → MachineState
from at s = state at s.slots s.memory s.trail s.nest s.locks s.siblings s.tasks s.ended
