-- Slots: those of all calls and tasks that are open, in one list. Each has its own from its base on.
use Rattle.std.specs.Prelude.{ℕ, ◌+◌, ◌-◌, ◌++◌, Bool, false, nat_lt, nat_le, List, length, replicate, slice_get, slice_set, if◌then◌else◌, Result, Ok, Err}
use Rattle.ot_exec_state.specs.Results.{found_or}
use Rattle.ot_exec_state.specs.Values.{is_unknown}
use Rattle.ot_exec_state.specs.declared.fault.Reason.{Reason}
use Rattle.ot_exec_state.specs.declared.fault.Reason.TheVariants.{Broken, TooDeep}
use Rattle.ot_exec_state.specs.declared.limits.Limits.{Limits}
use Rattle.ot_exec_state.specs.declared.value.Value.{Value}
use Rattle.ot_exec_state.specs.declared.value.Value.TheVariants as v

pub record Slots : Type 0 where
  pub base : ℕ
  pub values : List Value

abbrev pub slots : ℕ → List Value → Slots
slots base values = record { base = base; values = values }

unfoldable pub slot_read : Slots → ℕ → Result Value Reason
slot_read s r = found_or Broken (slice_get s.values (s.base + r))

-- whether there is a value that isn't known
abbrev pub is_question : Result Value Reason → Bool
is_question (Ok x) = is_unknown x
is_question (Err r) = false

unfoldable pub slot_put : Slots → ℕ → Value → Result Slots Reason
slot_put s r x = if nat_lt (s.base + r) (length s.values) then Ok (slots s.base (slice_set s.values (s.base + r) x)) else Err Broken

-- The slots from the first one on become those of a call or a task, so many. Those that weren't there are unknown
unfoldable pub enter : Limits → Slots → ℕ → ℕ → Result Slots Reason
enter l s first count =
    let end = s.base + first + count in
    if nat_le end l.slots then Ok (slots (s.base + first) (s.values ++ replicate (end - length s.values) v.Unknown)) else Err TooDeep
