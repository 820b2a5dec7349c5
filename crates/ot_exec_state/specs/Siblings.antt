-- Siblings that depend by a cell in no order among themselves, one after the other (OpenMP API 5.2, section 15.9.5). What a task declares has
-- no word for that: they read the cell, and an empty sibling that writes it stands where such siblings begin, or others come behind them.
use Rattle.std.specs.Prelude.{ℕ, ◌++◌, ◌==◌, nat_lt, Bool, true, false, not, ◌&&◌, List, [], ◌∷◌, length, filter, if◌then◌else◌, Option, Some, None, Result, Ok, Err}
use Rattle.ot_exec_code.specs.declared.form.Depends.{Depends}
use Rattle.ot_exec_code.specs.declared.form.Depends.TheVariants.{In, InOut, MutexInOutSet, InOutSet}
use Rattle.ot_model.specs.Cells.{same_cell}
use Rattle.ot_model.specs.declared.expr.Cell.{Cell}
use Rattle.ot_model.specs.declared.stmt.Mode.{Mode}
use Rattle.ot_model.specs.declared.stmt.Mode.TheVariants.{Reads, Writes}
use Rattle.ot_exec_state.specs.declared.fault.Reason.{Reason}
use Rattle.ot_exec_state.specs.declared.fault.Reason.TheVariants.{TooManyItems}
use Rattle.ot_exec_state.specs.declared.limits.Limits.{Limits}
use Rattle.ot_exec_state.specs.declared.siblings.Siblings.{Siblings}

-- children of this task that depend by this cell so
abbrev pub siblings : ℕ → Cell → Depends → Siblings
siblings task cell mode = record { task = task; cell = cell; mode = mode }

abbrev pub are_of : ℕ → Cell → Siblings → Bool
are_of task c s = s.task == task && same_cell s.cell c

-- how those depend that stand last there, in no order
abbrev pub unordered_mode : ℕ → Cell → List Siblings → Option Depends
unordered_mode task c [] = None
unordered_mode task c (s ∷ ss) = if are_of task c s then Some s.mode else unordered_mode task c ss

-- whether one that depends so begins such siblings, or stands behind them
abbrev pub begins_siblings : Depends → Option Depends → Bool
begins_siblings In None = false
begins_siblings In (Some m) = true
begins_siblings InOut m = false
begins_siblings MutexInOutSet (Some MutexInOutSet) = false
begins_siblings MutexInOutSet m = true
begins_siblings InOutSet (Some InOutSet) = false
begins_siblings InOutSet m = true

-- how an item is told by what a task declares
abbrev pub mode_of : Depends → Mode
mode_of In = Reads
mode_of InOut = Writes
mode_of MutexInOutSet = Reads
mode_of InOutSet = Reads

-- the same of a wait by this task, which no empty sibling stands before
abbrev pub told_mode : Option ℕ → Cell → List Siblings → Depends → Mode
told_mode None c ss mode = mode_of mode
told_mode (Some task) c ss mode = if begins_siblings mode (unordered_mode task c ss) then Writes else mode_of mode

-- ---- behind one that depends so

abbrev pub are_in_no_order : Depends → Bool
are_in_no_order In = false
are_in_no_order InOut = false
are_in_no_order MutexInOutSet = true
are_in_no_order InOutSet = true

abbrev pub others : ℕ → Cell → List Siblings → List Siblings
others task c ss = filter (λ s. not (are_of task c s)) ss

unfoldable pub siblings_behind : Limits → ℕ → Cell → Depends → List Siblings → Result (List Siblings) Reason
siblings_behind l task c mode ss =
    if not (are_in_no_order mode) then Ok (others task c ss)
    else (if nat_lt (length (others task c ss)) l.open then Ok (others task c ss ++ siblings task c mode ∷ []) else Err TooManyItems)
