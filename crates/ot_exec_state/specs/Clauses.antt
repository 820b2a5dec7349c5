-- What clauses name.
use Rattle.std.specs.Prelude.{ℕ, suc, ◌++◌, nat_le, List, [], ◌∷◌, length, slice_set, if◌then◌else◌, Option, Some, None, Result, Ok, Err}
use Rattle.std.specs.List.{insert}
use Rattle.ot_exec_code.specs.declared.form.Depends.{Depends}
use Rattle.ot_exec_code.specs.declared.form.Folded.{Folded}
use Rattle.ot_exec_code.specs.declared.form.Item.{Item}
use Rattle.ot_model.specs.Cells.{is_before, same_cell}
use Rattle.ot_model.specs.declared.expr.Cell.{Cell}
use Rattle.ot_model.specs.declared.stmt.Mode.{Mode}
use Rattle.ot_model.specs.declared.stmt.Mode.TheVariants.{Reads, Writes}
use Rattle.ot_model.specs.declared.stmt.Use.{Use}
use Rattle.ot_parts.specs.Modes.{use_as}
use Rattle.ot_exec_state.specs.Results.{◌>>=◌, each}
use Rattle.ot_exec_state.specs.Memory.{Memory, cell, span_at}
use Rattle.ot_exec_state.specs.Nest.{part}
use Rattle.ot_exec_state.specs.Siblings.{told_mode}
use Rattle.ot_exec_state.specs.Slots.{Slots, slot_read}
use Rattle.ot_exec_state.specs.Values.{number_or}
use Rattle.ot_exec_state.specs.declared.fault.Reason.{Reason}
use Rattle.ot_exec_state.specs.declared.fault.Reason.TheVariants.{Outside, TooManyItems, UnknownLength}
use Rattle.ot_exec_state.specs.declared.limits.Limits.{Limits}
use Rattle.ot_exec_state.specs.declared.memory.Span.{Span}
use Rattle.ot_exec_state.specs.declared.nest.Part.{Part}
use Rattle.ot_exec_state.specs.declared.siblings.Siblings.{Siblings}

-- how a task depends by a cell that two items name
abbrev pub both : Mode → Mode → Mode
both Reads Reads = Reads
both one other = Writes

-- a declaration with one use more: cells stay in order, each once
abbrev pub with_use : Use → List Use → List Use
with_use u [] = u ∷ []
with_use u (v ∷ vs) =
    if is_before v.cell u.cell then v ∷ with_use u vs
    else (if same_cell v.cell u.cell then use_as (both v.mode u.mode) v.cell ∷ vs else u ∷ v ∷ vs)

-- how many of its uses stand before a cell
abbrev pub before : Cell → List Use → ℕ
before c [] = 0
before c (v ∷ vs) = if is_before v.cell c then suc (before c vs) else 0

-- a declaration with one use more, before which so many stand, where this one may be of its cell
abbrev pub use_placed : Use → List Use → ℕ → Option Use → List Use
use_placed u us n None = insert us n u
use_placed u us n (Some v) = if same_cell v.cell u.cell then slice_set us n (use_as (both v.mode u.mode) v.cell) else insert us n u

-- a declaration with an item more that begins at this cell. One that begins outside of its object is none: no cell is there
abbrev pub with_item_at : Option ℕ → List Siblings → Depends → List Use → Result Span Reason → Result (List Use) Reason
with_item_at waits ss mode us (Ok c) = Ok (with_use (use_as (told_mode waits (cell c.object c.index) ss mode) (cell c.object c.index)) us)
with_item_at waits ss mode us (Err Outside) = Ok us
with_item_at waits ss mode us (Err r) = Err r

-- a declaration with one item more, the cell where it begins: of a wait by this task behind these siblings, or of a task
unfoldable pub with_item : Slots → Memory → Option ℕ → List Siblings → Item → List Use → Result (List Use) Reason
with_item s m waits ss i us = do
  p ← slot_read s i.slot
  with_item_at waits ss i.mode us (span_at m p 1)

unfoldable pub items_of : Limits → Slots → Memory → Option ℕ → List Siblings → List Item → Result (List Use) Reason
items_of l s m waits ss is = if nat_le (length is) l.items then each (with_item s m waits ss) is [] else Err TooManyItems

-- an item more of a region's reductions, with its cells
unfoldable pub with_reduced : Slots → Memory → Folded → List Part → Result (List Part) Reason
with_reduced s m x ps = do
  p ← slot_read s x.slot
  v ← slot_read s x.count
  n ← number_or UnknownLength v
  c ← span_at m p n
  Ok (ps ++ part x.fold c ∷ [])

unfoldable pub reduced_parts : Limits → Slots → Memory → List Folded → Result (List Part) Reason
reduced_parts l s m xs = if nat_le (length xs) l.items then each (with_reduced s m) xs [] else Err TooManyItems
