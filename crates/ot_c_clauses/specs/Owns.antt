-- How a task takes part in reductions, and the cells that it folds into by pointers.
use Rattle.std.specs.Prelude.{ℕ, ◌==◌, Bool, false, ◌||◌, List, map, Option, Some, None}
use Rattle.std.specs.List.{count_by}
use Rattle.ot_c_words.specs.declared.word.Name.{Name}
use Rattle.ot_c_words.specs.declared.word.Name.TheVariants as n
use Rattle.ot_c_scope.specs.declared.scope.Pointee.{Pointee}
use Rattle.ot_c_scope.specs.Scopes.{Run, points_into}
use Rattle.ot_c_clauses.specs.declared.own.Own.{Own}
use Rattle.ot_c_clauses.specs.declared.own.Taking.{Taking}
use Rattle.ot_c_clauses.specs.declared.own.Taking.TheVariants.{ByName, ByPointer}

-- how a task takes part, by the cell that a pointer names, if one does
abbrev pub taking_of : Option Pointee → Taking
taking_of None = ByName
taking_of (Some cell) = ByPointer

-- whether it is one of these cells of an array
abbrev pub is_of : ℕ → Run → Own → Bool
is_of x cells o = points_into x cells (Some o.cell)

-- how many of these cells of an array the task folds into by pointers
abbrev pub own_count : Name → Run → List Own → ℕ
own_count (n.Known k) cells own = 0
own_count (n.Other x) cells own = count_by (is_of x cells) own

-- it stands under `in` too, where it is one of these cells
abbrev pub name_if : ℕ → Run → Own → Own
name_if x cells o = record o { named = o.named || is_of x cells o }

-- the task's own cells, of which these stand under `in` too
abbrev pub name_all : Name → Run → List Own → List Own
name_all (n.Known k) cells own = own
name_all (n.Other x) cells own = map (name_if x cells) own

-- whether there are so many of these cells
abbrev pub is_run : Run → ℕ → Bool
is_run None n = false
is_run (Some r) n = r.1 == n
