-- What a program names: arrays, and the functions `min` and `max`.
use Rattle.std.specs.Prelude.{ℕ, ◌==◌, Bool, true, false, ◌||◌, List, Some, None}
use Rattle.std.specs.List.{list_any}
use Rattle.ot_model.specs.declared.expr.Cell.{Cell}
use Rattle.ot_model.specs.declared.expr.Section.{Section}
use Rattle.ot_model.specs.declared.expr.Op.{Op}
use Rattle.ot_model.specs.declared.expr.Op.TheVariants as o
use Rattle.ot_model.specs.declared.fold.Fold.{Fold as Operation}
use Rattle.ot_model.specs.declared.fold.Fold.TheVariants as f
use Rattle.ot_model.specs.declared.stmt.Use.{Use}
use Rattle.ot_model.specs.Programs.{Expanded}
use Rattle.ot_model.specs.Tree.{E, Literal, CellAt, Apply, PickFrom, S, Set, Fold, If, Task, Wait, Group, Body, End, Next}
use Rattle.ot_show_c.specs.declared.named.Call.{Call}
use Rattle.ot_show_c.specs.declared.named.Call.TheVariants as c

-- ---- arrays, by their numbers

abbrev pub is_array : ℕ → ℕ → Bool
is_array a i = i == a

abbrev pub value_names : ℕ → E → Bool
value_names a (Literal n) = false
value_names a (CellAt c) = is_array a c.array
value_names a (Apply op x y) = value_names a x || value_names a y
value_names a (PickFrom s e) = is_array a s.array || value_names a e

abbrev pub uses_name : ℕ → List Use → Bool
uses_name a us = list_any (λ u. is_array a u.cell.array) us

abbrev pub cells_name : ℕ → List Cell → Bool
cells_name a cs = list_any (λ c. is_array a c.array) cs

abbrev pub sections_name : ℕ → List Section → Bool
sections_name a ss = list_any (λ s. is_array a s.array) ss

abbrev mutual
  pub statement_names : ℕ → S → Bool
  statement_names a (Set c e) = is_array a c.array || value_names a e
  statement_names a (Fold op c e) = is_array a c.array || value_names a e
  statement_names a (If e x y) = value_names a e || body_names a x || body_names a y
  statement_names a (Task us x) = uses_name a us || body_names a x
  statement_names a (Wait None) = false
  statement_names a (Wait (Some us)) = uses_name a us
  statement_names a (Group op cs x) = cells_name a cs || body_names a x

  pub body_names : ℕ → Body → Bool
  body_names a End = false
  body_names a (Next s rest) = statement_names a s || body_names a rest

-- whether a program names an array: in what it shows, or in its body
abbrev pub names : Expanded → ℕ → Bool
names p a = sections_name a p.shows || body_names a p.body

-- ---- calls of `min` and `max`

abbrev pub is_op : Call → Op → Bool
is_op c.Min o.Min = true
is_op c.Max o.Max = true
is_op call op = false

abbrev pub is_fold_call : Call → Operation → Bool
is_fold_call c.Min f.Min = true
is_fold_call c.Max f.Max = true
is_fold_call call op = false

abbrev pub value_calls : Call → E → Bool
value_calls call (Apply op x y) = is_op call op || value_calls call x || value_calls call y
value_calls call (PickFrom s e) = value_calls call e
value_calls call _ = false

-- a fold calls the function of its operation, if there is one
abbrev mutual
  pub statement_calls : Call → S → Bool
  statement_calls call (Set c e) = value_calls call e
  statement_calls call (Fold op c e) = is_fold_call call op || value_calls call e
  statement_calls call (If e x y) = value_calls call e || body_calls call x || body_calls call y
  statement_calls call (Task us x) = body_calls call x
  statement_calls call (Wait w) = false
  statement_calls call (Group op cs x) = body_calls call x

  pub body_calls : Call → Body → Bool
  body_calls call End = false
  body_calls call (Next s rest) = statement_calls call s || body_calls call rest
