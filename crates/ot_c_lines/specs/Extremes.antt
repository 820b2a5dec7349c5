-- A greatest or least number that an `if` keeps. Where a task has a copy of x of its own, `if (x < e) x = e;` is
-- `x = max(x, e);`, and `if (x > e) x = e;` is `x = min(x, e);`.
use Rattle.std.specs.Prelude.{Bool, false, ◌&&◌, Option, Some, None, option_and_then, if◌then◌else◌}
use Rattle.ot_c_expressions.specs.declared.sign.Sign.TheVariants as s
use Rattle.ot_c_expressions.specs.declared.tree.Operation.{Operation}
use Rattle.ot_c_expressions.specs.declared.tree.Operation.TheVariants as o
use Rattle.ot_c_expressions.specs.Tree.{E, expr_of, Apply}
use Rattle.ot_c_statements.specs.Tree.{Aim, aim_of, S, Assign, Body, End, Next}
use Rattle.ot_c_scope.specs.declared.scope.Sense.{Sense}
use Rattle.ot_c_scope.specs.declared.scope.Sense.TheVariants as means
use Rattle.ot_c_scope.specs.Results.{◌>>=◌}
use Rattle.ot_c_scope.specs.Scopes.{Around, sense}
use Rattle.ot_c_clauses.specs.Portions.{same_value}
use Rattle.ot_c_lines.specs.declared.extreme.Extreme.{Extreme}
use Rattle.ot_c_lines.specs.Assignments.{Stated, aimed_place, cell_aimed, changed_cell, is_target}

-- ---- what an `if` keeps

-- what is assigned to, by which operation the `if` folds into it, and what
pub record Extremum : Type 0 where
  pub aim : Aim
  pub operation : Operation
  pub value : E

abbrev pub kept_of : Extreme → Extremum
kept_of x = record { aim = aim_of x.target.now; operation = x.operation; value = expr_of x.expr.now }

-- `if (one < other) t = e;`
abbrev pub kept_below : Aim → E → E → E → Option Extremum
kept_below t one other e =
    if is_target t one && same_value other e then Some (record { aim = t; operation = o.Max; value = e })
    else if is_target t other && same_value one e then Some (record { aim = t; operation = o.Min; value = e })
    else None

-- `if (test) t = e;`, of which `x > y` is `y < x`
unfoldable pub kept_by : E → Aim → E → Option Extremum
kept_by (Apply l s.Less x y) t e = kept_below t x y e
kept_by (Apply l s.More x y) t e = kept_below t y x e
kept_by test t e = None

-- whether a task has a copy of its own
abbrev pub is_own : Sense → Bool
is_own (means.Combined c k length) = c.own
is_own means.Nothing = false
is_own (means.Constant n k) = false
is_own (means.Turn k) = false
is_own means.Begins = false
is_own (means.Cells k length) = false
is_own (means.Pointer x p) = false
is_own (means.Function i) = false

-- `t = e;`
unfoldable pub set_of : S → Option (Aim × E)
set_of (Assign left t None e) = Some (t, e)
set_of s = None

-- the only statement of a body
abbrev pub only : Body → Option S
only End = None
only (Next s End) = Some s
only (Next s (Next t rest)) = None

-- what an `if` without an `else` does, if it is one assignment
abbrev pub only_set : Body → Body → Option (Aim × E)
only_set b End = option_and_then set_of (only b)
only_set b (Next s rest) = None

abbrev pub kept_set : Around → E → Option (Aim × E) → Option Extremum
kept_set a test None = None
kept_set a test (Some x) = if is_own (sense a x.0.array) then kept_by test x.0 x.1 else None

-- what an `if` keeps in a task's own copy, if it does
abbrev pub kept_if : Around → E → Body → Body → Option Extremum
kept_if a test b c = kept_set a test (only_set b c)

-- the fold
abbrev pub extreme_folded : Around → Extremum → Stated
extreme_folded a k = aimed_place k.aim.left (sense a k.aim.array) >>= λ p. cell_aimed a k.aim p >>= λ cell. changed_cell a k.aim.left p.own p.kind cell (Some k.operation, false) k.value
