-- Assignments. Where a task takes part in a reduction it only folds into its own copy, by the operation (OpenMP API 5.2,
-- section 5.5.3).
use Rattle.std.specs.Prelude.{ℕ, ◌==◌, Bool, true, false, ◌&&◌, [], ◌∷◌, Option, Some, None, Result, Ok, Err, codes, if◌then◌else◌}
use Rattle.serde_json.specs.Data.{Data, string}
use Rattle.ot_c_words.specs.declared.word.IntegerType.{IntegerType}
use Rattle.ot_c_words.specs.declared.word.Name.{Name}
use Rattle.ot_c_words.specs.declared.word.Name.TheVariants as n
use Rattle.ot_c_expressions.specs.declared.sign.Sign.{Sign}
use Rattle.ot_c_expressions.specs.declared.tree.Operation.{Operation}
use Rattle.ot_c_expressions.specs.Tree.{E, Literal, Variable, CellAt, Unsigned, Signed, Called, Apply, Choose}
use Rattle.ot_c_statements.specs.Tree.{Aim}
use Rattle.ot_c_scope.specs.declared.reason.Reason.TheVariants as why
use Rattle.ot_c_scope.specs.declared.scope.Pointee.{Pointee}
use Rattle.ot_c_scope.specs.declared.scope.Sense.{Sense}
use Rattle.ot_c_scope.specs.declared.scope.Sense.TheVariants as s
use Rattle.ot_c_scope.specs.Forms.{nat, form}
use Rattle.ot_c_scope.specs.Kinds.{is_word}
use Rattle.ot_c_scope.specs.Results.{Refusal, ◌>>=◌}
use Rattle.ot_c_scope.specs.Scopes.{Around, sense, name_text, array_text}
use Rattle.ot_c_scope.specs.Sizes.{size}
use Rattle.ot_c_meaning.specs.Stores.{value_assigned, value_changed}
use Rattle.ot_c_scope.specs.Runs.{is_run_untouched}
use Rattle.ot_c_lines.specs.declared.assignments.Placed.{Placed}
use Rattle.ot_c_clauses.specs.Portions.{has_copy}
use Rattle.ot_c_clauses.specs.Operations.{operation_word, folding_sign, is_minus, call_fold, is_same_operation}

abbrev pub Stated : Type 0
Stated = Result Data Refusal

-- ---- what is assigned to

-- a cell of what has so many: a place in an array, or a variable's own cell
abbrev pub own_cell : Around → ℕ → Name → Option ℕ → Option E → Stated
own_cell a at x None None = Ok (form (codes "c") (string (name_text a x) ∷ nat 0 ∷ []))
own_cell a at x (Some n) (Some i) = size a i >>= λ p. Ok (form (codes "c") (string (name_text a x) ∷ p.0 ∷ []))
own_cell a at x None (Some i) = Err (at, why.NoArray)
own_cell a at x (Some n) None = Err (at, why.WholeArray)

-- the cell itself that a pointer points to
unfoldable pub is_start : Option E → Bool
is_start (Some (Literal l n k)) = n == 0
is_start i = false

abbrev pub pointed_cell : Around → ℕ → Pointee → Option E → Stated
pointed_cell a at p index = if is_start index then Ok (form (codes "c") (string (array_text a.names p.array) ∷ nat p.place ∷ [])) else Err (at, why.Pointee)

-- what is assigned to: a pointer's cell or how many cells there are; their type; and by which operation the task folds into
-- its own copy of it, if it has one
pub record Place : Type 0 where
  pub pointee : Option Pointee
  pub kind : IntegerType
  pub length : Option ℕ
  pub own : Option Operation

abbrev pub place_of : Placed → Place
place_of p = record { pointee = p.pointee; kind = p.kind; length = p.length; own = p.own }

abbrev pub aimed_place : ℕ → Sense → Result Place Refusal
aimed_place at (s.Cells k length) = Ok (record { pointee = None; kind = k; length = length; own = None })
aimed_place at (s.Combined c k length) = if c.own then Ok (record { pointee = c.pointee; kind = k; length = length; own = Some c.operation }) else Err (at, why.Combined)
aimed_place at s.Nothing = Err (at, why.Unknown)
aimed_place at (s.Constant n k) = Err (at, why.Constant)
aimed_place at (s.Turn k) = Err (at, why.LoopVariable)
aimed_place at s.Begins = Err (at, why.LoopVariable)
aimed_place at (s.Pointer x p) = Err (at, why.Pointer)
aimed_place at (s.Function i) = Err (at, why.Function)

-- no open group combines by a pointer over an array's cell that is assigned to
abbrev pub free : Around → ℕ → Name → Option E → Result (Unit {0}) Refusal
free a at x None = Ok tt
free a at x (Some i) = is_run_untouched a at x i

-- whether it is a cell of which the task has a copy, or is an array's or a variable's own
abbrev pub is_copied_by : Around → Name → Option Operation → Option ℕ → Option E → Bool
is_copied_by a x None length index = true
is_copied_by a x (Some op) length None = true
is_copied_by a x (Some op) length (Some i) = has_copy a x length i

abbrev pub is_copied : Around → Name → Place → Option E → Bool
is_copied a x p index = is_copied_by a x p.own p.length index

abbrev pub assigned_cell : Around → ℕ → Name → Place → Option E → Option Pointee → Stated
assigned_cell a at x p index None = free a at x index >>= λ u. if is_copied a x p index then own_cell a at x p.length index else Err (at, why.Combined)
assigned_cell a at x p index (Some cell) = pointed_cell a at cell index

-- the cell that is assigned to
abbrev pub cell_aimed : Around → Aim → Place → Stated
cell_aimed a t p = assigned_cell a t.left t.array p t.index p.pointee

-- ---- folds

-- `["fold", op, cell, value]`
abbrev pub fold : Operation → Data → Data → Data
fold op cell d = form (codes "fold") (string (operation_word op) ∷ cell ∷ d ∷ [])

-- a value, or where it is taken away the same below zero
abbrev pub taken_away : Bool → Data → Data
taken_away minus d = if minus then form (codes "-") (nat 0 ∷ d ∷ []) else d

abbrev pub may_fold : Option Operation → Operation → Bool
may_fold None op = true
may_fold (Some own) op = is_same_operation own op

-- by which operation, if by any, and whether a value is taken away
abbrev pub Folds : Type 0
Folds = Option Operation × Bool

abbrev pub change_by : Around → ℕ → Option Operation → IntegerType → Data → Option Operation → Bool → E → Stated
change_by a at own k cell None minus e = Err (at, why.OwnCopy)
change_by a at own k cell (Some op) minus e = if may_fold own op then (value_changed a k op minus e >>= λ d. Ok (fold op cell (taken_away minus d))) else Err (at, why.OwnCopy)

-- `cell op= value`, of a cell of type k
abbrev pub changed_cell : Around → ℕ → Option Operation → IntegerType → Data → Folds → E → Stated
changed_cell a at own k cell folds e = change_by a at own k cell folds.0 folds.1 e

-- whether two places are the same number, or the same name
unfoldable pub same_place : E → E → Bool
same_place (Literal l i j) (Literal m k h) = i == k
same_place (Variable l (n.Other i)) (Variable m (n.Other j)) = i == j
same_place e f = false

unfoldable pub is_target_by : Name → Option E → E → Bool
is_target_by (n.Other i) None (Variable l (n.Other j)) = i == j
is_target_by (n.Other i) (Some p) (CellAt l (n.Other j) q) = i == j && same_place p q
is_target_by x index e = false

-- whether a value is what is assigned to
abbrev pub is_target : Aim → E → Bool
is_target t e = is_target_by t.array t.index e

-- `x = x op e`, `x = min(x, e)` or `x = max(x, e)`, where a task has a copy of x of its own
abbrev pub own_set : Around → ℕ → Operation → IntegerType → Data → Aim → E → Stated
own_set a at own k cell t (Apply l sign e f) = if is_target t e then changed_cell a at (Some own) k cell (folding_sign sign, is_minus sign) f else Err (at, why.OwnCopy)
own_set a at own k cell t (Called l call e f) = if is_target t e then changed_cell a at (Some own) k cell (Some (call_fold call), false) f else Err (at, why.OwnCopy)
own_set a at own k cell t (Literal l n j) = Err (at, why.OwnCopy)
own_set a at own k cell t (Variable l y) = Err (at, why.OwnCopy)
own_set a at own k cell t (CellAt l y i) = Err (at, why.OwnCopy)
own_set a at own k cell t (Unsigned e) = Err (at, why.OwnCopy)
own_set a at own k cell t (Signed l sign e) = Err (at, why.OwnCopy)
own_set a at own k cell t (Choose l t0 e f) = Err (at, why.OwnCopy)

-- `x = min(x, e)` or `x = max(x, e)` of a `uint64_t`: by which operation e is folded into x
unfoldable pub called_fold : IntegerType → Aim → E → Option (Operation × E)
called_fold k t (Called l call e f) = if is_word k && is_target t e then Some (call_fold call, f) else None
called_fold k t e = None

abbrev pub set_by : Around → IntegerType → Data → Aim → E → Option (Operation × E) → Stated
set_by a k cell t e None = value_assigned a k e >>= λ d. Ok (form (codes "set") (cell ∷ d ∷ []))
set_by a k cell t e (Some x) = changed_cell a t.left None k cell (Some x.0, false) x.1

-- `cell = value`, of a cell of type k
abbrev pub set_cell_form : Around → IntegerType → Data → Aim → E → Stated
set_cell_form a k cell t e = set_by a k cell t e (called_fold k t e)

abbrev pub assignment_by : Around → ℕ → Option Operation → IntegerType → Data → Aim → Option Sign → E → Stated
assignment_by a at own k cell t (Some sign) e = changed_cell a at own k cell (folding_sign sign, is_minus sign) e
assignment_by a at None k cell t None e = set_cell_form a k cell t e
assignment_by a at (Some own) k cell t None e = own_set a at own k cell t e

-- an assignment
abbrev pub assignment : Around → Aim → Option Sign → E → Stated
assignment a t sign e = aimed_place t.left (sense a t.array) >>= λ p. cell_aimed a t p >>= λ cell. assignment_by a t.left p.own p.kind cell t sign e
