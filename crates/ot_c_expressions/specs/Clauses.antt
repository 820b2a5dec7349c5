-- The clauses of a directive, from left to right.
use Rattle.std.specs.Prelude.{ℕ, Bool, true, false, List, [], ◌∷◌, ◌++◌, length, Option, Some, None, Result, Ok, Err, if◌then◌else◌}
use Rattle.ot_c_words.specs.Reading.{◌>>=◌, steps, behind_mark, name_at}
use Rattle.ot_c_words.specs.declared.known.Known.TheVariants as k
use Rattle.ot_c_words.specs.declared.mark.Mark.{Mark}
use Rattle.ot_c_words.specs.declared.mark.Mark.TheVariants as m
use Rattle.ot_c_words.specs.declared.word.IntegerType.TheVariants as t
use Rattle.ot_c_words.specs.declared.word.Name.{Name}
use Rattle.ot_c_words.specs.declared.word.Name.TheVariants as n
use Rattle.ot_c_words.specs.declared.word.Word.{Word}
use Rattle.ot_c_words.specs.declared.word.Word.TheVariants as w
use Rattle.ot_c_expressions.specs.declared.clause.Kind.{Kind}
use Rattle.ot_c_expressions.specs.declared.clause.Kind.TheVariants as kind
use Rattle.ot_c_expressions.specs.declared.fault.Fault.{Fault}
use Rattle.ot_c_expressions.specs.declared.fault.Fault.TheVariants.{NoMark, NoName, NoClause, TooLong}
use Rattle.ot_c_expressions.specs.declared.tree.Operation.{Operation}
use Rattle.ot_c_expressions.specs.declared.tree.Operation.TheVariants as o
use Rattle.ot_c_expressions.specs.declared.tree.Role.{Role}
use Rattle.ot_c_expressions.specs.declared.tree.Role.TheVariants as r
use Rattle.ot_c_expressions.specs.Tree.{Literal, Part, Whole, Cells, Entry, Span, Claim}
use Rattle.ot_c_expressions.specs.Reading.{Read, value_at}

-- ---- items

-- `:3]`, or `]` alone, which is one cell
unfoldable pub length_at : List Word → Read
length_at (w.Mark m.Colon ∷ ws) = value_at 72 1 ws >>= λ x. behind_mark NoMark m.CloseIndex x.1 >>= λ rest. Ok (x.0, rest)
length_at ws = behind_mark NoMark m.CloseIndex ws >>= λ rest. Ok (Literal (length ws) 1 t.Int, rest)

-- `[2:3]`, or nothing, which is all of it
unfoldable pub part_at : List Word → Result (Part × List Word) Fault
part_at (w.Mark m.OpenIndex ∷ ws) = value_at 72 1 ws >>= λ x. length_at x.1 >>= λ y. Ok (Cells x.0 y.0, y.1)
part_at ws = Ok (Whole, ws)

-- where a clause has parts of arrays, or else all
abbrev pub part_if : Bool → List Word → Result (Part × List Word) Fault
part_if parts ws = if parts then part_at ws else Ok (Whole, ws)

unfoldable pub item_at : Bool → List Word → Result (Entry × List Word) Fault
item_at parts ws = name_at NoName ws >>= λ a. part_if parts a.1 >>= λ p. Ok (record { left = length ws; array = a.0; part = p.0 }, p.1)

-- behind an item: whether another follows, or the clause ends
unfoldable pub item_end : List Word → Result (Bool × List Word) Fault
item_end (w.Mark m.Comma ∷ ws) = Ok (true, ws)
item_end (w.Mark m.Close ∷ ws) = Ok (false, ws)
item_end ws = Err (NoMark (length ws))

unfoldable pub item_step : Bool → List Entry → List Word → Result (List Entry × Bool × List Word) Fault
item_step parts front ws = item_at parts ws >>= λ x. item_end x.1 >>= λ y. Ok (front ++ x.0 ∷ [], y.0, y.1)

abbrev pub items_at : Bool → List Word → Result (List Entry × List Word) Fault
items_at parts ws = steps TooLong (item_step parts) (length ws) [] ws

-- ---- what a clause says

unfoldable pub role_of : Name → Option Role
role_of (n.Known k.In) = Some r.In
role_of (n.Known k.Out) = Some r.Out
role_of (n.Known k.Inout) = Some r.Inout
role_of _ = None

abbrev pub as_role : List Word → List Word → Option Role → Result (Role × List Word) Fault
as_role ws rest (Some role) = Ok (role, rest)
as_role ws rest None = Err (NoClause (length ws))

-- `in:`
unfoldable pub role_at : List Word → Result (Role × List Word) Fault
role_at (w.Name n ∷ w.Mark m.Colon ∷ ws) = as_role (w.Name n ∷ w.Mark m.Colon ∷ ws) ws (role_of n)
role_at ws = Err (NoClause (length ws))

unfoldable pub mark_operation : Mark → Option Operation
mark_operation m.Plus = Some o.Plus
mark_operation m.Times = Some o.Times
mark_operation m.And = Some o.And
mark_operation m.Or = Some o.Or
mark_operation m.Xor = Some o.Xor
mark_operation _ = None

unfoldable pub name_operation : Name → Option Operation
name_operation (n.Known k.Min) = Some o.Min
name_operation (n.Known k.Max) = Some o.Max
name_operation _ = None

abbrev pub as_operation : List Word → List Word → Option Operation → Result (Operation × List Word) Fault
as_operation ws rest (Some op) = behind_mark NoMark m.Colon rest >>= λ behind. Ok (op, behind)
as_operation ws rest None = Err (NoClause (length ws))

-- `+:`
unfoldable pub operation_at : List Word → Result (Operation × List Word) Fault
operation_at (w.Mark mark ∷ ws) = as_operation (w.Mark mark ∷ ws) ws (mark_operation mark)
operation_at (w.Name n ∷ ws) = as_operation (w.Name n ∷ ws) ws (name_operation n)
operation_at ws = Err (NoClause (length ws))

-- ---- iterators

unfoldable pub is_iterator : Name → Bool
is_iterator (n.Known k.Iterator) = true
is_iterator _ = false

-- behind `iterator`
unfoldable pub iterator_end : List Word → Option (List Word)
iterator_end (w.Name n ∷ ws) = if is_iterator n then Some ws else None
iterator_end _ = None

-- `(i = 2:5),`
unfoldable pub range_at : List Word → Result (Span × List Word) Fault
range_at ws = do
  a ← behind_mark NoMark m.Open ws
  variable ← name_at NoName a
  b ← behind_mark NoMark m.Assign variable.1
  start ← value_at 72 1 b
  c ← behind_mark NoMark m.Colon start.1
  end ← value_at 72 1 c
  d ← behind_mark NoMark m.Close end.1
  rest ← behind_mark NoMark m.Comma d
  Ok (record { variable = variable.0; start = start.0; end = end.0 }, rest)

abbrev pub over : List Word → Option (List Word) → Result (Option Span × List Word) Fault
over ws None = Ok (None, ws)
over ws (Some rest) = range_at rest >>= λ x. Ok (Some x.0, x.1)

-- ---- clauses

-- behind `depend(`
unfoldable pub dependence_at : ℕ → List Word → Result (Claim × List Word) Fault
dependence_at left ws = do
  range ← over ws (iterator_end ws)
  role ← role_at range.1
  items ← items_at true role.1
  Ok (record { left = left; role = role.0; over = range.0; items = items.0 }, items.1)

-- behind `in_reduction(` or `task_reduction(`
unfoldable pub reduction_at : ℕ → (Operation → Role) → List Word → Result (Claim × List Word) Fault
reduction_at left role ws = do
  op ← operation_at ws
  items ← items_at true op.1
  Ok (record { left = left; role = role op.0; over = None; items = items.0 }, items.1)

-- behind `shared(` or `firstprivate(`: names, of which no part
unfoldable pub listing_at : ℕ → Role → List Word → Result (Claim × List Word) Fault
listing_at left role ws = items_at false ws >>= λ items. Ok (record { left = left; role = role; over = None; items = items.0 }, items.1)

-- a clause without items
abbrev pub bare : ℕ → Role → Claim
bare left role = record { left = left; role = role; over = None; items = [] }

-- behind `priority(` or `num_threads(`: a number, which says nothing of cells
unfoldable pub count_at : ℕ → Role → List Word → Result (Claim × List Word) Fault
count_at left role (w.Number n t ∷ w.Mark m.Close ∷ ws) = Ok (bare left role, ws)
count_at left role ws = Err (NoClause (length ws))

unfoldable pub default_of : Name → Option Role
default_of (n.Known k.Shared) = Some r.Default
default_of (n.Known k.None) = Some r.DefaultNone
default_of _ = None

abbrev pub default_by : ℕ → List Word → List Word → Option Role → Result (Claim × List Word) Fault
default_by left ws rest (Some role) = Ok (bare left role, rest)
default_by left ws rest None = Err (NoClause (length ws))

-- behind `default(`
unfoldable pub default_at : ℕ → List Word → Result (Claim × List Word) Fault
default_at left (w.Name n ∷ w.Mark m.Close ∷ ws) = default_by left (w.Name n ∷ w.Mark m.Close ∷ ws) ws (default_of n)
default_at left ws = Err (NoClause (length ws))

unfoldable pub kind_of : Name → Option Kind
kind_of (n.Known k.Depend) = Some kind.Depends
kind_of (n.Known k.InReduction) = Some kind.Reduces
kind_of (n.Known k.TaskReduction) = Some kind.Combines
kind_of (n.Known k.Shared) = Some (kind.Lists r.Shared)
kind_of (n.Known k.Firstprivate) = Some (kind.Lists r.Firstprivate)
kind_of (n.Known k.Priority) = Some (kind.Counts r.Priority)
kind_of (n.Known k.NumThreads) = Some (kind.Counts r.NumThreads)
kind_of (n.Known k.Default) = Some kind.Defaults
kind_of (n.Known k.Untied) = Some (kind.Stands r.Untied)
kind_of (n.Known k.Mergeable) = Some (kind.Stands r.Mergeable)
kind_of _ = None

-- a clause whose name stands where so many words are left, behind its bracket, or behind its name where it has none
abbrev pub clause_in : ℕ → Kind → List Word → Result (Claim × List Word) Fault
clause_in left kind.Depends ws = dependence_at left ws
clause_in left kind.Reduces ws = reduction_at left (λ op. r.Reduces op) ws
clause_in left kind.Combines ws = reduction_at left (λ op. r.Combines op) ws
clause_in left (kind.Lists role) ws = listing_at left role ws
clause_in left (kind.Counts role) ws = count_at left role ws
clause_in left kind.Defaults ws = default_at left ws
clause_in left (kind.Stands role) ws = Ok (bare left role, ws)

unfoldable pub bracket_by : Kind → List Word → Result (List Word) Fault
bracket_by (kind.Stands role) ws = Ok ws
bracket_by _ ws = behind_mark NoMark m.Open ws

-- behind its name
abbrev pub clause_of_kind : ℕ → Kind → List Word → Result (Claim × List Word) Fault
clause_of_kind left kind ws = bracket_by kind ws >>= λ rest. clause_in left kind rest

abbrev pub clause_by : List Word → List Word → Option Kind → Result (Claim × List Word) Fault
clause_by ws rest (Some kind) = clause_of_kind (length ws) kind rest
clause_by ws rest None = Err (NoClause (length ws))

unfoldable pub clause_at : List Word → Result (Claim × List Word) Fault
clause_at (w.Name n ∷ ws) = clause_by (w.Name n ∷ ws) ws (kind_of n)
clause_at ws = Err (NoClause (length ws))

-- what stands behind the end of a directive, where that is at the front
unfoldable pub directive_end : List Word → Option (List Word)
directive_end (w.End ∷ ws) = Some ws
directive_end ws = None

-- behind a comma, if one is at the front
unfoldable pub past_comma : List Word → List Word
past_comma (w.Mark m.Comma ∷ ws) = ws
past_comma ws = ws

-- a comma may stand between two clauses (OpenMP API 5.2, section 3.1)
abbrev pub between : List Claim → List Word → List Word
between [] ws = ws
between (c ∷ cs) ws = past_comma ws

abbrev pub clause_or_end : List Claim → List Word → Option (List Word) → Result (List Claim × Bool × List Word) Fault
clause_or_end front ws (Some rest) = Ok (front, false, rest)
clause_or_end front ws None = clause_at (between front ws) >>= λ x. Ok (front ++ x.0 ∷ [], true, x.1)

unfoldable pub clause_step : List Claim → List Word → Result (List Claim × Bool × List Word) Fault
clause_step front ws = clause_or_end front ws (directive_end ws)

-- the clauses up to the end of the directive
abbrev pub clauses_at : List Word → Result (List Claim × List Word) Fault
clauses_at ws = steps TooLong clause_step (length ws) [] ws
