-- The C of values. All is computed in unsigned numbers of 64 bits.
use Rattle.std.specs.Prelude.{ℕ, Bool, true, false, if◌then◌else◌, List, [], ◌∷◌, ◌++◌, Option, Some, None, codes, zero, suc, ◌+◌, nat_lt, decimal, ◌==◌}
use Rattle.ot_model.specs.Cells.{is_before, same_cell, mode_in, same_mode}
use Rattle.ot_model.specs.declared.expr.Cell.{Cell}
use Rattle.ot_model.specs.declared.fold.Fold.{Fold as Operation}
use Rattle.ot_model.specs.declared.stmt.Mode.{Mode}
use Rattle.ot_model.specs.declared.stmt.Mode.TheVariants as m
use Rattle.ot_model.specs.declared.stmt.Use.{Use}
use Rattle.ot_model.specs.Tree.{E, S, Set, Fold, If, Task, Wait, Group, Body, End, Next, Literal, CellAt, Apply, PickFrom}
use Rattle.ot_model.specs.Signs.{is_called, fold_sign, identifier, is_call, sign}
use Rattle.ot_show_print.specs.Shown.{Text, cell, name, cells_in, sections_of, as_side}
use Rattle.ot_model.specs.declared.expr.Section.{Section}
use Rattle.ot_model.specs.declared.fold.Fold.TheVariants as f
use Rattle.ot_model.specs.declared.expr.Op.{Op}
use Rattle.ot_model.specs.declared.expr.Op.TheVariants as o

-- what a constant alone, or beside unsigned numbers, has behind it: a signed number can't hold each
abbrev pub suffix : ℕ → Text
suffix n = if nat_lt 9223372036854775807 n then codes "ULL" else []

abbrev pub constant : ℕ → Text
constant n = decimal n ++ suffix n

abbrev pub is_comparison : Op → Bool
is_comparison o.Less = true
is_comparison o.Equal = true
is_comparison _ = false

-- whether a value is an `int` in C
abbrev pub is_int : E → Bool
is_int (Apply op a b) = is_comparison op
is_int _ = false

-- a value's text as a side of an operation
abbrev pub as_operand : E → Text → Text
as_operand e t = if is_int e then codes "(uint64_t)(" ++ t ++ codes ")" else as_side e t

abbrev pub is_number : E → Bool
is_number (Literal n) = true
is_number _ = false

-- a value's text before a sign: of two constants the first is made unsigned
abbrev pub as_left : E → E → Text → Text
as_left (Literal n) b t = if is_number b then decimal n ++ codes "ULL" else t
as_left a b t = as_operand a t

-- the first cell of a section, where it isn't the array's own first
abbrev pub first_offset : ℕ → Text
first_offset start = if start == 0 then [] else decimal start ++ codes " + "

abbrev pub c_value : List Text → E → Text
c_value names (Literal n) = constant n
c_value names (CellAt c) = cell names c
c_value names (Apply op a b) = if is_call op then sign op ++ c_value names a ++ codes ", " ++ c_value names b ++ codes ")" else as_left a b (c_value names a) ++ sign op ++ as_operand b (c_value names b)
c_value names (PickFrom s e) = name names s.array ++ codes "[" ++ first_offset s.start ++ as_operand e (c_value names e) ++ codes " % " ++ decimal s.len ++ codes "]"

abbrev pub operand : List Text → E → Text
operand names e = as_operand e (c_value names e)

abbrev pub left_side : List Text → E → E → Text
left_side names a b = as_left a b (c_value names a)

-- The C of clauses: dependences (OpenMP API 5.2, section 15.9.5) and reductions (5.5.9 and 5.5.10).

-- a cell behind words
abbrev pub item : List Text → Text → ℕ → ℕ → Text
item names before a i = before ++ cell names (record { array = a; index = i })

-- so many cells of an array from a place on, each an item: words before the first, commas between
abbrev pub item_row : List Text → Text → ℕ → ℕ → ℕ → Text
item_row names before a i zero = []
item_row names before a i (suc n) = item names before a i ++ item_row names (codes ", ") a (i + 1) n

-- the cells of sections, each an item
abbrev pub items : List Text → Text → List Section → Text
items names before [] = []
items names before (s ∷ ss) = item_row names before s.array s.start s.len ++ items names (codes ", ") ss

-- more than 8 cells side by side are told by an iterator
abbrev pub is_long : Section → Bool
is_long s = nat_lt 8 s.len

abbrev pub short : List Section → List Section
short [] = []
short (s ∷ ss) = if is_long s then short ss else s ∷ short ss

-- a clause that lists cells, if there are any
abbrev pub list_clause : List Text → Text → Text → List Section → Text
list_clause names opened kind [] = []
list_clause names opened kind (s ∷ ss) = opened ++ kind ++ items names (codes ": ") (s ∷ ss) ++ codes ")"

-- a clause with an iterator
abbrev pub iterator_clause : List Text → Text → Text → Section → Text
iterator_clause names opened kind s = opened ++ decimal s.start ++ codes ":" ++ decimal (s.start + s.len) ++ codes "), " ++ kind ++ codes ": " ++ name names s.array ++ codes "[at])"

-- one for each long section
abbrev pub iterations : List Text → Text → Text → List Section → Text
iterations names opened kind [] = []
iterations names opened kind (s ∷ ss) = (if is_long s then iterator_clause names opened kind s else []) ++ iterations names opened kind ss

-- the dependences over the cells that are declared in a mode
abbrev pub c_dependences : List Text → Text → List Use → Mode → Text
c_dependences names kind us mode = list_clause names (codes " depend(") kind (short (sections_of (cells_in us mode))) ++ iterations names (codes " depend(iterator(at = ") kind (sections_of (cells_in us mode))

-- what the name of a pointer begins with over which a cell is reduced
abbrev pub pointer_word : Operation → Text
pointer_word f.Plus = codes "Sum_"
pointer_word f.Times = codes "Product_"
pointer_word f.And = codes "And_"
pointer_word f.Or = codes "Or_"
pointer_word f.Xor = codes "Xor_"
pointer_word f.Min = codes "Min_"
pointer_word f.Max = codes "Max_"

abbrev pub pointer : List Text → Operation → Cell → Text
pointer names op c = pointer_word op ++ name names c.array ++ codes "_" ++ decimal c.index

-- what the pointers point to, each an item: words before the first, commas between
abbrev pub pointer_items : List Text → Text → Operation → List Cell → Text
pointer_items names before op [] = []
pointer_items names before op (c ∷ cs) = before ++ pointer names op c ++ codes "[0:1]" ++ pointer_items names (codes ", ") op cs

-- a clause of a reduction, if there are any cells
abbrev pub c_reduction : List Text → Text → Operation → List Cell → Text
c_reduction names opened op [] = []
c_reduction names opened op (c ∷ cs) = opened ++ identifier op ++ pointer_items names (codes ": ") op (c ∷ cs) ++ codes ")"

-- the cells that are folded by an operation: `in_reduction` makes no task wait, so they are items of `depend` too
abbrev pub fold_clauses : List Text → List Use → Operation → Text
fold_clauses names us op = c_dependences names (codes "in") us (m.Folds op) ++ c_reduction names (codes " in_reduction(") op (cells_in us (m.Folds op))

-- the clauses of a task, or of a wait
abbrev pub c_clauses : List Text → List Use → Text
c_clauses names us = c_dependences names (codes "in") us m.Reads ++ c_dependences names (codes "out") us m.Writes ++ fold_clauses names us f.Plus ++ fold_clauses names us f.Times ++ fold_clauses names us f.And ++ fold_clauses names us f.Or ++ fold_clauses names us f.Xor ++ fold_clauses names us f.Min ++ fold_clauses names us f.Max

-- The C of statements and bodies, behind a margin of white space.

-- ---- folds

abbrev pub is_mode : Option Mode → Mode → Bool
is_mode None mode = false
is_mode (Some n) mode = same_mode n mode

-- whether a task of this declaration only folds into the cell, by the operation
abbrev pub only_folds : List Use → Operation → Cell → Bool
only_folds own op c = is_mode (mode_in own c) (m.Folds op)

-- what is folded into: the task's own copy where it only folds, else the cell
abbrev pub target : List Text → List Use → Operation → Cell → Text
target names own op c = if only_folds own op c then pointer names op c ++ codes "[0]" else cell names c

abbrev pub c_fold : List Text → List Use → Operation → Cell → E → Text
c_fold names own op c e = if is_called op then target names own op c ++ codes " = " ++ fold_sign op ++ target names own op c ++ codes ", " ++ c_value names e ++ codes ");\n" else target names own op c ++ fold_sign op ++ c_value names e ++ codes ";\n"

-- ---- lines

abbrev pub line : Text → Text → Text
line margin words = margin ++ words ++ codes "\n"

abbrev pub deeper : Text → Text
deeper margin = margin ++ codes "    "

-- a block around a text
abbrev pub block : Text → Text → Text
block margin inside = line margin (codes "{") ++ inside ++ line margin (codes "}")

abbrev pub set_text : List Text → Text → Cell → E → Text
set_text names margin c e = margin ++ cell names c ++ codes " = " ++ c_value names e ++ codes ";\n"

abbrev pub c_condition : List Text → Text → E → Text
c_condition names margin e = margin ++ codes "if (" ++ c_value names e ++ codes ") {\n"

abbrev pub is_end : Body → Bool
is_end End = true
is_end (Next s rest) = false

-- the second body of an `if`, of this text, where it isn't empty
abbrev pub otherwise : Text → Body → Text → Text
otherwise margin b inside = if is_end b then [] else line margin (codes "} else {") ++ inside

-- a task or a wait, with what it declares
abbrev pub directive : List Text → Text → Text → List Use → Text
directive names margin words us = margin ++ words ++ c_clauses names us ++ codes "\n"

-- a wait that declares no cell awaits nobody: nothing stands for it
abbrev pub wait_for : List Text → Text → List Use → Text
wait_for names margin [] = []
wait_for names margin (u ∷ us) = directive names margin (codes "#pragma omp taskwait") (u ∷ us)

-- ---- groups

-- the cell of an array at a place
abbrev pub cell_of_pair : ℕ × ℕ → Cell
cell_of_pair p = record { array = p.0; index = p.1 }

-- a cell in its place among cells in order, once
abbrev pub cell_in_order : List Cell → Cell → List Cell
cell_in_order [] c = c ∷ []
cell_in_order (d ∷ ds) c = if is_before c d then c ∷ d ∷ ds else if same_cell c d then d ∷ ds else d ∷ cell_in_order ds c

abbrev pub put_all : List Cell → List Cell → List Cell
put_all ds [] = ds
put_all ds (c ∷ cs) = put_all (cell_in_order ds c) cs

-- cells in order, each once
abbrev pub each_once : List Cell → List Cell
each_once cs = put_all [] cs

abbrev pub declared_pointer : List Text → Text → Operation → Cell → Text
declared_pointer names margin op c = margin ++ codes "uint64_t *" ++ pointer names op c ++ codes " = &" ++ cell names c ++ codes ";\n"

abbrev pub pointers : List Text → Text → Operation → List Cell → Text
pointers names margin op [] = []
pointers names margin op (c ∷ cs) = declared_pointer names margin op c ++ pointers names margin op cs

-- pointers to the cells that a group reduces, and its first line
abbrev pub reduced_group : List Text → Text → Operation → List Cell → Text
reduced_group names margin op cs = pointers names margin op cs ++ margin ++ codes "#pragma omp taskgroup" ++ c_reduction names (codes " task_reduction(") op cs ++ codes "\n"

-- a group around a body whose text is the one, or one block deeper the other
abbrev pub group_text : List Text → Text → Operation → List Cell → Text → Text → Text
group_text names margin op [] inside deep = line margin (codes "#pragma omp taskgroup") ++ block margin inside
group_text names margin op (c ∷ cs) inside deep = line margin (codes "{") ++ reduced_group names (deeper margin) op (each_once (c ∷ cs)) ++ block (deeper margin) deep ++ line margin (codes "}")

-- ---- statements in the body of a task with this declaration

abbrev mutual
  pub c_statement : List Text → Text → List Use → S → Text
  c_statement names margin own (Set c e) = set_text names margin c e
  c_statement names margin own (Fold op c e) = margin ++ c_fold names own op c e
  c_statement names margin own (If e a b) = c_condition names margin e ++ body names (deeper margin) own a ++ otherwise margin b (body names (deeper margin) own b) ++ line margin (codes "}")
  c_statement names margin own (Task us b) = directive names margin (codes "#pragma omp task") us ++ block margin (body names (deeper margin) us b)
  c_statement names margin own (Wait None) = line margin (codes "#pragma omp taskwait")
  c_statement names margin own (Wait (Some us)) = wait_for names margin us
  c_statement names margin own (Group op cs b) = group_text names margin op cs (body names (deeper margin) own b) (body names (deeper (deeper margin)) own b)

  pub body : List Text → Text → List Use → Body → Text
  body names margin own End = []
  body names margin own (Next s rest) = c_statement names margin own s ++ body names margin own rest
