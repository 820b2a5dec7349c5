-- Items of clauses as sections of arrays (OpenMP API 5.2, sections 3.2.4 and 3.2.6).
use Rattle.std.specs.Prelude.{ℕ, ◌==◌, ◌-◌, Bool, false, ◌&&◌, [], ◌∷◌, Option, Some, None, Result, Ok, Err, codes, if◌then◌else◌}
use Rattle.serde_json.specs.Data.{Data, string}
use Rattle.ot_c_overlap.specs.Items.{is_difference}
use Rattle.ot_c_words.specs.declared.word.Name.{Name}
use Rattle.ot_c_words.specs.declared.word.Name.TheVariants as n
use Rattle.ot_c_expressions.specs.Tree.{Literal, Variable, Part, Whole, Cells, Entry, Span}
use Rattle.ot_c_scope.specs.declared.reason.Reason.{Reason}
use Rattle.ot_c_scope.specs.declared.reason.Reason.TheVariants as why
use Rattle.ot_c_scope.specs.declared.scope.Pointee.{Pointee}
use Rattle.ot_c_scope.specs.declared.scope.Sense.{Sense}
use Rattle.ot_c_scope.specs.declared.scope.Sense.TheVariants as s
use Rattle.ot_c_scope.specs.Constants.{Typed, constant}
use Rattle.ot_c_scope.specs.Forms.{nat, form, list_form}
use Rattle.ot_c_scope.specs.Results.{Refusal, ◌>>=◌}
use Rattle.ot_c_scope.specs.Scopes.{Around, Run, sense, name_text, array_text}
use Rattle.ot_c_scope.specs.Sizes.{size}
use Rattle.ot_c_scope.specs.Runs.{run_by}

abbrev pub Sectioned : Type 0
Sectioned = Result Data Refusal

-- why a name has no cells that a clause names
abbrev pub no_cells : Sense → Reason
no_cells s.Nothing = why.Unknown
no_cells (s.Constant n k) = why.Constant
no_cells (s.Turn k) = why.LoopVariable
no_cells s.Begins = why.LoopVariable
no_cells (s.Cells k length) = why.Combined
no_cells (s.Combined o k length) = why.Combined
no_cells (s.Pointer x p) = why.Pointer
no_cells (s.Function i) = why.Function

-- how many cells an array has
abbrev pub count_of : Option ℕ → ℕ
count_of (Some n) = n
count_of None = 1

-- `[name, first, count]`
abbrev pub section_row : Around → Name → Data → Data → Data
section_row a x first count = list_form (string (name_text a x) ∷ first ∷ count ∷ [])

-- the first cell from a pointer on, and no other
unfoldable pub is_only : Part → Bool
is_only (Cells (Literal h n j) (Literal l m k)) = n == 0 && m == 1
is_only p = false

-- the cell that a pointer points to
abbrev pub cell_pointed_at : Around → ℕ → Pointee → Part → Sectioned
cell_pointed_at a at cell p = if is_only p then Ok (list_form (string (array_text a.names cell.array) ∷ nat cell.place ∷ nat 1 ∷ [])) else Err (at, why.Pointee)

-- how many cells an item has that no iterator counts: never a difference, which says that one does (`Items.is_iterated` of `ot_c_overlap`)
abbrev pub plain : Data → Data
plain d = if is_difference d then form (codes "+") (d ∷ nat 0 ∷ []) else d

-- a part of what has so many cells
abbrev pub part : Around → ℕ → Name → Option ℕ → Part → Sectioned
part a at x length Whole = Ok (section_row a x (nat 0) (nat (count_of length)))
part a at x None (Cells first count) = Err (at, why.NoArray)
part a at x (Some n) (Cells first count) = size a first >>= λ f. size a count >>= λ c. Ok (section_row a x f.0 (plain c.0))

-- whether both are the same name, which means nothing by itself
unfoldable pub same_name : Name → Name → Bool
same_name (n.Other i) (n.Other j) = i == j
same_name x y = false

-- whether an item is one cell, at the place that an iterator counts
unfoldable pub is_counted : Name → Part → Bool
is_counted variable (Cells (Variable h x) (Literal l n k)) = n == 1 && same_name x variable
is_counted variable p = false

-- the cells of an array that an iterator counts, each of which is an item: from a number up to another
abbrev pub iterated_cells : Around → ℕ → Span → Name → Option ℕ → Part → Sectioned
iterated_cells a at over x None p = Err (at, why.Iterator)
iterated_cells a at over x (Some n) p =
    if is_counted over.variable p
    then (size a over.start >>= λ f. size a over.end >>= λ e. Ok (section_row a x f.0 (form (codes "-") (e.0 ∷ f.0 ∷ []))))
    else Err (at, why.Iterator)

abbrev pub part_over : Around → ℕ → Option Span → Name → Option ℕ → Part → Sectioned
part_over a at None x length p = part a at x length p
part_over a at (Some over) x length p = iterated_cells a at over x length p

abbrev pub section_in_sense : Around → ℕ → Option Span → Entry → Sense → Sectioned
section_in_sense a at over item (s.Cells k length) = part_over a at over item.array length item.part
section_in_sense a at over item s.Nothing = Err (at, why.Unknown)
section_in_sense a at over item (s.Constant n k) = Err (at, why.Constant)
section_in_sense a at over item (s.Turn k) = Err (at, why.LoopVariable)
section_in_sense a at over item s.Begins = Err (at, why.LoopVariable)
section_in_sense a at over item (s.Combined o k length) = Err (at, why.Combined)
section_in_sense a at over item (s.Pointer x p) = Err (at, why.Pointer)
section_in_sense a at over item (s.Function i) = Err (at, why.Function)

-- the section that an item names, over which no open group combines; a fault is where its name stands, or in its places
abbrev pub item_section : Around → Option Span → Entry → Sectioned
item_section a over item = section_in_sense a item.left over item (sense a item.array)

-- ---- which cells an item names

abbrev pub run_between : Option Typed → Option Typed → Run
run_between None end = None
run_between (Some first) None = None
run_between (Some first) (Some end) = Some (first.0, end.0 - first.0)

abbrev pub run_of : Around → Option ℕ → Part → Run
run_of a length Whole = Some (0, count_of length)
run_of a length (Cells first count) = run_by (constant a first) (constant a count)

-- so many from a place on, where that is known
abbrev pub run_over : Around → Option Span → Option ℕ → Part → Run
run_over a None length p = run_of a length p
run_over a (Some over) length p = run_between (constant a over.start) (constant a over.end)

abbrev pub sense_length : Sense → Option ℕ
sense_length (s.Cells k length) = length
sense_length s.Nothing = None
sense_length (s.Constant n k) = None
sense_length (s.Turn k) = None
sense_length s.Begins = None
sense_length (s.Combined o k length) = None
sense_length (s.Pointer x p) = None
sense_length (s.Function i) = None

abbrev pub item_run : Around → Option Span → Entry → Run
item_run a over item = run_over a over (sense_length (sense a item.array)) item.part
