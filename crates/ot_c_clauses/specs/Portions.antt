-- The part of an array over which a group combines, and the parts of it that tasks name: where a task takes part, its item has
-- the storage of the group's (OpenMP API 5.2, section 5.5.10).
use Rattle.std.specs.Prelude.{ℕ, ◌==◌, ◌-◌, nat_le, nat_lt, Bool, true, false, not, ◌&&◌, ◌||◌, Option, Some, None}
use denote.Enum.Bare.{sameb}
use Rattle.ot_c_words.specs.contracts.word.IntegerType.{the_type as types}
use Rattle.ot_c_words.specs.declared.word.Name.{Name}
use Rattle.ot_c_expressions.specs.contracts.sign.Sign.{the_type as signs}
use Rattle.ot_c_expressions.specs.contracts.sign.Unary.{the_type as unaries}
use Rattle.ot_c_expressions.specs.contracts.tree.Call.{the_type as calls}
use Rattle.ot_c_expressions.specs.Tree.{E, Literal, Variable, CellAt, Unsigned, Signed, Called, Apply, Choose, Part, Whole, Cells, Entry}
use Rattle.ot_c_scope.specs.declared.scope.Pointee.{Pointee}
use Rattle.ot_c_scope.specs.Constants.{Typed, constant}
use Rattle.ot_c_scope.specs.Runs.{index_run}
use Rattle.ot_c_scope.specs.Scopes.{Around, Run, Extent, portion_of, hides}
use Rattle.ot_c_clauses.specs.Sections.{count_of, run_of, same_name}

-- ---- the same text

-- whether two values are the same, part by part, wherever they stand
unfoldable pub same_value : E → E → Bool
same_value (Literal l i k) (Literal m j h) = i == j && sameb types k h
same_value (Variable l x) (Variable m y) = same_name x y
same_value (CellAt l x i) (CellAt m y j) = same_name x y && same_value i j
same_value (Unsigned e) (Unsigned f) = same_value e f
same_value (Signed l sign e) (Signed m other f) = sameb unaries sign other && same_value e f
same_value (Called l call e f) (Called m other g h) = sameb calls call other && same_value e g && same_value f h
same_value (Apply l sign e f) (Apply m other g h) = sameb signs sign other && same_value e g && same_value f h
same_value (Choose l t e f) (Choose m u g h) = same_value t u && same_value e g && same_value f h
same_value e f = false

abbrev pub same_known : Option Typed → Option Typed → Bool
same_known None y = false
same_known (Some x) None = false
same_known (Some x) (Some y) = x.0 == y.0

-- whether two sizes are one: the same known number, or the same text
abbrev pub same_size : Around → E → E → Bool
same_size a e f = same_known (constant a e) (constant a f) || same_value e f

-- ---- items

abbrev pub same_run : Run → Run → Bool
same_run None r = false
same_run (Some q) None = false
same_run (Some q) (Some r) = (q.0 == r.0) && (q.1 == r.1)

unfoldable pub same_cells : Around → Part → Part → Bool
same_cells a (Cells f c) (Cells g d) = same_size a f g && same_size a c d
same_cells a p q = false

-- Whether a part is the one over which a group combines, of an array of so many cells: the same known cells; or the same text,
-- which says the same where no loop in the group hides one around it.
abbrev pub is_portion : Around → Extent → Option ℕ → Part → Bool
is_portion a x length p = same_run (run_of a length x.part) (run_of a length p) || (same_cells a x.part p && not (hides a.turns x.around))

abbrev pub is_item_by : Around → Option Pointee → Option ℕ → Option Extent → Part → Bool
is_item_by a (Some cell) length x p = true
is_item_by a None length None p = false
is_item_by a None length (Some x) p = is_portion a x length p

-- whether an item is one that a group combines over: an array's part, or a pointer's cell, which is one whole
abbrev pub is_item : Around → Option Pointee × Option ℕ → Entry → Bool
is_item a found item = is_item_by a found.0 found.1 (portion_of a item.array) item.part

-- ---- cells that a task folds into

-- all cells of an array of so many
abbrev pub is_all : Option ℕ → ℕ × ℕ → Bool
is_all length r = (r.0 == 0) && (r.1 == count_of length)

-- these cells are known, and lie in others
abbrev pub is_within : ℕ × ℕ → Run → Bool
is_within r None = false
is_within r (Some s) = nat_le r.0 s.0 && nat_le (s.0 - r.0) r.1 && nat_le s.1 (r.1 - (s.0 - r.0))

abbrev pub lies_in : Option ℕ → Run → Run → Bool
lies_in length None s = false
lies_in length (Some r) s = is_all length r || is_within r s

abbrev pub is_some_count : Option Typed → Bool
is_some_count None = false
is_some_count (Some n) = nat_lt 0 n.0

-- cells begin at this index, of which there are some
unfoldable pub begins_at : Around → Part → E → Bool
begins_at a (Cells f c) i = same_size a f i && is_some_count (constant a c)
begins_at a Whole i = false

-- whether a cell at this index is surely one of the part over which a group combines
abbrev pub is_cell : Around → Extent → Option ℕ → E → Bool
is_cell a x length i = lies_in length (run_of a length x.part) (index_run a i) || (begins_at a x.part i && not (hides a.turns x.around))

abbrev pub is_cell_by : Around → Option Extent → Option ℕ → E → Bool
is_cell_by a None length i = false
is_cell_by a (Some x) length i = is_cell a x length i

-- whether a task has a copy of a cell at this index, where the name of an array of so many cells stands for its copy
abbrev pub has_copy : Around → Name → Option ℕ → E → Bool
has_copy a x length i = is_cell_by a (portion_of a x) length i
