-- Values: numbers that a program computes. Each is in the language what it is in C, modulo 2^64.
use Rattle.std.specs.Prelude.{ℕ, Bool, true, false, ◌&&◌, List, [], ◌∷◌, Option, Some, None, Result, Ok, Err, codes, if◌then◌else◌}
use Rattle.serde_json.specs.Data.{Data, string}
use Rattle.ot_c_words.specs.declared.word.IntegerType.{IntegerType}
use Rattle.ot_c_words.specs.declared.word.Name.{Name}
use Rattle.ot_c_expressions.specs.declared.sign.Sign.TheVariants as o
use Rattle.ot_c_expressions.specs.Tree.{E, Literal, Variable, CellAt, Unsigned, Signed, Called, Apply, Choose}
use Rattle.ot_c_scope.specs.declared.reason.Reason.{Reason}
use Rattle.ot_c_scope.specs.declared.reason.Reason.TheVariants as why
use Rattle.ot_c_scope.specs.declared.scope.Sense.{Sense}
use Rattle.ot_c_scope.specs.declared.scope.Sense.TheVariants as s
use Rattle.ot_c_scope.specs.Constants.{both, constant}
use Rattle.ot_c_scope.specs.Forms.{nat, form, list_form}
use Rattle.ot_c_scope.specs.Results.{Refusal, ◌>>=◌}
use Rattle.ot_c_scope.specs.Runs.{is_run_untouched}
use Rattle.ot_c_scope.specs.Scopes.{Around, sense, name_text}
use Rattle.ot_c_scope.specs.Sizes.{size}
use Rattle.ot_c_meaning.specs.Arithmetic.{W, Valued, word_value, whole, held_value, way_of, sign_value, has_rest, by_way, choice_of, value_of_call}

-- ---- names and cells

-- why a name has no cells that are read or written
abbrev pub no_array : Sense → Reason
no_array s.Nothing = why.Unknown
no_array (s.Combined c k length) = why.Combined
no_array (s.Pointer x p) = why.Pointer
no_array (s.Constant n k) = why.NoArray
no_array (s.Turn k) = why.NoArray
no_array s.Begins = why.NoArray
no_array (s.Cells k length) = why.NoArray
no_array (s.Function i) = why.NoArray

-- the name of an array, and its cells' type
abbrev pub Row : Type 0
Row = Data × IntegerType

abbrev pub array_by : ℕ → List ℕ → Sense → Result Row Refusal
array_by at name (s.Cells k (Some n)) = Ok (string name, k)
array_by at name (s.Cells k None) = Err (at, why.NoArray)
array_by at name s.Nothing = Err (at, why.Unknown)
array_by at name (s.Combined c k length) = Err (at, why.Combined)
array_by at name (s.Pointer x p) = Err (at, why.Pointer)
array_by at name (s.Constant n k) = Err (at, why.NoArray)
array_by at name (s.Turn k) = Err (at, why.NoArray)
array_by at name s.Begins = Err (at, why.NoArray)
array_by at name (s.Function i) = Err (at, why.NoArray)

-- of an array over which no open group combines
abbrev pub array_name : Around → ℕ → Name → Result Row Refusal
array_name a at x = array_by at (name_text a x) (sense a x)

-- `a[size]`
abbrev pub cell : Around → ℕ → Name → E → Valued
cell a at x i = array_name a at x >>= λ r. size a i >>= λ p. Ok (held_value (form (codes "c") (r.0 ∷ p.0 ∷ [])) r.1)

-- the only cell of a variable
abbrev pub only_cell : List ℕ → Data
only_cell name = form (codes "c") (string name ∷ nat 0 ∷ [])

abbrev pub name_value_by : ℕ → List ℕ → Sense → Valued
name_value_by at name (s.Constant n k) = Ok (whole (nat n) k)
name_value_by at name (s.Turn k) = Ok (whole (string name) k)
name_value_by at name (s.Cells k None) = Ok (held_value (only_cell name) k)
name_value_by at name (s.Cells k (Some n)) = Err (at, why.WholeArray)
name_value_by at name s.Nothing = Err (at, why.Unknown)
name_value_by at name s.Begins = Err (at, why.OwnBound)
name_value_by at name (s.Combined c k length) = Err (at, why.Combined)
name_value_by at name (s.Pointer x p) = Err (at, why.Pointer)
name_value_by at name (s.Function i) = Err (at, why.Function)

-- a constant, a loop's variable, or a variable
abbrev pub name_value : Around → ℕ → Name → Valued
name_value a at x = name_value_by at (name_text a x) (sense a x)

-- ---- values

-- `a[first + value % count]`
abbrev pub pick_value : ℕ → Row → Data → Data × IntegerType → W → Valued
pick_value at r first count x = if has_rest x count.1 then Ok (held_value (form (codes "pick") (list_form (r.0 ∷ first ∷ count.0 ∷ []) ∷ x.text ∷ [])) r.1) else Err (at, why.Signed)

abbrev pub pick : Around → ℕ → Row → Data → Valued → E → Valued
pick a at r first chosen count = size a count >>= λ n. chosen >>= λ x. pick_value at r first n x

abbrev pub sum_value : Around → Row → Data → E → Valued
sum_value a r first more = size a more >>= λ m. Ok (held_value (form (codes "c") (r.0 ∷ form (codes "+") (first ∷ m.0 ∷ []) ∷ [])) r.1)

-- whether a name is no cell
abbrev pub is_no_cell : Sense → Bool
is_no_cell s.Nothing = true
is_no_cell (s.Constant n k) = true
is_no_cell (s.Turn k) = true
is_no_cell s.Begins = true
is_no_cell (s.Cells k length) = false
is_no_cell (s.Combined c k length) = true
is_no_cell (s.Pointer x p) = true
is_no_cell (s.Function i) = true

-- whether a value reads no cell, and makes no choice: then it is the same whether C computes it or leaves it out
unfoldable pub is_settled : Around → E → Bool
is_settled a (Literal l n k) = true
is_settled a (Variable l x) = is_no_cell (sense a x)
is_settled a (CellAt l x i) = false
is_settled a (Unsigned e) = is_settled a e
is_settled a (Signed l sign e) = is_settled a e
is_settled a (Called l f x y) = is_settled a x && is_settled a y
is_settled a (Apply l sign x y) = is_settled a x && is_settled a y
is_settled a (Choose l t x y) = false

unfoldable mutual
  pub value : Around → E → Valued
  value a (Literal l n k) = Ok (whole (nat n) k)
  value a (Variable l x) = name_value a l x
  value a (CellAt l x i) = is_run_untouched a l x i >>= λ u. indexed_value a l x i
  value a (Unsigned e) = value a e >>= λ x. Ok (word_value x.text)
  value a (Signed l sign e) = value a e >>= λ x. sign_value l sign x
  value a (Choose l t x y) = choice_of l (value a t) (value a x) (value a y) (is_settled a x && is_settled a y)
  value a (Called l f x y) = value_of_call l f (value a x) (value a y)
  value a (Apply l sign x y) = by_way l (way_of sign) (value a x) (value a y) (constant a y) (both sign (constant a x) (constant a y)) (is_settled a y)

  -- a place in an array whose name stands there: a value `%` a size, alone or behind a size and `+`; or a size
  pub indexed_value : Around → ℕ → Name → E → Valued
  indexed_value a at x (Apply l o.Rest chosen count) = array_name a at x >>= λ r. pick a l r (nat 0) (value a chosen) count
  indexed_value a at x (Apply l o.Plus first more) = array_name a at x >>= λ r. size a first >>= λ f. pick_behind a r f.0 more
  indexed_value a at x i = cell a at x i

  pub pick_behind : Around → Row → Data → E → Valued
  pick_behind a r first (Apply l o.Rest chosen count) = pick a l r first (value a chosen) count
  pick_behind a r first more = sum_value a r first more
