-- Sizes: places in arrays, and bounds of loops.
use Rattle.std.specs.Prelude.{ℕ, List, [], ◌∷◌, Option, Some, None, Result, Ok, Err, codes}
use Rattle.serde_json.specs.Data.{Data, string}
use Rattle.ot_c_words.specs.declared.word.IntegerType.{IntegerType}
use Rattle.ot_c_words.specs.declared.word.IntegerType.TheVariants.{UnsignedLong}
use Rattle.ot_c_words.specs.declared.word.Name.{Name}
use Rattle.ot_c_expressions.specs.declared.sign.Sign.{Sign}
use Rattle.ot_c_expressions.specs.declared.sign.Sign.TheVariants as o
use Rattle.ot_c_expressions.specs.Tree.{E, Literal, Variable, CellAt, Unsigned, Signed, Called, Apply, Choose}
use Rattle.ot_c_scope.specs.declared.reason.Reason.{Reason}
use Rattle.ot_c_scope.specs.declared.reason.Reason.TheVariants as why
use Rattle.ot_c_scope.specs.declared.scope.Sense.{Sense}
use Rattle.ot_c_scope.specs.declared.scope.Sense.TheVariants as s
use Rattle.ot_c_scope.specs.Constants.{Typed, constant}
use Rattle.ot_c_scope.specs.Constants as constants
use Rattle.ot_c_scope.specs.Forms.{nat, form}
use Rattle.ot_c_scope.specs.Kinds.{kind_joined}
use Rattle.ot_c_scope.specs.Results.{Refusal, ◌>>=◌}
use Rattle.ot_c_scope.specs.Scopes.{Around, sense, name_text}

-- a size, with the type that it has in C
abbrev pub Sized : Type 0
Sized = Result (Data × IntegerType) Refusal

-- why a name is no number
abbrev pub no_number : Sense → Reason
no_number s.Nothing = why.Unknown
no_number (s.Constant n k) = why.Unknown
no_number (s.Turn k) = why.Unknown
no_number s.Begins = why.OwnBound
no_number (s.Cells k (Some n)) = why.WholeArray
no_number (s.Cells k None) = why.NoSize
no_number (s.Combined c k length) = why.Combined
no_number (s.Pointer x p) = why.Pointer
no_number (s.Function i) = why.Function

abbrev pub name_size_by : ℕ → List ℕ → Sense → Sized
name_size_by at name (s.Constant n k) = Ok (nat n, k)
name_size_by at name (s.Turn k) = Ok (string name, k)
name_size_by at name s.Nothing = Err (at, why.Unknown)
name_size_by at name s.Begins = Err (at, why.OwnBound)
name_size_by at name (s.Cells k (Some n)) = Err (at, why.WholeArray)
name_size_by at name (s.Cells k None) = Err (at, why.NoSize)
name_size_by at name (s.Combined c k length) = Err (at, why.Combined)
name_size_by at name (s.Pointer x p) = Err (at, why.Pointer)
name_size_by at name (s.Function i) = Err (at, why.Function)

-- the number of a constant, or a loop's variable
abbrev pub name_size : Around → ℕ → Name → Sized
name_size a at x = name_size_by at (name_text a x) (sense a x)

abbrev pub size_word : Sign → Option (List ℕ)
size_word o.Plus = Some (codes "+")
size_word o.Minus = Some (codes "-")
size_word o.Times = Some (codes "*")
size_word o.Or = None
size_word o.Xor = None
size_word o.And = None
size_word o.Equal = None
size_word o.Less = None
size_word o.Rest = None
size_word o.Either = None
size_word o.Both = None
size_word o.Unequal = None
size_word o.More = None
size_word o.AtMost = None
size_word o.AtLeast = None
size_word o.ShiftLeft = None
size_word o.ShiftRight = None
size_word o.Over = None

abbrev pub size_known : ℕ → Option Typed → Sized
size_known at None = Err (at, why.NoSize)
size_known at (Some x) = Ok (nat x.0, x.1)

-- two sizes with a sign between, or the constant that the two are
abbrev pub both_sizes : ℕ → Option (List ℕ) → Sized → Sized → Option Typed → Sized
both_sizes at None one two constant = size_known at constant
both_sizes at (Some word) one two constant = one >>= λ x. two >>= λ y. Ok (form word (x.0 ∷ y.0 ∷ []), kind_joined x.1 y.1)

-- numbers and loop variables, + - * of these, and / % << >> of numbers
unfoldable pub size : Around → E → Sized
size a (Literal l n k) = Ok (nat n, k)
size a (Variable l x) = name_size a l x
size a (CellAt l x i) = Err (l, why.NoSize)
size a (Unsigned e) = size a e >>= λ x. Ok (x.0, UnsignedLong)
size a (Called l c x y) = Err (l, why.NoSize)
size a (Signed l sign e) = Err (l, why.NoSize)
size a (Choose l t x y) = Err (l, why.NoSize)
size a (Apply l sign x y) = both_sizes l (size_word sign) (size a x) (size a y) (constants.both sign (constant a x) (constant a y))
