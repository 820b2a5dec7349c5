-- How operations are written: by a word in a program, by a sign in C and in what is printed.
use Rattle.std.specs.Prelude.{ℕ, Bool, true, false, bytes_eq, List, [], ◌∷◌, ◌++◌, find, Option, codes}
use Rattle.ot_model.specs.declared.expr.Op.{Op}
use Rattle.ot_model.specs.declared.expr.Op.TheVariants as o
use Rattle.ot_model.specs.declared.fold.Fold.{Fold}
use Rattle.ot_model.specs.declared.fold.Fold.TheVariants as f

-- an operation's word in a program
abbrev pub word : Op → List ℕ
word o.Plus = codes "+"
word o.Minus = codes "-"
word o.Times = codes "*"
word o.And = codes "&"
word o.Or = codes "|"
word o.Xor = codes "^"
word o.Less = codes "<"
word o.Equal = codes "="
word o.Min = codes "min"
word o.Max = codes "max"

abbrev pub operations : List Op
operations = o.Plus ∷ o.Minus ∷ o.Times ∷ o.And ∷ o.Or ∷ o.Xor ∷ o.Less ∷ o.Equal ∷ o.Min ∷ o.Max ∷ []

-- the operation that has a word
abbrev pub op_with : List ℕ → Option Op
op_with text = find (λ op. bytes_eq text (word op)) operations

-- whether an operation is written as a function
abbrev pub is_call : Op → Bool
is_call o.Min = true
is_call o.Max = true
is_call _ = false

-- An operation's sign between its sides, or the beginning of its call. That of equality is C's.
abbrev pub sign : Op → List ℕ
sign o.Min = word o.Min ++ codes "("
sign o.Max = word o.Max ++ codes "("
sign o.Equal = codes " == "
sign op = codes " " ++ word op ++ codes " "

-- the reduction identifier of a fold, which is its word in a program (OpenMP API 5.2, section 5.5.3)
abbrev pub identifier : Fold → List ℕ
identifier f.Plus = codes "+"
identifier f.Times = codes "*"
identifier f.And = codes "&"
identifier f.Or = codes "|"
identifier f.Xor = codes "^"
identifier f.Min = codes "min"
identifier f.Max = codes "max"

abbrev pub folds : List Fold
folds = f.Plus ∷ f.Times ∷ f.And ∷ f.Or ∷ f.Xor ∷ f.Min ∷ f.Max ∷ []

-- the operation of folds that has an identifier
abbrev pub fold_with : List ℕ → Option Fold
fold_with text = find (λ op. bytes_eq text (identifier op)) folds

-- whether a fold by an operation is written as a function
abbrev pub is_called : Fold → Bool
is_called f.Min = true
is_called f.Max = true
is_called _ = false

-- the sign of a fold between its cell and its value, or the beginning of its call
abbrev pub fold_sign : Fold → List ℕ
fold_sign f.Min = identifier f.Min ++ codes "("
fold_sign f.Max = identifier f.Max ++ codes "("
fold_sign op = codes " " ++ identifier op ++ codes "= "
