-- What is assigned to cells, in the types that it has in C (C17, sections 6.5.16.1 and 6.5.16.2).
use Rattle.std.specs.Prelude.{ℕ, Bool, true, false, not, ◌&&◌, ◌||◌, Option, Some, None, Result, Ok, Err, if◌then◌else◌}
use Rattle.serde_json.specs.Data.{Data}
use Rattle.ot_c_words.specs.declared.word.IntegerType.{IntegerType}
use Rattle.ot_c_words.specs.declared.word.IntegerType.TheVariants.{UnsignedLong}
use Rattle.ot_c_expressions.specs.declared.tree.Operation.{Operation}
use Rattle.ot_c_expressions.specs.declared.tree.Operation.TheVariants as o
use Rattle.ot_c_expressions.specs.Tree.{E, left_of}
use Rattle.ot_c_scope.specs.declared.reason.Reason.TheVariants as why
use Rattle.ot_c_scope.specs.Constants.{Typed, constant}
use Rattle.ot_c_scope.specs.Kinds.{kind_joined, holds, is_signed, keeps}
use Rattle.ot_c_scope.specs.Results.{Refusal, ◌>>=◌}
use Rattle.ot_c_scope.specs.Scopes.{Around}
use Rattle.ot_c_meaning.specs.declared.arithmetic.Basic.{Basic}
use Rattle.ot_c_meaning.specs.declared.arithmetic.Basic.TheVariants as op
use Rattle.ot_c_meaning.specs.Arithmetic.{W, agrees, disagrees, result_kind, result_whole, is_counted}
use Rattle.ot_c_meaning.specs.Values.{value}

-- ---- `cell = value`

-- whether a number is known that a type holds
abbrev pub fits : IntegerType → Option Typed → Bool
fits k None = false
fits k (Some x) = holds k x.0

abbrev pub value_put : ℕ → IntegerType → W → Option Typed → Result Data Refusal
value_put at k x known = if keeps k x.kind x.whole || fits k known then Ok x.text else Err (at, why.Conversion)

-- a value, which is the same modulo 2^64 where it is converted to the cell's type k
abbrev pub value_assigned : Around → IntegerType → E → Result Data Refusal
value_assigned a k e = value a e >>= λ x. value_put (left_of e) k x (constant a e)

-- ---- `cell op= value`, which is `cell = cell op value`

abbrev pub Kept : Type 0
Kept = Result (Unit {0}) Refusal

-- what a sign makes in type k is that in the language, and the same where it is converted to the cell's type
abbrev pub kept_in : ℕ → Basic → IntegerType → IntegerType → Bool → Kept
kept_in at basic target k w =
    if agrees basic k w
    then (if keeps target (result_kind basic k) (result_whole basic k w) then Ok tt else Err (at, why.Conversion))
    else Err (at, disagrees basic)

-- `cell op value` is computed in the type in which the two meet
abbrev pub value_kept : ℕ → Basic → IntegerType → W → Kept
value_kept at basic k x = kept_in at basic k (kind_joined k x.kind) (not (is_signed k) && x.whole)

-- `min(cell, value)` and `max(cell, value)` are of two numbers of type `uint64_t`
abbrev pub kept_extreme : ℕ → IntegerType → W → Kept
kept_extreme at k x =
    if is_signed k || not (is_counted x) then Err (at, why.Signed)
    else if keeps k UnsignedLong true then Ok tt
    else Err (at, why.Conversion)

abbrev pub sum : Bool → Basic
sum minus = if minus then op.Minus else op.Plus

abbrev pub value_folded : ℕ → IntegerType → Operation → Bool → W → Kept
value_folded at k o.Plus minus x = value_kept at (sum minus) k x
value_folded at k o.Times minus x = value_kept at op.Times k x
value_folded at k o.And minus x = value_kept at op.And k x
value_folded at k o.Or minus x = value_kept at op.Or k x
value_folded at k o.Xor minus x = value_kept at op.Xor k x
value_folded at k o.Min minus x = kept_extreme at k x
value_folded at k o.Max minus x = kept_extreme at k x

-- what is folded into a cell of type k, or where it is a sum may be taken away from it
abbrev pub value_changed : Around → IntegerType → Operation → Bool → E → Result Data Refusal
value_changed a k f minus e = value a e >>= λ x. value_folded (left_of e) k f minus x >>= λ u. Ok x.text
