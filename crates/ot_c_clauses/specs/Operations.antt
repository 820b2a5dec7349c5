-- Operations of folds, and signs of assignments.
use Rattle.std.specs.Prelude.{ℕ, ◌==◌, Bool, true, false, List, Option, Some, None, codes}
use Rattle.ot_c_expressions.specs.declared.sign.Sign.{Sign}
use Rattle.ot_c_expressions.specs.declared.sign.Sign.TheVariants as s
use Rattle.ot_c_expressions.specs.declared.tree.Call.{Call}
use Rattle.ot_c_expressions.specs.declared.tree.Call.TheVariants as c
use Rattle.ot_c_expressions.specs.declared.tree.Operation.{Operation}
use Rattle.ot_c_expressions.specs.declared.tree.Operation.TheVariants as o

abbrev pub operation_word : Operation → List ℕ
operation_word o.Plus = codes "+"
operation_word o.Times = codes "*"
operation_word o.And = codes "&"
operation_word o.Or = codes "|"
operation_word o.Xor = codes "^"
operation_word o.Min = codes "min"
operation_word o.Max = codes "max"

-- by which operation `x op= e` folds; taking away adds
abbrev pub folding_sign : Sign → Option Operation
folding_sign s.Plus = Some o.Plus
folding_sign s.Minus = Some o.Plus
folding_sign s.Times = Some o.Times
folding_sign s.And = Some o.And
folding_sign s.Or = Some o.Or
folding_sign s.Xor = Some o.Xor
folding_sign s.Equal = None
folding_sign s.Less = None
folding_sign s.Rest = None
folding_sign s.Either = None
folding_sign s.Both = None
folding_sign s.Unequal = None
folding_sign s.More = None
folding_sign s.AtMost = None
folding_sign s.AtLeast = None
folding_sign s.ShiftLeft = None
folding_sign s.ShiftRight = None
folding_sign s.Over = None

abbrev pub is_minus : Sign → Bool
is_minus s.Minus = true
is_minus s.Plus = false
is_minus s.Times = false
is_minus s.And = false
is_minus s.Or = false
is_minus s.Xor = false
is_minus s.Equal = false
is_minus s.Less = false
is_minus s.Rest = false
is_minus s.Either = false
is_minus s.Both = false
is_minus s.Unequal = false
is_minus s.More = false
is_minus s.AtMost = false
is_minus s.AtLeast = false
is_minus s.ShiftLeft = false
is_minus s.ShiftRight = false
is_minus s.Over = false

abbrev pub call_fold : Call → Operation
call_fold c.Min = o.Min
call_fold c.Max = o.Max

-- whether it is by which number is greater
abbrev pub is_extreme : Operation → Bool
is_extreme o.Min = true
is_extreme o.Max = true
is_extreme o.Plus = false
is_extreme o.Times = false
is_extreme o.And = false
is_extreme o.Or = false
is_extreme o.Xor = false

abbrev pub operation_rank : Operation → ℕ
operation_rank o.Plus = 0
operation_rank o.Times = 1
operation_rank o.And = 2
operation_rank o.Or = 3
operation_rank o.Xor = 4
operation_rank o.Min = 5
operation_rank o.Max = 6

abbrev pub is_same_operation : Operation → Operation → Bool
is_same_operation a b = operation_rank a == operation_rank b
