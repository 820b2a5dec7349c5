-- Variables: the names that the `for`s around a statement bind.
use Rattle.ot_program.specs.Limits.{max_depth, size_depth}
use Rattle.ot_program.specs.Meanings.{Bindings, whole_number, number_bound, is_name}
use Rattle.ot_program.specs.walk.Reading.{◌>>=◌, both_of}
use Rattle.ot_program.specs.declared.fault.Refusal.TheVariants.{Form, Size, TooLarge}
use Rattle.ot_program.specs.declared.fault.Refusal.{Refusal}
use Rattle.ot_program.specs.declared.size.Sign.TheVariants.{Minus, Plus, Times}
use Rattle.ot_program.specs.declared.size.Sign.{Sign}
use Rattle.serde_json.specs.Data.{Data, array, no_items, item, number, string}
use Rattle.std.specs.Prelude.{ℕ, List, bytes_eq, codes, Option, Some, None, Result, Ok, Err, if◌then◌else◌, ◌+◌, nat_lt, nat_le, ◌-◌, ◌^◌, ⊤, ◌*◌, [], ◌∷◌}
use Rattle.ot_program.specs.declared.scope.Variables.{Variables}
use Rattle.ot_program.specs.declared.scope.Variables.TheVariants as v

abbrev pub known_number : Option ℕ → Result ℕ Refusal
known_number None = Err Size
known_number (Some n) = Ok n

-- a variable that some `for` around binds
abbrev pub variable_of : Bindings → List ℕ → Result ℕ Refusal
variable_of variables name = if is_name name then known_number (number_bound variables name) else Err Form

-- what the code's chain of variables stands for
abbrev pub bindings_of : Variables → Bindings
bindings_of v.None = []
bindings_of (v.Bound' variable p outer) = (variable.name.now, variable.number) ∷ bindings_of outer

-- Sizes: numbers, variables and operations, each part of them exact and from 0 to 2^32 - 1.

abbrev pub sign_named : List ℕ → Option Sign
sign_named s =
    if bytes_eq s (codes "+") then Some Plus else
    (if bytes_eq s (codes "-") then Some Minus else
    (if bytes_eq s (codes "*") then Some Times else None))

abbrev pub sign_of : Data → Option Sign
sign_of (string s) = sign_named s
sign_of _ = None

-- a number that fits 32 bits
abbrev pub in_range : ℕ → Result ℕ Refusal
in_range n = if nat_lt n (2 ^ 32) then Ok n else Err Size

abbrev pub number_size : Option ℕ → Result ℕ Refusal
number_size None = Err Form
number_size (Some n) = in_range n

-- the exact result, where there is one in range
abbrev pub exact : Sign → ℕ → ℕ → Result ℕ Refusal
exact Plus a b = in_range (a + b)
exact Minus a b = if nat_le b a then in_range (a - b) else Err Size
exact Times a b = in_range (a * b)

abbrev pub size_operation : Option Sign → Result ℕ Refusal → Result ℕ Refusal → Result ℕ Refusal
size_operation None one two = Err Form
size_operation (Some sign) one two = do
  p ← both_of one two
  exact sign p.0 p.1

-- a number, a variable, or `[op, size, size]`
unfoldable pub size_of : Bindings → Data → Result ℕ Refusal
size_of variables (number n) = number_size (whole_number n)
size_of variables (string s) = variable_of variables s
size_of variables (array (item t (item a (item b no_items)))) =
    size_operation (sign_of t) (size_of variables a) (size_of variables b)
size_of variables _ = Err Form

-- each size is an expression of its own
abbrev pub shallow : Data → Result ⊤ Refusal
shallow d = if nat_le (size_depth d) max_depth then Ok tt else Err TooLarge
