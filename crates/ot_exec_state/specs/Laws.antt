-- Laws of what isn't known: it stands for whatever there may be.
use Rattle.std.specs.Prelude.{◌≡◌, ℕ, Bool, Ok}
use Rattle.ot_exec_code.specs.declared.kind.Kind.{Kind}
use Rattle.ot_exec_code.specs.declared.operation.Operation.{Operation}
use Rattle.ot_exec_state.specs.Values.{is_so, values_combined, value_converted, place_advanced, distance}
use Rattle.ot_exec_state.specs.declared.value.Value.{Value}
use Rattle.ot_exec_state.specs.declared.value.Value.TheVariants.{Number, Pointer, Within, Function, Unknown}

-- the first may stand for the second, of which no less is known
abbrev pub Covers : Value → Value → Type 0
Covers Unknown b = Unit {0}
Covers (Within o f n) (Pointer p k) = o ≡ p
Covers (Within o f n) (Within p g m) = o ≡ p
Covers a b = a ≡ b

-- what an operation gives of values stands for what it gives of those for which they stand
abbrev pub OperationCovers : Type 0
OperationCovers = (op : Operation) (kind : Kind) (a b c d x y : Value) → Covers a c → Covers b d
    → values_combined op kind a b ≡ Ok x → values_combined op kind c d ≡ Ok y → Covers x y

-- so do conversions, places moved on, and distances
abbrev pub ConversionCovers : Type 0
ConversionCovers = (kind : Kind) (a c : Value) → Covers a c → Covers (value_converted kind a) (value_converted kind c)

abbrev pub AdvanceCovers : Type 0
AdvanceCovers = (a b c d : Value) (stride cells : ℕ) → Covers a c → Covers b d → Covers (place_advanced a b stride cells) (place_advanced c d stride cells)

abbrev pub DistanceCovers : Type 0
DistanceCovers = (a b c d : Value) (stride : ℕ) → Covers a c → Covers b d → Covers (distance a b stride) (distance c d stride)

-- and where the answer is how a value is, a branch goes by what stands for it as it goes by the value
abbrev pub BranchCovers : Type 0
BranchCovers = (a c : Value) (answer : Bool) → Covers a c → is_so a (is_so c answer) ≡ is_so c answer
