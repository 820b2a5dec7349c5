-- The operations of reductions (OpenMP API 5.2, section 5.5.3): what each joins two numbers to, and its unit, which changes
-- none. Sums, products, `&` and the lesser are below 2^64 for all numbers, also for those that no cell can hold, so that a copy
-- which starts at the unit makes no difference whatever is joined, and no law of copies needs a bound.
use Rattle.std.specs.Prelude.{◌≡◌, ℕ, ◌+◌, ◌-◌, ◌*◌, ◌%◌, ◌^◌, ◌<◌, min, max, bit_and, bit_or, bit_xor}
use Rattle.ot_model.specs.declared.fold.Fold.{Fold}
use Rattle.ot_model.specs.declared.fold.Fold.TheVariants.{Plus, Times, And, Or, Xor, Min, Max}

-- what two numbers join to
abbrev pub join_by : Fold → ℕ → ℕ → ℕ
join_by Plus a b = (a + b) % 2 ^ 64
join_by Times a b = (a * b) % 2 ^ 64
join_by And a b = bit_and a b % 2 ^ 64
join_by Or a b = bit_or a b
join_by Xor a b = bit_xor a b
join_by Min a b = min (min a b) (2 ^ 64 - 1)
join_by Max a b = max a b

-- what a private copy starts at
abbrev pub unit_of : Fold → ℕ
unit_of Plus = 0
unit_of Times = 1
unit_of And = 2 ^ 64 - 1
unit_of Or = 0
unit_of Xor = 0
unit_of Min = 2 ^ 64 - 1
unit_of Max = 0

-- ---- the laws

-- it doesn't matter which two of three are joined first
abbrev pub IsAssociative : (ℕ → ℕ → ℕ) → Type 0
IsAssociative join = (a b c : ℕ) → join (join a b) c ≡ join a (join b c)

-- nor which of two comes first
abbrev pub IsCommutative : (ℕ → ℕ → ℕ) → Type 0
IsCommutative join = (a b : ℕ) → join a b ≡ join b a

-- the unit changes no number below 2^64
abbrev pub IsNeutral : (ℕ → ℕ → ℕ) → ℕ → Type 0
IsNeutral join unit = (a : ℕ) → a < 2 ^ 64 → (join a unit ≡ a) × (join unit a ≡ a)

-- nor does it change what any number joins to
abbrev pub IsAbsorbed : (ℕ → ℕ → ℕ) → ℕ → Type 0
IsAbsorbed join unit = (a b : ℕ) → join a (join unit b) ≡ join a b
