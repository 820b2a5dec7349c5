-- The parts of one statement that stand in a list, put together one by one.
use Rattle.std.specs.Prelude.{List, [], ◌∷◌, ◌++◌, Option, Some, None, Result, Ok, Err}
use Rattle.ot_program.specs.declared.fault.Refusal.{Refusal}
use Rattle.ot_program.specs.walk.Reading.{◌>>=◌, both_of}

-- the parts that were read, or the fault that is told of them
abbrev pub so_far : {A : Type 0} → Option Refusal → List A → Result (List A) Refusal
so_far None parts = Ok parts
so_far (Some c) parts = Err c

-- one part more
abbrev pub with_part : {A : Type 0} → Result (List A) Refusal → Result A Refusal → Result (List A) Refusal
with_part front part = both_of front part >>= λ p. Ok (p.0 ++ p.1 ∷ [])
