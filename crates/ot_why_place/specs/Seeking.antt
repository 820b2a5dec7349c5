-- One spot after the other, until the one that is sought.
use Rattle.std.specs.Prelude.{ℕ, [], zero, suc, Bool, true, if◌then◌else◌, List, ◌∷◌, ◌++◌, Option, Some, None, map}
use Rattle.ot_program.specs.Copies.{Text, Copies}
use Rattle.ot_program.specs.Meanings.{Bindings}
use Rattle.ot_why_place.specs.declared.walk.Step.{Step}
use Rattle.ot_why_place.specs.declared.walk.Step.TheVariants as s
use Rattle.ot_why_place.specs.declared.walk.Which.{Which}
use Rattle.ot_why_place.specs.declared.walk.Which.TheVariants as w
use Rattle.ot_why_place.specs.Spots.{Path, Spot, first_body, in_body, in_turns, is_loop, is_statement, turn_by}

-- so many are still to be skipped, or it was met
pub data Sought : Type 0 where
  Skipped : ℕ → Sought
  Met : Path → Bindings → Sought

abbrev pub meet : Spot → ℕ → (ℕ → Sought) → Sought
meet s zero rest = Met s.path s.placed.variables
meet s (suc n) rest = rest n

-- of those that count, the one behind so many
abbrev pub seek : (Text → Bool) → ℕ → List Spot → Sought
seek counts n [] = Skipped n
seek counts n (s ∷ ss) = if counts s.placed.text then meet s n (λ m. seek counts m ss) else seek counts n ss

abbrev pub met_in : Sought → Option (Path × Bindings)
met_in (Skipped n) = None
met_in (Met path variables) = Some (path, variables)

-- what stands in the bodies of a statement with these parts
abbrev pub bodies_in : Path → Text → Copies → Copies → List Spot
bodies_in path text one two =
    (if is_loop text then in_turns path one else in_body (path ++ first_body text ∷ []) 0 one) ++ in_body (path ++ 3 ∷ []) 0 two

abbrev pub step_by : Step → Sought
step_by (s.Skipped n) = Skipped n
step_by (s.Met place) = Met (place.path.items) (map turn_by place.turns.items)

abbrev pub counts_by : Which → Text → Bool
counts_by w.All text = true
counts_by w.Statements text = is_statement text
