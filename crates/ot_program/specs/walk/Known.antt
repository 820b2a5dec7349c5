-- The arrays of a shape in a map by their names.
use Rattle.std.specs.Prelude.{◌≡◌, ℕ, List, bytes_eq}
use Rattle.std.specs.HashMap.{HashMap, get_by}
use Rattle.ot_program.specs.declared.shape.KnownArray.{KnownArray}
use Rattle.ot_program.specs.walk.Parts.{known_from}
use Rattle.std.specs.Borrow.{Bor}

-- the map has of each name what going over the arrays gives
abbrev pub AreKnown : {S : Type 0} → List (List ℕ × ℕ) → HashMap (Bor (List ℕ)) KnownArray S → Type 0
AreKnown arrays known = (name : List ℕ) → get_by (λ k. bytes_eq name k.now) known ≡ known_from 0 arrays name
