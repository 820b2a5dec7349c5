-- Arrays in a map by their names.
use Rattle.std.specs.Prelude.{◌≡◌, ℕ, ◌+◌, List, length, bytes_eq, unwrap_or}
use Rattle.std.specs.List.{position_or_len}
use Rattle.std.specs.HashMap.{HashMap, get_by}
use denote.Ref.{Bor}

-- The map has the positions of these arrays, which stand behind so many: of each name the first, and none where there is none.
abbrev pub ArePlacedFrom : {S : Type 0} → ℕ → List (List ℕ × ℕ) → HashMap (Bor (List ℕ)) ℕ S → Type 0
ArePlacedFrom before arrays positions =
    (name : List ℕ) → unwrap_or (get_by (λ k. bytes_eq name k.now) positions) (before + length arrays) ≡ before + position_or_len (λ a. bytes_eq a.0 name) arrays

abbrev pub ArePlaced : {S : Type 0} → List (List ℕ × ℕ) → HashMap (Bor (List ℕ)) ℕ S → Type 0
ArePlaced arrays positions = ArePlacedFrom 0 arrays positions
