-- A byte of a text whose position is kept.
use Rattle.std.specs.Prelude.{◌≡◌, ◌≤◌, ℕ, List, length}
use Rattle.ot_file_text.specs.Positions.{position_of}
use Rattle.ot_file_text.specs.declared.position.Spot.{Spot}

-- it is one of the text or the one behind it, and its position is right
abbrev pub IsIn : List ℕ → Spot → Type 0
IsIn text spot = (spot.offset ≤ length text) × (spot.position ≡ position_of text spot.offset)
