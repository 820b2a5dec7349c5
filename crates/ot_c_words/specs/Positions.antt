-- Lines and columns.
use Rattle.std.specs.Prelude.{ℕ, ◌+◌, List, [], ◌∷◌, ◌==◌, if◌then◌else◌}
use Rattle.ot_c_words.specs.declared.position.Position.{Position}

-- the place behind some bytes: a line feed begins the next line, any other byte is one column
abbrev pub place_behind : Position → List ℕ → Position
place_behind p [] = p
place_behind p (b ∷ bs) = if b == 10 then place_behind (record { line = p.line + 1; column = 1 }) bs else place_behind (record { line = p.line; column = p.column + 1 }) bs
