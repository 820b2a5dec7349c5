-- What holds of the names of arrays in C.
use Rattle.std.specs.Prelude.{◌≡◌, nat_le, Bool, false, ◌&&◌, [], ◌∷◌}
use Rattle.ot_c_names.specs.Names.{Text, name_in_c, own_name}

-- a capital is the first byte
abbrev pub begins_with_capital : Text → Bool
begins_with_capital [] = false
begins_with_capital (b ∷ bs) = nat_le 65 b && nat_le b 90

-- a name that begins with no capital, as those of the language do, is the own name of its name in C
abbrev pub OwnNameComesBack : Type 0
OwnNameComesBack = (word : Text) → begins_with_capital word ≡ false → own_name (name_in_c word) ≡ word
