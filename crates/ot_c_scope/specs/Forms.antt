-- Forms of the language, as JSON (docs/LANGUAGE.md, "Forms").
use Rattle.std.specs.Prelude.{ℕ, List, ◌∷◌}
use Rattle.serde_json.specs.Data.{Data, number, unsigned, string, array}
use Rattle.serde_json.specs.View.{items_of}

-- a number
abbrev pub nat : ℕ → Data
nat n = number (unsigned n)

-- `[part, ..]`
abbrev pub list_form : List Data → Data
list_form parts = array (items_of parts)

-- `["word", part, ..]`
abbrev pub form : List ℕ → List Data → Data
form word parts = list_form (string word ∷ parts)
