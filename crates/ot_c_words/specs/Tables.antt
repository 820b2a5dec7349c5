-- Texts, each with what it stands for.
use Rattle.std.specs.Prelude.{ℕ, nat_eq, List, [], ◌∷◌, Option, Some, None, length, if◌then◌else◌}
use Rattle.std.specs.List.{starts_with}
use Rattle.std.specs.Str.{bytes_eq}

abbrev pub Text : Type 0
Text = List ℕ

-- what a text stands for, where it is in the table
abbrev pub looked_up : {X : Type 0} → List (Text × X) → Text → Option X
looked_up [] text = None
looked_up (e ∷ es) text = if bytes_eq e.0 text then Some e.1 else looked_up es text

-- the first of the table that begins the bytes, and how many it has
abbrev pub table_entry : {X : Type 0} → List (Text × X) → Text → Option (X × ℕ)
table_entry [] bytes = None
table_entry (e ∷ es) bytes = if starts_with nat_eq bytes e.0 then Some (e.1, length e.0) else table_entry es bytes
