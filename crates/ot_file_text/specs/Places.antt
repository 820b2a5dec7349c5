-- Where a byte of JSON stands: in a string or outside of one, and between how many brackets.
use Rattle.std.specs.Prelude.{ℕ, ◌+◌, ◌-◌, ◌==◌, ◌&&◌, ◌||◌, Bool, false, if◌then◌else◌}
use Rattle.ot_file_text.specs.declared.place.Place.{Place}
use Rattle.ot_file_text.specs.declared.place.Place.TheVariants.{Outside, Quoted, Escaped}
use Rattle.ot_file_text.specs.declared.nesting.Nesting.{Nesting}

-- JSON's white space: space, tab, LF, CR
abbrev pub is_blank : ℕ → Bool
is_blank b = b == 32 || b == 9 || b == 10 || b == 13

-- [ or {
abbrev pub is_opening : ℕ → Bool
is_opening b = b == 91 || b == 123

-- ] or }
abbrev pub is_closing : ℕ → Bool
is_closing b = b == 93 || b == 125

-- where a byte leaves the next one: a quote opens a string and closes it, and a backslash in a string escapes one byte
abbrev pub place_after : Place → ℕ → Place
place_after Outside b = if b == 34 then Quoted else Outside
place_after Quoted b = if b == 34 then Outside else (if b == 92 then Escaped else Quoted)
place_after Escaped b = Quoted

-- whether a byte opens an array or an object
abbrev pub opens : Place → ℕ → Bool
opens Outside b = is_opening b
opens Quoted b = false
opens Escaped b = false

-- how many brackets are open behind a byte: what is too much closes nothing
abbrev pub depth_after : Place → ℕ → ℕ → ℕ
depth_after Outside depth b = if is_opening b then depth + 1 else (if is_closing b then depth - 1 else depth)
depth_after Quoted depth b = depth
depth_after Escaped depth b = depth

abbrev pub nesting_after : Nesting → ℕ → Nesting
nesting_after n b = record { place = place_after n.place b; depth = depth_after n.place n.depth b }

-- before the first byte
abbrev pub outside : Nesting
outside = record { place = Outside; depth = 0 }

-- behind the bracket that opens the first array
abbrev pub inside : Nesting
inside = record { place = Outside; depth = 1 }

-- whether a byte is a comma between items of the one array or object that is open
abbrev pub is_comma : Place → ℕ → ℕ → Bool
is_comma Outside depth b = depth == 1 && b == 44
is_comma Quoted depth b = false
is_comma Escaped depth b = false

abbrev pub is_between : Nesting → ℕ → Bool
is_between n b = is_comma n.place n.depth b
