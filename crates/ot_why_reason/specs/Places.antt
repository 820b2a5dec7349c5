-- Where something stands in a line, in words.
use Rattle.std.specs.Prelude.{◌≡◌, ℕ, List, [], ◌∷◌, ◌++◌, flat_map, map, codes, slice_get, String, string_bytes, Option, Some, None, option_map, option_and_then}
use Rattle.std.specs.Fmt.{decimal}
use Rattle.std.specs.declared.alloc.Global.{Global}
use Rattle.serde_json.specs.Data.{Data}
use Rattle.ot_model.specs.Programs.{Arrays}
use Rattle.ot_program.specs.Meanings.{Bindings}
use Rattle.ot_program.specs.declared.fault.Refusal.{Refusal}
use Rattle.ot_why_place.specs.Spots.{Path, Spot, spots_of, statements_of, item_numbered, place_at}
use Rattle.ot_why_fault.specs.Whys.{Why, first_why, refusal_of}
use Rattle.ot_why_reason.specs.declared.place.Telling.{Telling}
use Rattle.ot_why_reason.specs.declared.place.Telling.TheVariants.{Line, File}

-- indices into lists: `[1][2][0]`
abbrev pub path_words : Path → List ℕ
path_words path = flat_map (λ index. codes "[" ++ (decimal index ++ codes "]")) path

-- the variable of a loop with its number: `i = 31`
abbrev pub turn_words : List ℕ × ℕ → List ℕ
turn_words turn = turn.0 ++ (codes " = " ++ decimal turn.1)

-- what stands before a loop's variable that is the outermost, or behind others
abbrev pub before_turn : Bindings → List ℕ
before_turn [] = codes "where "
before_turn (turn ∷ outer) = codes ", "

-- the variables of loops, the innermost first, told with the outermost first: `where i = 31, j = 2`
abbrev pub turns_words : Bindings → List ℕ
turns_words [] = []
turns_words (turn ∷ outer) = turns_words outer ++ (before_turn outer ++ turn_words turn)

-- the same behind a comma
abbrev pub where_words : Bindings → List ℕ
where_words [] = []
where_words (turn ∷ outer) = codes ", " ++ turns_words (turn ∷ outer)

-- a place behind other words: ` at [1][2][0], where i = 31`
abbrev pub place_words : Telling → Path × Bindings → List ℕ
place_words Line place = codes " at " ++ (path_words place.0 ++ where_words place.1)
place_words File place = where_words place.1

-- where the statement of this number stands in a request
abbrev pub spot_words : Telling → Option Spot → List ℕ
spot_words telling None = []
spot_words telling (Some s) = place_words telling (place_at s)

abbrev pub statement_words : Telling → Data → ℕ → List ℕ
statement_words telling request number = spot_words telling (item_numbered number (statements_of request))

-- a place before what stands there: `at [1][2][0], where i = 31: `
abbrev pub in_file : Bindings → List ℕ
in_file [] = []
in_file (turn ∷ outer) = turns_words (turn ∷ outer) ++ codes ": "

abbrev pub entry_words : Telling → Path × Bindings → List ℕ
entry_words Line place = codes "at " ++ (path_words place.0 ++ (where_words place.1 ++ codes ": "))
entry_words File place = in_file place.1

-- ---- the first fault of a program

-- what is at fault in the program that a request runs, and where that stands
abbrev pub placed_fault : Arrays → Data → Option (Why × (Path × Bindings))
placed_fault shape request =
    option_and_then (λ found. option_map (λ s. (found.1, place_at s)) (slice_get (spots_of request) found.0)) (first_why shape request)

-- where a program is refused for its first fault, the first reason begins with the place of what has the fault
abbrev pub BeginsAt : Telling → Refusal → Option (Why × (Path × Bindings)) → List (List ℕ) → Type 0
BeginsAt telling refusal None reasons = Unit {0}
BeginsAt telling refusal (Some (why, place)) reasons =
    refusal_of why ≡ refusal → (shown : List ℕ) × (others : List (List ℕ)) × (reasons ≡ (entry_words telling place ++ shown) ∷ others)

abbrev pub texts_of : List (String Global) → List (List ℕ)
texts_of reasons = map string_bytes reasons
