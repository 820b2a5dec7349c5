-- Where an item of nested arrays stands.
use Rattle.std.specs.Prelude.{ℕ, suc, ◌+◌, ◌-◌, ◌==◌, ◌||◌, List, [], ◌∷◌, drop, if◌then◌else◌, Option, Some, None, option_map, option_and_then}
use Rattle.ot_file_text.specs.Places.{is_closing, is_between, nesting_after, inside}
use Rattle.ot_file_text.specs.Cuts.{blanks_in}
use Rattle.ot_file_text.specs.declared.nesting.Nesting.{Nesting}

-- how many commas are left behind a byte
abbrev pub commas_after : ℕ → Nesting → ℕ → ℕ
commas_after commas n b = if is_between n b then commas - 1 else commas

-- how many bytes there are up to and with so many commas between the items of an array that is open; none where it closes before
abbrev pub behind_commas : ℕ → Nesting → List ℕ → Option ℕ
behind_commas commas n [] = if commas == 0 then Some 0 else None
behind_commas commas n (b ∷ behind) =
    if commas == 0 then Some 0
    else (if (nesting_after n b).depth == 0 then None else option_map suc (behind_commas (commas_after commas n b) (nesting_after n b) behind))

-- an item that begins so far behind white space: no comma, nor a bracket that closes
abbrev pub item_begun : ℕ → List ℕ → Option ℕ
item_begun blanks [] = None
item_begun blanks (b ∷ behind) = if b == 44 || is_closing b then None else Some blanks

abbrev pub begun_at : List ℕ → Option ℕ
begun_at text = item_begun (blanks_in text) (drop (blanks_in text) text)

-- an item's place behind the bracket of its array
abbrev pub item_in : ℕ → List ℕ → Option ℕ
item_in index items = option_and_then (λ from. option_map (λ blanks. 1 + from + blanks) (begun_at (drop from items))) (behind_commas index inside items)

-- how many bytes stand before an item of the array that begins here
abbrev pub item_at : List ℕ → ℕ → Option ℕ
item_at [] index = None
item_at (b ∷ items) index = if b == 91 then item_in index items else None

-- how many bytes stand before the item that a path names
abbrev pub offset_of : List ℕ → List ℕ → Option ℕ
offset_of text [] = Some 0
offset_of text (index ∷ path) = option_and_then (λ offset. option_map (λ further. offset + further) (offset_of (drop offset text) path)) (item_at text index)
