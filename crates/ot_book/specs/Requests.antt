-- The requests, as JSON.
use Rattle.std.specs.Prelude.{ℕ, ◌<◌, ◌^◌, ◌&&◌, Bool, true, false, List, [], ◌∷◌, length, ◌==◌, nat_le, nat_lt, if◌then◌else◌, Option, Some, None, option_and_then, option_map, codes}
use Rattle.serde_json.specs.Data.{Data, array, Items, no_items, item}
use Rattle.serde_json.specs.Find.{as_str, as_number, as_u64, as_array}
use Rattle.ot_program.specs.Meanings.{is_name, is_word}

pub data Request : Type 0 where
  New : List ℕ → ℕ → Request
  Free : List ℕ → Request
  Put : List ℕ → ℕ → List ℕ → Request
  Get : List ℕ → ℕ → ℕ → Request
  Arrays : Request
  Used : Request
  Checkpoint : Request
  Run : Data → Request

-- an array has at least one cell
abbrev pub IsProper : Request → Type 0
IsProper (New name len) = 0 < len
IsProper request = Unit {0}

abbrev pub name_in : Data → Option (List ℕ)
name_in d = option_and_then (λ s. if is_name s then Some s else None) (as_str d)

-- a whole number from 0 to 2^64 - 1
abbrev pub number_in : Data → Option ℕ
number_in d = option_and_then as_u64 (as_number d)

-- one from `low` to 2^32 - 1
abbrev pub size_in : ℕ → Data → Option ℕ
size_in low d = option_and_then (λ n. if nat_le low n && nat_lt n (2 ^ 32) then Some n else None) (number_in d)

-- names with lengths, as replies list them; no length is below `low`
module _ (low : ℕ) where
  abbrev pub sized_of : Items → Option (List ℕ × ℕ)
  sized_of (item name (item len no_items)) = option_and_then (λ n. option_map (λ l. (n, l)) (size_in low len)) (name_in name)
  sized_of ds = None

  abbrev pub sized_in : Data → Option (List ℕ × ℕ)
  sized_in d = option_and_then sized_of (as_array d)

  abbrev pub all_sized : Items → Option (List (List ℕ × ℕ))
  all_sized no_items = Some []
  all_sized (item d ds) = option_and_then (λ a. option_map (λ more. a ∷ more) (all_sized ds)) (sized_in d)

abbrev pub all_numbers : Items → Option (List ℕ)
all_numbers no_items = Some []
all_numbers (item d ds) = option_and_then (λ n. option_map (λ ns. n ∷ ns) (all_numbers ds)) (number_in d)

-- at least one number
abbrev pub some_of : List ℕ → Option (List ℕ)
some_of ns = if length ns == 0 then None else Some ns

abbrev pub numbers_in : Data → Option (List ℕ)
numbers_in d = option_and_then some_of (option_and_then all_numbers (as_array d))

abbrev pub new_of : Data → Data → Option Request
new_of name len = option_and_then (λ n. option_map (New n) (size_in 1 len)) (name_in name)

abbrev pub free_of : Data → Option Request
free_of name = option_map Free (name_in name)

abbrev pub put_of : Data → Data → Data → Option Request
put_of name start values =
    option_and_then (λ n. option_and_then (λ s. option_map (Put n s) (numbers_in values)) (size_in 0 start)) (name_in name)

abbrev pub get_of : Data → Data → Data → Option Request
get_of name start len = option_and_then (λ n. option_and_then (λ s. option_map (Get n s) (size_in 1 len)) (size_in 0 start)) (name_in name)

-- `["list"]`, `["used"]`, `["checkpoint"]`, `["run", program]`, `["free", name]`, `["new", name, len]`,
-- `["put", name, start, [v, ..]]`, `["get", name, start, len]`
abbrev pub form_of : Items → Option Request
form_of no_items = None
form_of (item t no_items) =
    if is_word t (codes "checkpoint") then Some Checkpoint
    else (if is_word t (codes "list") then Some Arrays else (if is_word t (codes "used") then Some Used else None))
form_of (item t (item a no_items)) =
    if is_word t (codes "run") then Some (Run a) else (if is_word t (codes "free") then free_of a else None)
form_of (item t (item a (item b no_items))) = if is_word t (codes "new") then new_of a b else None
form_of (item t (item a (item b (item c no_items)))) =
    if is_word t (codes "put") then put_of a b c else (if is_word t (codes "get") then get_of a b c else None)
form_of (item t (item a (item b (item c (item d ds))))) = None

-- what a value asks, where it asks anything
abbrev pub request_of : Data → Option Request
request_of (array ds) = form_of ds
request_of d = None

-- it asks for a checkpoint
abbrev pub asks_checkpoint : Option Request → Bool
asks_checkpoint (Some Checkpoint) = true
asks_checkpoint request = false
