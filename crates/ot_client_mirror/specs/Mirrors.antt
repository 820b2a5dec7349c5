-- What a server's reply tells of a line, as far as a mirror goes by it.
use Rattle.std.specs.Prelude.{◌≡◌, ◌<◌, ◌≤◌, ℕ, List, map, length, sum, replicate, bytes_eq, All, Bool, Option, Some, codes, None, option_map, if◌then◌else◌, option_and_then}
use Rattle.std.specs.List.{IsDistinct}
use Rattle.ot_store.specs.Arrays.{Named, arrays_listed}
use Rattle.ot_store.specs.Refusals.{usual_limits}
use Rattle.ot_book.specs.Answers.{Step, Now, Runs, step_of, value_of, answer_or_lost, Told, Accepted, json_of, Arrays, Refused, Offends}
use Rattle.ot_book.specs.Books.{Register, state_in, line_logged}
use Rattle.serde_json.specs.Data.{Data, Items, no_items, item}
use Rattle.serde_json.specs.Find.{as_array}
use Rattle.ot_program.specs.Meanings.{is_word}
use Rattle.ot_book.specs.Requests.{all_sized, number_in, size_in}

-- behind the request's number: names with lengths, or a code
abbrev pub one_behind : Data → Data → Option Told
one_behind tag d =
    if is_word tag (codes "arrays") then option_map Arrays (option_and_then (all_sized 0) (as_array d))
    else (if is_word tag (codes "err") then option_map Refused (size_in 0 d) else None)

-- a code and the number of a statement
abbrev pub two_behind : Data → Data → Data → Option Told
two_behind tag code place =
    if is_word tag (codes "err") then option_and_then (λ c. option_map (Offends c) (size_in 0 place)) (size_in 0 code) else None

-- `["ok",n]`, `["arrays",n,[[name,len],..]]`, `["err",n,code]`, `["err",n,code,place]`
abbrev pub told_in_list : Items → Option Told
told_in_list (item tag (item n no_items)) = if is_word tag (codes "ok") then option_map (λ k. Accepted) (number_in n) else None
told_in_list (item tag (item n (item d no_items))) = option_and_then (λ k. one_behind tag d) (number_in n)
told_in_list (item tag (item n (item d (item e no_items)))) = option_and_then (λ k. two_behind tag d e) (number_in n)
told_in_list ds = None

abbrev pub told_in_data : Data → Option Told
told_in_data d = option_and_then told_in_list (as_array d)

-- what a reply tells, where it is one of these; its LF is among the white space of JSON
abbrev pub told_in : List ℕ → Option Told
told_in reply = option_and_then told_in_data (value_of reply)

-- The arrays of a tenant as far as a server's replies tell: their names and lengths.

-- names with lengths, in order of creation
abbrev pub Sizes : Type 0
Sizes = List (List ℕ × ℕ)

-- a tenant with the usual limits may have such arrays
pub record MayHave (sizes : Sizes) : Type 0 where
  pub distinct : IsDistinct bytes_eq (map (λ a. a.0) sizes)
  pub filled : All (λ n. 0 < n) (map (λ a. a.1) sizes)
  pub few : length sizes ≤ usual_limits.arrays
  pub small : sum (map (λ a. a.1) sizes) ≤ usual_limits.cells

-- such arrays, with zeros in their cells
abbrev pub blank : Sizes → List Named
blank sizes = map (λ a. (a.0, replicate a.1 0)) sizes

-- what a line leaves that does this: a run keeps names and lengths
abbrev pub left_by : Sizes → Step → Sizes
left_by sizes (Now told arrays) = arrays_listed arrays
left_by sizes (Runs program) = sizes

-- what a line leaves that a tenant with such arrays sends
abbrev pub sizes_sent : Sizes → List ℕ → Sizes
sizes_sent sizes line = left_by sizes (step_of usual_limits (blank sizes) 0 line)

-- and what it leaves behind such a reply: `ok` tells that it was taken, and whatever else is told, names and lengths stay
abbrev pub sizes_behind : Sizes → List ℕ → Option Told → Sizes
sizes_behind sizes line (Some Accepted) = sizes_sent sizes line
sizes_behind sizes line other = sizes

-- Where a book has arrays of some sizes, whatever is in their cells, and a reply tells what the book answers to a line, the
-- book has arrays of the sizes behind it.
abbrev pub MirrorFollows : Type 0
MirrorFollows = (book : Register) (line reply : List ℕ) (memory : Bool) (number : ℕ) → book.limits ≡ usual_limits →
    value_of reply ≡ Some (json_of number (answer_or_lost book.limits (state_in book) line memory).0) →
    arrays_listed (line_logged book line memory).store ≡ sizes_behind (arrays_listed book.store) line (told_in reply)
