-- The statements of a program's text in their order, each before those in its bodies, and what is told beside each of them.
use Rattle.std.specs.Prelude.{ℕ, ◌+◌, ◌==◌, ◌||◌, Bool, if◌then◌else◌, List, [], ◌∷◌, take, drop, slice_get, Option, option_and_then, codes}
use Rattle.serde_json.specs.Data.{Data, array, Items, no_items, item}
use Rattle.serde_json.specs.View.{items_of}
use Rattle.ot_program.specs.Meanings.{items, is_word}
use Rattle.ot_why_place.specs.Spots.{Path, value_at}

-- ---- how many there are

-- whether the last of three parts is a body
abbrev pub has_body : Data → Bool
has_body t = is_word t (codes "task") || is_word t (codes "group")

unfoldable mutual
  -- in a body
  pub count_in : Data → ℕ
  count_in (array ds) = count_all ds
  count_in _ = 0

  pub count_all : Items → ℕ
  count_all no_items = 0
  count_all (item d ds) = count_one d + count_all ds

  -- a statement, and those in its bodies
  pub count_one : Data → ℕ
  count_one (array ds) = 1 + count_inside ds
  count_one _ = 1

  -- those in the bodies of `["task", .., body]`, `["group", .., body]`, `["if", .., body, body]`, `["group", .., .., body]` and
  -- `["for", .., .., .., body]`
  pub count_inside : Items → ℕ
  count_inside (item t (item a (item b no_items))) = if has_body t then count_in b else 0
  count_inside (item t (item a (item b (item c no_items)))) =
      if is_word t (codes "if") then count_in b + count_in c else (if is_word t (codes "group") then count_in c else 0)
  count_inside (item t (item a (item b (item c (item d no_items))))) = if is_word t (codes "for") then count_in d else 0
  count_inside _ = 0

-- those in the first body of an `if`
abbrev pub count_first : Data → ℕ
count_first (array (item t (item a (item b (item c no_items))))) = if is_word t (codes "if") then count_in b else 0
count_first _ = 0

-- those before the statements of the body that is the item at this index: the statement itself, and what stands in a body before
abbrev pub count_before : Data → ℕ → ℕ
count_before statement index = 1 + (if index == 3 then count_first statement else 0)

-- ---- what is told beside the statement at a path, where something is told beside each in their order

abbrev mutual
  -- from a body on
  pub told_in : List ℕ → Data → Path → Option ℕ
  told_in told body [] = slice_get told 0
  told_in told body (index ∷ path) =
      option_and_then (λ statement. told_at (drop (count_all (items_of (take index (items body)))) told) statement path) (slice_get (items body) index)

  -- from a statement on
  pub told_at : List ℕ → Data → Path → Option ℕ
  told_at told statement [] = slice_get told 0
  told_at told statement (index ∷ path) =
      option_and_then (λ body. told_in (drop (count_before statement index) told) body path) (slice_get (items statement) index)

-- from a request on, which runs a program: the body is the third item of its second one
abbrev pub told_of : List ℕ → Data → Path → Option ℕ
told_of told request path = option_and_then (λ body. told_in told body (drop 2 path)) (value_at request (1 ∷ 2 ∷ []))
