-- The lists of a reply: one more section is shown.
use Rattle.std.proofs.Common.{◌≡◌, ℕ, suc, ◌+◌, ◌≤◌, ◌<◌, List, [], ◌∷◌, ◌++◌, length, map, get_or, set, take, sym, ap, ◌∙◌, arith}
use Rattle.std.specs.Prelude.{Option, Some, None, slice_get, slice_range, unwrap_or, option_map}
use Rattle.std.proofs.Math.Seq.{take-suc, take-suc-set}
use Rattle.std.proofs.Math.ListN.{get_or-map, length-map}
use Rattle.std.proofs.lemmas.List.{map-set, map-append, get_or_default}
use Rattle.std.proofs.lemmas.Option.{slice_get-map, slice_get-get_or, slice_get_within}
use Rattle.ot_model.specs.Cells.{lengths}
use Rattle.ot_model.specs.Names.{FitsShape}
use Rattle.ot_model.specs.declared.expr.Section.{Section}
use Rattle.ot_book.specs.Answers.{numbers_shown}

abbrev pub shown_one : List (List ℕ) → Section → List ℕ
shown_one cells s = slice_range (unwrap_or (slice_get cells s.array) []) s.start (s.start + s.len)

-- the list at i was overwritten by its section
pub shown-more : {V : Type 0} (items : V → List ℕ) (lists : List V) (i : ℕ) (v : V) (sections : List Section) (cells : List (List ℕ)) (s : Section) →
    i < length lists → i < length sections → s ≡ get_or sections i s → items v ≡ shown_one cells s →
    take i (map items lists) ≡ numbers_shown (take i sections) cells →
    take (i + 1) (map items (set lists i v)) ≡ numbers_shown (take (i + 1) sections) cells
shown-more items lists i v sections cells s below inside is one before =
    let within_items : i < length (map items lists) = omega (arith, length-map lists items) in
    let next : i + 1 ≡ suc i = omega arith in
    ap (λ n. take n (map items (set lists i v))) next
    ∙ ap (take (suc i)) (map-set items lists i v)
    ∙ take-suc-set (map items lists) i (items v) within_items
    ∙ ap (λ front. front ++ items v ∷ []) before
    ∙ ap (λ y. numbers_shown (take i sections) cells ++ y ∷ []) (one ∙ ap (shown_one cells) is)
    ∙ sym (map-append (shown_one cells) (take i sections) (get_or sections i s ∷ []))
    ∙ ap (λ front. numbers_shown front cells) (sym (take-suc sections i s inside))
    ∙ ap (λ n. numbers_shown (take n sections) cells) (sym next)

-- each section fits the array that it shows
row_from : (o : Option (List ℕ)) (len : ℕ) (row : List ℕ) → option_map length o ≡ Some len → o ≡ Some row → length row ≡ len
row_from None len row there is = cc
row_from (Some r) len row there is = cc

pub section-fits : (cells : List (List ℕ)) (s : Section) (row : List ℕ) → FitsShape (lengths cells) s → row ≡ get_or cells s.array row →
    (slice_get cells s.array ≡ Some row) × (s.start + s.len ≤ length row)
section-fits cells s row h is =
    let inside : s.array < length cells =
    let low = slice_get_within (lengths cells) s.array h.len h.array in omega (arith, low, length-map cells length) in
    let there : slice_get cells s.array ≡ Some row = slice_get-get_or cells s.array row inside ∙ ap Some (sym is) in
    let long : length row ≡ h.len = row_from (slice_get cells s.array) h.len row (sym (slice_get-map length cells s.array) ∙ h.array) there in
    (there, omega (arith, long, h.within))

-- the items of the list at a place
pub list-at : {V : Type 0} (items : V → List ℕ) (lists : List V) (i : ℕ) (l : V) → l ≡ get_or lists i l → items l ≡ get_or (map items lists) i (items l)
list-at items lists i l is = sym (get_or-map items lists i l ∙ ap items (sym is))

-- a list is as long as the section at its place
pub list-long : {V : Type 0} (items : V → List ℕ) (lists : List V) (sections : List Section) (i : ℕ) (v : V) (s : Section) →
    map (λ r. length (items r)) lists ≡ map (λ t. t.len) sections → i < length lists → v ≡ get_or lists i v → s ≡ get_or sections i s →
    length (items v) ≡ s.len
list-long items lists sections i v s same below isv iss =
    let one : get_or (map (λ r. length (items r)) lists) i (length (items v)) ≡ length (items v) =
    get_or-map (λ r. length (items r)) lists i v ∙ ap (λ r. length (items r)) (sym isv) in
    let two : get_or (map (λ (t : Section). t.len) sections) i s.len ≡ s.len =
    get_or-map (λ (t : Section). t.len) sections i s ∙ ap (λ (t : Section). t.len) (sym iss) in
    let inside : i < length (map (λ r. length (items r)) lists) = omega (arith, length-map lists (λ r. length (items r))) in
    sym one
    ∙ get_or_default (map (λ r. length (items r)) lists) i (length (items v)) s.len inside
    ∙ ap (λ ns. get_or ns i s.len) same
    ∙ two

pub as-many : {V : Type 0} (items : V → List ℕ) (lists : List V) (sections : List Section) →
    map (λ r. length (items r)) lists ≡ map (λ t. t.len) sections → length lists ≡ length sections
as-many items lists sections same =
    sym (length-map lists (λ r. length (items r))) ∙ ap length same ∙ length-map sections (λ (t : Section). t.len)
