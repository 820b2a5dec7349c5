-- The code's rows, read as the lines that they stand for.
use Rattle.std.proofs.Common.{◌≡◌, ◌+◌, ℕ, zero, suc, ◌<◌, List, [], ◌∷◌, ◌++◌, take, set, get_or, length, Some, refl, sym, ap, ◌∙◌}
use Rattle.std.specs.List.{slice_get, flat_map}
use Rattle.std.specs.Option.{option_map, unwrap_or}
use Rattle.std.proofs.lemmas.Option.{slice_get-map, slice_get_read}
use Rattle.std.proofs.lemmas.List.{map-append, map-set, length-map, get_or-map, flat_map_more, take_more}
use Rattle.std.proofs.lemmas.List.Sums.{fold_more}
use Rattle.ot_model.proofs.CellsLemmas.{set-updated, length-updated}
use Rattle.ot_model.specs.Cells.{updated}
use Rattle.ot_depend.specs.Kept.{row_waits_for}
use Rattle.ot_depend.specs.Cells.{Line, line_of, lines_of, entry_in, entry_at, nobody, enter, enter_all, found_all}
use Rattle.ot_depend.specs.declared.cells.Row.{Row}
use Rattle.ot_depend.specs.declared.cells.Spot.{Spot}
use Rattle.ot_depend.proofs.SiblingsLemmas.{slice_get-push}
use Rattle.ot_depend.proofs.LineLemmas.{Front}

-- a row behind
pub front_pushed : (rows more : List Row) (r : Row) → more ≡ rows ++ r ∷ [] → Front (lines_of rows) (lines_of more)
front_pushed rows more r is = λ place within.
    ap (λ xs. slice_get (lines_of xs) place) is ∙ ap (λ ls. slice_get ls place) (map-append line_of rows (r ∷ [])) ∙ slice_get-push (lines_of rows) (line_of r) place within

pub last_pushed : (rows more : List Row) (r : Row) → more ≡ rows ++ r ∷ [] → slice_get (lines_of more) (length rows) ≡ Some (line_of r)
last_pushed rows more r is =
    ap (λ xs. slice_get (lines_of xs) (length rows)) is ∙ ap (λ ls. slice_get ls (length rows)) (map-append line_of rows (r ∷ [])) ∙ ap (slice_get (lines_of rows ++ line_of r ∷ [])) (sym (length-map rows line_of))
    ∙ last (lines_of rows) (line_of r)
  where
    last : (ls : List Line) (l : Line) → slice_get (ls ++ l ∷ []) (length ls) ≡ Some l
    last [] l = refl
    last (k ∷ ls) l = last ls l

-- a changed row
pub lines_of-set : (f : Line → Line) (rows : List Row) (i : ℕ) (r new : Row) → i < length rows → r ≡ get_or rows i r → line_of new ≡ f (line_of r) → lines_of (set rows i new) ≡ updated (lines_of rows) i f
lines_of-set f rows i r new within is changed =
    map-set line_of rows i new ∙ set-updated (lines_of rows) i (line_of new) (line_of r) f (changed ∙ ap f (ap line_of is ∙ sym (get_or-map line_of rows i r (line_of r) within)))

pub lines_of-set-same : (rows : List Row) (i : ℕ) (r new : Row) → i < length rows → r ≡ get_or rows i r → line_of new ≡ line_of r → lines_of (set rows i new) ≡ lines_of rows
lines_of-set-same rows i r new within is same = lines_of-set (λ l. l) rows i r new within is same ∙ untouched (lines_of rows) i
  where
    untouched : (ls : List Line) (i : ℕ) → updated ls i (λ l. l) ≡ ls
    untouched [] i = refl
    untouched (l ∷ ls) zero = refl
    untouched (l ∷ ls) (suc i) = ap (λ r. l ∷ r) (untouched ls i)

pub entry_read : (rows : List Row) (i : ℕ) (r : Row) → i < length rows → r ≡ get_or rows i r → entry_at (lines_of rows) (Some i) ≡ entry_in r
entry_read rows i r within is =
    ap (λ o. unwrap_or (option_map (λ l. l.entry) o) nobody) (slice_get-map line_of rows i ∙ ap (option_map line_of) (slice_get_read rows (length rows) i r refl within is))

-- one spot more
pub found_more : (lines : List Line) (spots : List Spot) (i : ℕ) (d : Spot) (before : List ℕ) → i < length spots → before ≡ found_all lines (take i spots) →
    before ++ row_waits_for (entry_at lines (Some (get_or spots i d).place)) (get_or spots i d).one.mode ≡ found_all lines (take (i + 1) spots)
found_more lines spots i d before within is =
    ap (λ xs. xs ++ f (get_or spots i d)) is ∙ flat_map_more f [] (take i spots) (get_or spots i d) ∙ ap (flat_map f) (sym (take_more spots i d within))
  where
    f : Spot → List ℕ
    f s = row_waits_for (entry_at lines (Some s.place)) s.one.mode

pub enter_more : (child : ℕ) (lines : List Line) (spots : List Spot) (i : ℕ) (d : Spot) → i < length spots →
    updated (enter_all child lines (take i spots)) (get_or spots i d).place (enter child (get_or spots i d).one.mode) ≡ enter_all child lines (take (i + 1) spots)
enter_more child lines spots i d within = sym (fold_more (λ (ls : List Line) s. updated ls s.place (enter child s.one.mode)) lines spots i d within)

pub length-enter_all : (child : ℕ) (spots : List Spot) (lines : List Line) → length (enter_all child lines spots) ≡ length lines
length-enter_all child [] lines = refl
length-enter_all child (s ∷ spots) lines = length-enter_all child spots (updated lines s.place (enter child s.one.mode)) ∙ length-updated lines s.place (enter child s.one.mode)

-- the line with other users
abbrev pub with_users : Row → List ℕ → Line
with_users r users = record { cell = r.cell; entry = record { writer = r.writer; users = users } }
