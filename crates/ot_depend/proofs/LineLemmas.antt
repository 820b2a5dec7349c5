-- The rows of the cells, as rows are made and changed.
use Rattle.std.proofs.Common.{◌≡◌, ◌≢◌, ℕ, ◌<◌, List, Bool, true, false, true≢false, cond, length, Option, Some, None, refl, sym, ap, ◌∙◌}
use Rattle.std.specs.List.{slice_get}
use Rattle.std.specs.Option.{option_map, unwrap_or}
use Rattle.std.proofs.lemmas.Option.{same_Some, none-some, slice_get_within}
use Rattle.ot_model.specs.Cells.{same_cell}
use Rattle.ot_model.specs.declared.expr.Cell.{Cell}
use Rattle.ot_depend.specs.Cells.{Line, entry_at, nobody}
use Rattle.ot_depend.proofs.ReadyLemmas.{one_cell, cell_itself}

-- each cell that has a place has its own line there
abbrev pub Sound : (Cell → Option ℕ) → List Line → Type 0
Sound at lines = (cell : Cell) (place : ℕ) → at cell ≡ Some place → (l : Line) × (slice_get lines place ≡ Some l) × (l.cell ≡ cell)

-- what stands in the front of the list is as before
abbrev pub Front : List Line → List Line → Type 0
Front lines more = (place : ℕ) → place < length lines → slice_get more place ≡ slice_get lines place

module _ (at : Cell → Option ℕ) (lines more : List Line) (sound : Sound at lines) (front : Front lines more) where
  pub Sound-front : Sound at more
  Sound-front cell place is = let l = sound cell place is in (l.0, front place (slice_get_within lines place l.0 l.1) ∙ l.1, l.2)

  pub entry-front : (cell : Cell) → entry_at more (at cell) ≡ entry_at lines (at cell)
  entry-front cell = by (at cell) refl
    where
      by : (o : Option ℕ) → at cell ≡ o → entry_at more o ≡ entry_at lines o
      by None is = refl
      by (Some place) is = let l = sound cell place is in ap (λ o. unwrap_or (option_map (λ l. l.entry) o) nobody) (front place (slice_get_within lines place l.0 l.1))

-- one cell has this place now, and each other cell the one that it had
pub placed-new : (at at2 : Cell → Option ℕ) (cell : Cell) (place : ℕ) → at2 cell ≡ Some place → ((q : Cell) → cell ≢ q → at2 q ≡ at q) → (q : Cell) → at2 q ≡ cond (same_cell cell q) (Some place) (at q)
placed-new at at2 cell place there others q = by (same_cell cell q) refl
  where
    by : (b : Bool) → same_cell cell q ≡ b → at2 q ≡ cond b (Some place) (at q)
    by true same = ap at2 (sym (one_cell cell q same)) ∙ there
    by false other = others q (λ is. true≢false (sym (cell_itself cell q is) ∙ other))

-- a cell that had no place has a new line
module _ (at at2 : Cell → Option ℕ) (lines : List Line) (cell : Cell) (place : ℕ) (sound : Sound at lines) (there : slice_get lines place ≡ Some (record { cell = cell; entry = nobody }))
    (placed : (q : Cell) → at2 q ≡ cond (same_cell cell q) (Some place) (at q)) (none : at cell ≡ None) where
  pub Sound-new : Sound at2 lines
  Sound-new q p is = by (same_cell cell q) refl
    where
      by : (b : Bool) → same_cell cell q ≡ b → (l : Line) × (slice_get lines p ≡ Some l) × (l.cell ≡ q)
      by true same =
          let here : place ≡ p = same_Some place p (sym (ap (λ b. cond b (Some place) (at q)) same) ∙ sym (placed q) ∙ is) in
          (record { cell = cell; entry = nobody }, ap (slice_get lines) (sym here) ∙ there, one_cell cell q same)
      by false other = sound q p (sym (ap (λ b. cond b (Some place) (at q)) other) ∙ sym (placed q) ∙ is)

  pub entry-new : (q : Cell) → entry_at lines (at2 q) ≡ entry_at lines (at q)
  entry-new q = by (same_cell cell q) refl
    where
      by : (b : Bool) → same_cell cell q ≡ b → entry_at lines (at2 q) ≡ entry_at lines (at q)
      by true same =
          ap (entry_at lines) (placed q ∙ ap (λ b. cond b (Some place) (at q)) same) ∙ ap (λ o. unwrap_or (option_map (λ l. l.entry) o) nobody) there
          ∙ sym (ap (entry_at lines) (ap at (sym (one_cell cell q same)) ∙ none))
      by false other = ap (entry_at lines) (placed q ∙ ap (λ b. cond b (Some place) (at q)) other)

  pub place-kept : (q : Cell) (p : ℕ) → at q ≡ Some p → at2 q ≡ Some p
  place-kept q p is = by (same_cell cell q) refl
    where
      by : (b : Bool) → same_cell cell q ≡ b → at2 q ≡ Some p
      by true same = absurd (none-some p (sym none ∙ ap at (one_cell cell q same) ∙ is))
      by false other = placed q ∙ ap (λ b. cond b (Some place) (at q)) other ∙ is
