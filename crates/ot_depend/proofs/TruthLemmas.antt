-- That the rows tell of the children, and whom they give a new one to wait for.
use Rattle.std.proofs.Common.{◌≡◌, ◌&&◌, ◌||◌, ℕ, zero, suc, ◌<◌, List, [], ◌∷◌, ◌++◌, true, false, map, get_or, length, Option, Some, inl, inr, refl, sym, ap, ◌∙◌, arith, true≢false}
use Rattle.std.specs.List.{slice_get, flat_map}
use Rattle.std.specs.Option.{option_map}
use Rattle.std.proofs.lemmas.Bool.{cases_lt, or_cases, or_left, or_right, and_from}
use Rattle.std.proofs.lemmas.Option.{same_Some, none-some, slice_get-map, slice_get-get_or}
use Rattle.std.proofs.lemmas.List.{get_or_push, get_or_past}
use Rattle.std.proofs.lemmas.Map.Keys.{any_passes_from_place}
use Rattle.ot_model.specs.Cells.{same_cell}
use Rattle.ot_model.specs.declared.expr.Cell.{Cell}
use Rattle.ot_model.specs.declared.stmt.Use.{Use}
use Rattle.ot_depend.specs.Siblings.{is_write, uses_cell, writes_cell, has}
use Rattle.ot_depend.specs.Kept.{IsDirect, row_waits_for}
use Rattle.ot_depend.specs.Cells.{Line, entry_at, found_all, RowsTell}
use Rattle.ot_depend.specs.declared.cells.Spot.{Spot}
use Rattle.ot_depend.proofs.ReadyLemmas.{cell_itself}
use Rattle.ot_depend.proofs.HeartLemmas.{use_found, write_found, writes-uses}
use Rattle.ot_depend.proofs.LinkLemmas.{use_within, get_or-behind}
use Rattle.ot_depend.proofs.RowLemmas.{has-append, found_sound, found_complete}

-- what a list made of lists has comes from one of them
flat_from : {A : Type 0} (f : A → List ℕ) (i : ℕ) (xs : List A) → has i (flat_map f xs) ≡ true → (k : ℕ) × (x : A) × (slice_get xs k ≡ Some x) × (has i (f x) ≡ true)
flat_from f i [] there = absurd (true≢false (sym there))
flat_from f i (x ∷ xs) there = elim (or_cases (has i (f x)) (has i (flat_map f xs)) (sym (has-append i (f x) (flat_map f xs)) ∙ there)) [
  | inl first ↦ (zero, x, refl, first)
  | inr rest ↦ let later = flat_from f i xs rest in (suc later.0, later.1, later.2, later.3)
]

flat_has : {A : Type 0} (f : A → List ℕ) (i : ℕ) (xs : List A) (k : ℕ) (x : A) → slice_get xs k ≡ Some x → has i (f x) ≡ true → has i (flat_map f xs) ≡ true
flat_has f i [] k x there among = absurd (none-some x there)
flat_has f i (y ∷ xs) zero x there among = has-append i (f y) (flat_map f xs) ∙ or_left _ _ (ap (λ z. has i (f z)) (same_Some y x there) ∙ among)
flat_has f i (y ∷ xs) (suc k) x there among = has-append i (f y) (flat_map f xs) ∙ or_right _ _ (flat_has f i xs k x there among)

-- the spot of a use
spot_of : (spots : List Spot) (k : ℕ) (u : Use) → slice_get (map (λ s. s.one) spots) k ≡ Some u → (s : Spot) × (slice_get spots k ≡ Some s) × (s.one ≡ u)
spot_of [] k u there = absurd (none-some u there)
spot_of (s ∷ spots) zero u there = (s, refl, same_Some s.one u there)
spot_of (s ∷ spots) (suc k) u there = spot_of spots k u there

-- each spot is where its cell's row is
abbrev pub Placed : (Cell → Option ℕ) → List Spot → Type 0
Placed at spots = (k : ℕ) (s : Spot) → slice_get spots k ≡ Some s → at s.one.cell ≡ Some s.place

module _ (ds : List (List Use)) (at : Cell → Option ℕ) (lines : List Line) (spots : List Spot) (tell : RowsTell ds at lines) (placed : Placed at spots) where
  -- whoever is found is waited for directly
  pub found_direct : (i : ℕ) → has i (found_all lines spots) ≡ true → IsDirect (ds ++ map (λ s. s.one) spots ∷ []) i (length ds)
  found_direct i among =
      let us : List Use = map (λ s. s.one) spots in
      let from = flat_from (λ (s : Spot). row_waits_for (entry_at lines (Some s.place)) s.one.mode) i spots among in
      let s : Spot = from.1 in
      let c : Cell = s.one.cell in
      let here : slice_get us from.0 ≡ Some s.one = slice_get-map (λ (s : Spot). s.one) spots from.0 ∙ ap (option_map (λ (s : Spot). s.one)) from.2 in
      let is : has i (row_waits_for (entry_at lines (at c)) s.one.mode) ≡ true = ap (λ o. has i (row_waits_for (entry_at lines o) s.one.mode)) (placed from.0 s from.2) ∙ from.3 in
      let told = found_sound (λ i. uses_cell c (get_or ds i [])) (λ i. writes_cell c (get_or ds i [])) (entry_at lines (at c)) s.one.mode i (tell c) (λ k. writes-uses c (get_or ds k [])) is in
      let within : i < length ds = use_within ds c i told.0 in
      let at_n : get_or (ds ++ us ∷ []) (length ds) [] ≡ us = get_or_push ds us [] (length ds) refl in
      let at_i : get_or (ds ++ us ∷ []) i [] ≡ get_or ds i [] = get_or-behind ds us i (λ same. omega (arith, same)) in
      record {
        cell = c;
        order = within;
        used = ap (uses_cell c) at_i ∙ told.0;
        uses = ap (uses_cell c) at_n ∙ any_passes_from_place (λ u. same_cell u.cell c) us from.0 s.one here (cell_itself c c refl);
        written = elim (or_cases (writes_cell c (get_or ds i [])) (is_write s.one.mode) told.1) [
          | inl first ↦ or_left _ _ (ap (writes_cell c) at_i ∙ first)
          | inr second ↦ or_right _ _ (ap (writes_cell c) at_n ∙ any_passes_from_place (λ u. same_cell u.cell c && is_write u.mode) us from.0 s.one here (and_from (same_cell c c) (is_write s.one.mode) (cell_itself c c refl) second))
        ];
        between = λ k after before. ap (writes_cell c) (get_or-behind ds us k (λ same. omega (arith, same))) ∙ told.2 k after;
      }

  -- and whoever is waited for directly is found
  pub direct_found : (i : ℕ) → IsDirect (ds ++ map (λ s. s.one) spots ∷ []) i (length ds) → has i (found_all lines spots) ≡ true
  direct_found i direct =
      let us : List Use = map (λ s. s.one) spots in
      let c : Cell = direct.cell in
      let order : i < length ds = direct.order in
      let at_n : get_or (ds ++ us ∷ []) (length ds) [] ≡ us = get_or_push ds us [] (length ds) refl in
      let at_i : get_or (ds ++ us ∷ []) i [] ≡ get_or ds i [] = get_or-behind ds us i (λ same. omega (arith, same)) in
      let used : uses_cell c (get_or ds i []) ≡ true = ap (uses_cell c) (sym at_i) ∙ direct.used in
      let none : (k : ℕ) → i < k → writes_cell c (get_or ds k []) ≡ false = λ k after. elim (cases_lt k (length ds)) [
        | inl before ↦ ap (writes_cell c) (sym (get_or-behind ds us k (λ same. omega (arith, same)))) ∙ direct.between k after before
        | inr past ↦ ap (writes_cell c) (get_or_past ds k [] past)
      ] in
      elim (or_cases (writes_cell c (get_or (ds ++ us ∷ []) i [])) (writes_cell c (get_or (ds ++ us ∷ []) (length ds) [])) direct.written) [
        | inl first ↦
            let u = use_found c us (ap (uses_cell c) (sym at_n) ∙ direct.uses) in
            let s = spot_of spots u.0 u.1 (slice_get-get_or us u.0 u.1 u.2 ∙ ap Some u.3) in
            by i used none s.0 u.0 s.1 (ap (λ (v : Use). v.cell) s.2 ∙ u.4) (or_left (writes_cell c (get_or ds i [])) (is_write s.0.one.mode) (ap (writes_cell c) (sym at_i) ∙ first))
        | inr second ↦
            let u = write_found c us (ap (writes_cell c) (sym at_n) ∙ second) in
            let s = spot_of spots u.0 u.1 (slice_get-get_or us u.0 u.1 u.2 ∙ ap Some u.3) in
            by i used none s.0 u.0 s.1 (ap (λ (v : Use). v.cell) s.2 ∙ u.4.0) (or_right (writes_cell c (get_or ds i [])) (is_write s.0.one.mode) (ap (λ (v : Use). is_write v.mode) s.2 ∙ u.4.1))
      ]
    where
      by : (i : ℕ) → uses_cell direct.cell (get_or ds i []) ≡ true → ((k : ℕ) → i < k → writes_cell direct.cell (get_or ds k []) ≡ false) → (s : Spot) (k : ℕ) → slice_get spots k ≡ Some s → s.one.cell ≡ direct.cell →
          (writes_cell direct.cell (get_or ds i []) || is_write s.one.mode) ≡ true → has i (found_all lines spots) ≡ true
      by i used none s k there same one =
          let c : Cell = direct.cell in
          let among = found_complete (λ i. uses_cell c (get_or ds i [])) (λ i. writes_cell c (get_or ds i [])) (entry_at lines (at c)) s.one.mode i (tell c) used one none in
          let at_c : at c ≡ Some s.place = ap at (sym same) ∙ placed k s there in
          flat_has (λ (s : Spot). row_waits_for (entry_at lines (Some s.place)) s.one.mode) i spots k s there (ap (λ o. has i (row_waits_for (entry_at lines o) s.one.mode)) (sym at_c) ∙ among)
