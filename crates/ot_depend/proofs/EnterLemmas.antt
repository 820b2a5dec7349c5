-- That the rows tell of the children, once a new one has its uses.
use Rattle.std.proofs.Common.{◌≡◌, ◌≢◌, ◌&&◌, ◌||◌, ℕ, suc, ◌≤◌, List, [], ◌∷◌, ◌++◌, Bool, true, false, cond, map, get_or, length, Option, Some, None, ◌⊎◌, inl, inr, refl, sym, ap, ◌∙◌, subst, arith, true≢false}
use Rattle.std.specs.List.{slice_get}
use Rattle.std.specs.Option.{option_map, unwrap_or}
use Rattle.std.proofs.lemmas.Bool.{cases_eq, or_right, and_from}
use Rattle.std.proofs.lemmas.Option.{same_Some}
use Rattle.std.proofs.lemmas.List.{append_assoc, append-nil, length-append, get_or_push, get_or_past}
use Rattle.std.proofs.lemmas.List.Folds.{list_any-append}
use Rattle.ot_model.proofs.CellsLemmas.{slice_get-updated, slice_get-updated-other}
use Rattle.ot_model.specs.Cells.{updated, same_cell}
use Rattle.ot_model.specs.declared.expr.Cell.{Cell}
use Rattle.ot_model.specs.declared.stmt.Use.{Use}
use Rattle.ot_depend.specs.Siblings.{is_write, uses_cell, writes_cell, has}
use Rattle.ot_depend.specs.Kept.{with_last, Entry, RowIs, row_entered_by}
use Rattle.ot_depend.specs.Cells.{Line, entry_at, nobody, enter, enter_all, RowsTell}
use Rattle.ot_depend.specs.declared.cells.Spot.{Spot}
use Rattle.ot_depend.proofs.ReadyLemmas.{one_cell, cell_itself}
use Rattle.ot_depend.proofs.ListLemmas.{has-with_last, has-with_last-kept, has-with_last-other}
use Rattle.ot_depend.proofs.LinkLemmas.{use_within, get_or-behind}
use Rattle.ot_depend.proofs.HeartLemmas.{writes-uses}
use Rattle.ot_depend.proofs.RowLemmas.{row_written, row_used, row_same}
use Rattle.ot_depend.proofs.LineLemmas.{Sound}
use Rattle.ot_depend.proofs.TruthLemmas.{Placed}

false_behind : (b : Bool) → (b || false) ≡ b
false_behind true = refl
false_behind false = refl

-- with one use more
uses-push : (c : Cell) (us : List Use) (u : Use) → uses_cell c (us ++ u ∷ []) ≡ (uses_cell c us || same_cell u.cell c)
uses-push c us u = list_any-append (λ v. same_cell v.cell c) us (u ∷ []) ∙ ap (λ b. uses_cell c us || b) (false_behind (same_cell u.cell c))

writes-push : (c : Cell) (us : List Use) (u : Use) → writes_cell c (us ++ u ∷ []) ≡ (writes_cell c us || (same_cell u.cell c && is_write u.mode))
writes-push c us u = list_any-append (λ v. same_cell v.cell c && is_write v.mode) us (u ∷ []) ∙ ap (λ b. writes_cell c us || b) (false_behind (same_cell u.cell c && is_write u.mode))

-- the last of the declarations, and the others
last_decl : (ds : List (List Use)) (us vs : List Use) (k : ℕ) → k ≢ length ds → get_or (ds ++ vs ∷ []) k [] ≡ get_or (ds ++ us ∷ []) k []
last_decl ds us vs k apart = get_or-behind ds vs k apart ∙ sym (get_or-behind ds us k apart)

module _ (ds : List (List Use)) (us : List Use) (one : Use) (c : Cell) (e : Entry)
    (row : RowIs (λ i. uses_cell c (get_or (ds ++ us ∷ []) i [])) (λ i. writes_cell c (get_or (ds ++ us ∷ []) i [])) e.writer e.users) where
  abbrev u2 : ℕ → Bool
  u2 = λ i. uses_cell c (get_or (ds ++ (us ++ one ∷ []) ∷ []) i [])

  abbrev w2 : ℕ → Bool
  w2 = λ i. writes_cell c (get_or (ds ++ (us ++ one ∷ []) ∷ []) i [])

  uses_n : u2 (length ds) ≡ (uses_cell c us || same_cell one.cell c)
  uses_n = ap (uses_cell c) (get_or_push ds (us ++ one ∷ []) [] (length ds) refl) ∙ uses-push c us one

  writes_n : w2 (length ds) ≡ (writes_cell c us || (same_cell one.cell c && is_write one.mode))
  writes_n = ap (writes_cell c) (get_or_push ds (us ++ one ∷ []) [] (length ds) refl) ∙ writes-push c us one

  below : (i : ℕ) → u2 i ≡ true → i ≤ length ds
  below i uses = let within = use_within (ds ++ (us ++ one ∷ []) ∷ []) c i uses in omega (arith, length-append ds ((us ++ one ∷ []) ∷ []))

  -- at another cell nothing is new
  pub row_apart : same_cell one.cell c ≡ false → RowIs (λ i. uses_cell c (get_or (ds ++ (us ++ one ∷ []) ∷ []) i [])) (λ i. writes_cell c (get_or (ds ++ (us ++ one ∷ []) ∷ []) i [])) e.writer e.users
  row_apart other = row_same _ _ _ _ e.writer e.users row (λ i. by_u i (cases_eq i (length ds))) (λ i. by_w i (cases_eq i (length ds)))
    where
      by_u : (i : ℕ) → (i ≡ length ds) ⊎ (i ≡ length ds → ⊥) → uses_cell c (get_or (ds ++ (us ++ one ∷ []) ∷ []) i []) ≡ uses_cell c (get_or (ds ++ us ∷ []) i [])
      by_u i (inl is) = ap (λ k. uses_cell c (get_or (ds ++ (us ++ one ∷ []) ∷ []) k [])) is ∙ uses_n ∙ ap (λ b. uses_cell c us || b) other ∙ false_behind (uses_cell c us)
          ∙ ap (uses_cell c) (sym (get_or_push ds us [] (length ds) refl)) ∙ ap (λ k. uses_cell c (get_or (ds ++ us ∷ []) k [])) (sym is)
      by_u i (inr apart) = ap (uses_cell c) (last_decl ds us (us ++ one ∷ []) i apart)

      by_w : (i : ℕ) → (i ≡ length ds) ⊎ (i ≡ length ds → ⊥) → writes_cell c (get_or (ds ++ (us ++ one ∷ []) ∷ []) i []) ≡ writes_cell c (get_or (ds ++ us ∷ []) i [])
      by_w i (inl is) = ap (λ k. writes_cell c (get_or (ds ++ (us ++ one ∷ []) ∷ []) k [])) is ∙ writes_n ∙ ap (λ b. writes_cell c us || (b && is_write one.mode)) other ∙ false_behind (writes_cell c us)
          ∙ ap (writes_cell c) (sym (get_or_push ds us [] (length ds) refl)) ∙ ap (λ k. writes_cell c (get_or (ds ++ us ∷ []) k [])) (sym is)
      by_w i (inr apart) = ap (writes_cell c) (last_decl ds us (us ++ one ∷ []) i apart)

  -- at its cell the new one is entered
  pub row_entered : same_cell one.cell c ≡ true → RowIs (λ i. uses_cell c (get_or (ds ++ (us ++ one ∷ []) ∷ []) i [])) (λ i. writes_cell c (get_or (ds ++ (us ++ one ∷ []) ∷ []) i [])) (row_entered_by (length ds) one.mode e).writer (row_entered_by (length ds) one.mode e).users
  row_entered same = by (is_write one.mode) refl
    where
      here : u2 (length ds) ≡ true
      here = uses_n ∙ or_right (uses_cell c us) (same_cell one.cell c) same

      low : (i : ℕ) → w2 i ≡ true → i ≤ length ds
      low i writes = below i (writes-uses c (get_or (ds ++ (us ++ one ∷ []) ∷ []) i []) writes)

      same_w : is_write one.mode ≡ false → (i : ℕ) → (i ≡ length ds) ⊎ (i ≡ length ds → ⊥) → writes_cell c (get_or (ds ++ (us ++ one ∷ []) ∷ []) i []) ≡ writes_cell c (get_or (ds ++ us ∷ []) i [])
      same_w no_write i (inl is) = ap (λ k. writes_cell c (get_or (ds ++ (us ++ one ∷ []) ∷ []) k [])) is ∙ writes_n ∙ ap (λ b. writes_cell c us || (b && is_write one.mode)) same ∙ ap (λ b. writes_cell c us || b) no_write ∙ false_behind (writes_cell c us)
          ∙ ap (writes_cell c) (sym (get_or_push ds us [] (length ds) refl)) ∙ ap (λ k. writes_cell c (get_or (ds ++ us ∷ []) k [])) (sym is)
      same_w no_write i (inr apart) = ap (writes_cell c) (last_decl ds us (us ++ one ∷ []) i apart)

      among : (i : ℕ) → has i (with_last (length ds) e.users) ≡ true → (has i e.users ≡ true) ⊎ (i ≡ length ds)
      among i there = elim (cases_eq i (length ds)) [ inl is ↦ inr is | inr apart ↦ inl (sym (has-with_last-other i (length ds) e.users apart) ∙ there) ]

      by : (b : Bool) → is_write one.mode ≡ b → RowIs u2 w2 (cond b (Some (length ds)) e.writer) (cond b [] (with_last (length ds) e.users))
      by true write = row_written u2 w2 (length ds) (writes_n ∙ or_right (writes_cell c us) _ (and_from (same_cell one.cell c) (is_write one.mode) same write)) below low
      by false no_write = row_used (λ i. uses_cell c (get_or (ds ++ us ∷ []) i [])) (λ i. writes_cell c (get_or (ds ++ us ∷ []) i [])) u2 w2 (length ds) e.writer e.users (with_last (length ds) e.users) row
          (λ i apart. ap (uses_cell c) (last_decl ds us (us ++ one ∷ []) i apart)) (λ i. same_w no_write i (cases_eq i (length ds))) here
          (λ i writes. low i (same_w no_write i (cases_eq i (length ds)) ∙ writes)) among (λ i there. has-with_last-kept i (length ds) e.users there) (has-with_last (length ds) e.users)

-- one use more
tell_more : (ds : List (List Use)) (us : List Use) (at : Cell → Option ℕ) (lines : List Line) (s : Spot) → RowsTell (ds ++ us ∷ []) at lines → Sound at lines → at s.one.cell ≡ Some s.place →
    RowsTell (ds ++ (us ++ s.one ∷ []) ∷ []) at (updated lines s.place (enter (length ds) s.one.mode))
tell_more ds us at lines s tell sound placed = λ c. by c (same_cell s.one.cell c) refl
  where
    here : (c : Cell) → s.one.cell ≡ c → entry_at (updated lines s.place (enter (length ds) s.one.mode)) (at c) ≡ row_entered_by (length ds) s.one.mode (entry_at lines (at c))
    here c same =
        let at_c : at c ≡ Some s.place = ap at (sym same) ∙ placed in
        let l = sound s.one.cell s.place placed in
        ap (entry_at (updated lines s.place (enter (length ds) s.one.mode))) at_c
        ∙ ap (λ o. unwrap_or (option_map (λ l. l.entry) o) nobody) (slice_get-updated lines s.place (enter (length ds) s.one.mode) ∙ ap (option_map (enter (length ds) s.one.mode)) l.1)
        ∙ ap (row_entered_by (length ds) s.one.mode) (ap (λ o. unwrap_or (option_map (λ l. l.entry) o) nobody) (sym l.1)) ∙ ap (λ o. row_entered_by (length ds) s.one.mode (entry_at lines o)) (sym at_c)

    apart : (c : Cell) → (s.one.cell ≡ c → ⊥) → (o : Option ℕ) → at c ≡ o → entry_at (updated lines s.place (enter (length ds) s.one.mode)) o ≡ entry_at lines o
    apart c other None is = refl
    apart c other (Some p) is =
        let mine = sound s.one.cell s.place placed in
        let its = sound c p is in
        ap (λ o. unwrap_or (option_map (λ l. l.entry) o) nobody) (slice_get-updated-other lines s.place p (enter (length ds) s.one.mode)
        (λ same. other (sym mine.2 ∙ ap (λ (l : Line). l.cell) (same_Some mine.0 its.0 (sym mine.1 ∙ ap (slice_get lines) same ∙ its.1)) ∙ its.2)))

    by : (c : Cell) (b : Bool) → same_cell s.one.cell c ≡ b → RowIs (λ i. uses_cell c (get_or (ds ++ (us ++ s.one ∷ []) ∷ []) i [])) (λ i. writes_cell c (get_or (ds ++ (us ++ s.one ∷ []) ∷ []) i []))
        (entry_at (updated lines s.place (enter (length ds) s.one.mode)) (at c)).writer (entry_at (updated lines s.place (enter (length ds) s.one.mode)) (at c)).users
    by c true same = subst (λ (e : Entry). RowIs (λ i. uses_cell c (get_or (ds ++ (us ++ s.one ∷ []) ∷ []) i [])) (λ i. writes_cell c (get_or (ds ++ (us ++ s.one ∷ []) ∷ []) i [])) e.writer e.users)
        (sym (here c (one_cell s.one.cell c same))) (row_entered ds us s.one c (entry_at lines (at c)) (tell c) same)
    by c false other = subst (λ (e : Entry). RowIs (λ i. uses_cell c (get_or (ds ++ (us ++ s.one ∷ []) ∷ []) i [])) (λ i. writes_cell c (get_or (ds ++ (us ++ s.one ∷ []) ∷ []) i [])) e.writer e.users)
        (sym (apart c (λ is. true≢false (sym (cell_itself s.one.cell c is) ∙ other)) (at c) refl)) (row_apart ds us s.one c (entry_at lines (at c)) (tell c) other)

-- rows stay where they are
pub Sound-entered : (n : ℕ) (at : Cell → Option ℕ) (lines : List Line) (s : Spot) → Sound at lines → Sound at (updated lines s.place (enter n s.one.mode))
Sound-entered n at lines s sound = λ c p is.
    let l = sound c p is in
    elim (cases_eq s.place p) [
      | inl same ↦ (
        enter n s.one.mode l.0,
        ap (slice_get (updated lines s.place (enter n s.one.mode))) (sym same) ∙ slice_get-updated lines s.place (enter n s.one.mode)
            ∙ ap (option_map (enter n s.one.mode)) (ap (slice_get lines) same ∙ l.1),
        l.2,
      )
      | inr apart ↦ (l.0, slice_get-updated-other lines s.place p (enter n s.one.mode) apart ∙ l.1, l.2)
    ]

pub Sound-all : (n : ℕ) (at : Cell → Option ℕ) (spots : List Spot) (lines : List Line) → Sound at lines → Sound at (enter_all n lines spots)
Sound-all n at [] lines sound = sound
Sound-all n at (s ∷ spots) lines sound = Sound-all n at spots (updated lines s.place (enter n s.one.mode)) (Sound-entered n at lines s sound)

-- all its uses
tell_all : (ds : List (List Use)) (at : Cell → Option ℕ) (spots : List Spot) (us : List Use) (lines : List Line) → RowsTell (ds ++ us ∷ []) at lines → Sound at lines → Placed at spots →
    RowsTell (ds ++ (us ++ map (λ s. s.one) spots) ∷ []) at (enter_all (length ds) lines spots)
tell_all ds at [] us lines tell sound placed = rw append-nil tell
tell_all ds at (s ∷ spots) us lines tell sound placed =
    subst (λ (vs : List Use). RowsTell (ds ++ vs ∷ []) at (enter_all (length ds) lines (s ∷ spots))) (append_assoc us (s.one ∷ []) (map (λ s. s.one) spots))
    (tell_all ds at spots (us ++ s.one ∷ []) (updated lines s.place (enter (length ds) s.one.mode)) (tell_more ds us at lines s tell sound (placed 0 s refl)) (Sound-entered (length ds) at lines s sound)
    (λ k t there. placed (suc k) t there))

pub RowsTell-entered : (ds : List (List Use)) (at : Cell → Option ℕ) (spots : List Spot) (lines : List Line) → RowsTell ds at lines → Sound at lines → Placed at spots →
    RowsTell (ds ++ map (λ s. s.one) spots ∷ []) at (enter_all (length ds) lines spots)
RowsTell-entered ds at spots lines tell sound placed = tell_all ds at spots [] lines (λ c. row_same _ _ _ _ _ _ (tell c) (λ i. ap (uses_cell c) (none i)) (λ i. ap (writes_cell c) (none i))) sound placed
  where
    none : (i : ℕ) → get_or (ds ++ [] ∷ []) i [] ≡ get_or ds i []
    none i = elim (cases_eq i (length ds)) [
      | inl is ↦ ap (λ k. get_or (ds ++ [] ∷ []) k []) is ∙ get_or_push ds [] [] (length ds) refl ∙ sym (get_or_past ds i [] (omega (arith, is)))
      | inr apart ↦ get_or-behind ds [] i apart
    ]
