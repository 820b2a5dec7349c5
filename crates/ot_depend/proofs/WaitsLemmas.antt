-- The rows of its cells tell whether a wait has to wait.
use Rattle.std.proofs.Common.{◌≡◌, ◌<◌, ◌≤◌, ◌||◌, ◌&&◌, ◌==◌, ℕ, zero, suc, List, [], ◌∷◌, length, Bool, true, false, not, get_or, cond, Some, refl, sym, ap, ◌∙◌, subst, arith, true≢false, inl, inr}
use Rattle.std.specs.List.{list_any, slice_get}
use Rattle.std.specs.Option.{option_to_list}
use Rattle.std.proofs.Math.Dec.{ltb}
use Rattle.std.proofs.lemmas.Bool.{ltb-true, ltb-false, eqb-true, eq-eqb, not-true, both_ways, false_from_ne_true, cases_eq, and_parts, and_from, or_cases, or_left, or_right}
use Rattle.std.proofs.lemmas.List.{take_all}
use Rattle.std.proofs.lemmas.List.Folds.{Any-from_list_any}
use Rattle.std.proofs.lemmas.Option.{same_Some, none-some}
use Rattle.ot_model.specs.declared.expr.Cell.{Cell}
use Rattle.ot_model.specs.declared.stmt.Mode.{Mode}
use Rattle.ot_model.specs.declared.stmt.Use.{Use}
use Rattle.ot_depend.specs.Siblings.{Sibling, FinishedAreReady, AreFree, is_unfinished, is_awaited, waits_for, with_finished, is_write, uses_cell, writes_cell, has}
use Rattle.ot_model.specs.Cells.{depends_on}
use Rattle.ot_depend.specs.Kept.{Kid, Entry, RowIs, decls, siblings, row_waits_for}
use Rattle.ot_depend.specs.Cells.{entry_of, place_of, lines_of, RowsTell, is_pending, must_wait, some_must_wait}
use Rattle.ot_depend.specs.declared.cells.Table.{Table}
use Rattle.ot_depend.proofs.HeartLemmas.{use_found, use_there, write_found, write_there, writes-uses, MeetsAt, MeetsAt-from_DependsOn, DependsOn-from_MeetsAt, decl_at, known_from_use, awaited}
use Rattle.ot_depend.proofs.ReadyLemmas.{any_found, any_tested, same_answer, DependsOn-from_test, depends_on-from_DependsOn}
use Rattle.ot_depend.proofs.RowLemmas.{has-append, found_sound}

-- a child that passes a test, and its place
any_place : (p : Sibling → Bool) (ss : List Sibling) → list_any p ss ≡ true → (i : ℕ) × (s : Sibling) × (slice_get ss i ≡ Some s) × (p s ≡ true)
any_place p [] passed = absurd (true≢false (sym passed))
any_place p (s ∷ ss) passed = elim (or_cases (p s) (list_any p ss) passed) [
  | inl here ↦ (zero, s, refl, here)
  | inr there ↦ let later = any_place p ss there in (suc later.0, later.1, later.2, later.3)
]

any_at : (p : Sibling → Bool) (ss : List Sibling) (i : ℕ) (s : Sibling) → slice_get ss i ≡ Some s → p s ≡ true → list_any p ss ≡ true
any_at p [] i s known passes = absurd (none-some s known)
any_at p (r ∷ ss) zero s known passes = or_left (p r) (list_any p ss) (ap p (same_Some r s known) ∙ passes)
any_at p (r ∷ ss) (suc i) s known passes = or_right (p r) (list_any p ss) (any_at p ss i s known passes)

-- a number in a list that passes a test
any_number : (p : ℕ → Bool) (xs : List ℕ) → list_any p xs ≡ true → (n : ℕ) × (has n xs ≡ true) × (p n ≡ true)
any_number p xs passed =
    let row_waits_for = Any-from_list_any p xs passed in
    (row_waits_for.1, any_tested (λ x. x ≡ row_waits_for.1) (λ x. x == row_waits_for.1) (λ x. eq-eqb x row_waits_for.1) xs (row_waits_for.0, row_waits_for.1, row_waits_for.2, row_waits_for.3, refl), row_waits_for.4)

number_any : (p : ℕ → Bool) (n : ℕ) (xs : List ℕ) → has n xs ≡ true → p n ≡ true → list_any p xs ≡ true
number_any p n xs there passes = any_tested (λ x. x ≡ n) p (λ x is. ap p is ∙ passes) xs (any_found (λ x. x ≡ n) (λ x. x == n) (λ x. eqb-true x n) xs there)

-- who is pending is known and has not finished
known-from_pending : (kids : List Kid) (i : ℕ) → is_pending kids i ≡ true → (s : Sibling) × (slice_get (siblings kids) i ≡ Some s) × (s.finished ≡ false)
known-from_pending [] i pending = absurd (true≢false (sym pending))
known-from_pending (k ∷ ks) zero pending = (k.it, refl, not-true k.it.finished pending)
known-from_pending (k ∷ ks) (suc i) pending = known-from_pending ks i pending

pending-from_known : (kids : List Kid) (i : ℕ) (s : Sibling) → slice_get (siblings kids) i ≡ Some s → s.finished ≡ false → is_pending kids i ≡ true
pending-from_known [] i s known unfinished = absurd (none-some s known)
pending-from_known (k ∷ ks) zero s known unfinished = ap (λ (t : Sibling). not t.finished) (same_Some k.it s known) ∙ ap not unfinished
pending-from_known (k ∷ ks) (suc i) s known unfinished = pending-from_known ks i s known unfinished

module _ (kids : List Kid) (ready : FinishedAreReady (siblings kids)) where
  uses_at : Cell → ℕ → Bool
  uses_at c i = uses_cell c (get_or (decls (siblings kids)) i [])

  writes_at : Cell → ℕ → Bool
  writes_at c i = writes_cell c (get_or (decls (siblings kids)) i [])

  -- a later child that writes a cell depends on whoever uses it, so it is pending as long as that one is
  writer_pending : (c : Cell) (i k : ℕ) (s : Sibling) → slice_get (siblings kids) i ≡ Some s → s.finished ≡ false → uses_cell c s.uses ≡ true → i < k → writes_at c k ≡ true → is_pending kids k ≡ true
  unfolding writes_at MeetsAt
  writer_pending c i k s known unfinished uses before writes =
      let w = known_from_use (siblings kids) c k (writes-uses c (get_or (decls (siblings kids)) k []) writes) in
      let itself : writes_cell c w.0.uses ≡ true = ap (writes_cell c) (sym w.2) ∙ writes in
      let meets : MeetsAt s.uses w.0.uses = (c, uses, writes-uses c w.0.uses itself, or_right (writes_cell c s.uses) (writes_cell c w.0.uses) itself) in
      pending-from_known kids k w.0 w.1
      (false_from_ne_true w.0.finished (λ finished. both_ways s.finished unfinished (awaited (siblings kids) k w.0 i s (ready k w.0 w.1 finished) w.1 before known meets)))

  -- of an unfinished child that uses the cell, where it or the wait writes it, the row tells, or of a later one that writes the cell
  row_complete : (c : Cell) (e : Entry) (mode : Mode) (i : ℕ) (s : Sibling) → RowIs (uses_at c) (writes_at c) e.writer e.users →
      slice_get (siblings kids) i ≡ Some s → s.finished ≡ false → uses_cell c s.uses ≡ true → (writes_cell c s.uses || is_write mode) ≡ true → must_wait kids mode e ≡ true
  unfolding uses_at writes_at
  row_complete c e mode i s row known unfinished uses written = elim (or_cases (writes_cell c s.uses) (is_write mode) written) [
    | inl writes ↦ by_writer (row.last i (ap (writes_cell c) (decl_at (siblings kids) i s known) ∙ writes))
    | inr is ↦ elim (row.all i (ap (uses_cell c) (decl_at (siblings kids) i s known) ∙ uses)) [
      | inl among ↦ told i (or_right (has i (option_to_list e.writer)) _ (ap (λ b. has i (cond b e.users [])) is ∙ among)) pending
      | inr later ↦ by_writer later
    ]
  ]
    where
      pending : is_pending kids i ≡ true
      pending = pending-from_known kids i s known unfinished

      told : (k : ℕ) → (has k (option_to_list e.writer) || has k (cond (is_write mode) e.users [])) ≡ true → is_pending kids k ≡ true → must_wait kids mode e ≡ true
      told k there = number_any (is_pending kids) k (row_waits_for e mode) (has-append k (option_to_list e.writer) (cond (is_write mode) e.users []) ∙ there)

      by_writer : (k : ℕ) × (e.writer ≡ Some k) × (i ≤ k) → must_wait kids mode e ≡ true
      by_writer (k, is, after) = told k (or_left _ (has k (cond (is_write mode) e.users [])) (ap (λ o. has k (option_to_list o)) is ∙ or_left _ false (eq-eqb k k refl))) (elim (cases_eq i k) [
        | inl same ↦ subst (λ n. is_pending kids n ≡ true) same pending
        | inr apart ↦ writer_pending c i k s known unfinished uses (omega arith) (row.writes k is)
      ])

  module _ (t : Table) (tell : RowsTell (decls (siblings kids)) (place_of t) (lines_of t.rows.items)) where
    -- of a use that has to wait the row tells a child that is awaited
    waits_for-from_rows : (uses : List Use) → some_must_wait kids t uses ≡ true → waits_for (siblings kids) uses ≡ true
    unfolding MeetsAt uses_at writes_at
    waits_for-from_rows uses passed =
        let u = Any-from_list_any (λ v. must_wait kids v.mode (entry_of t v.cell)) uses passed in
        let c = u.1.cell in
        let child = any_number (is_pending kids) (row_waits_for (entry_of t c) u.1.mode) u.4 in
        let s = known-from_pending kids child.0 child.2 in
        let told = found_sound (uses_at c) (writes_at c) (entry_of t c) u.1.mode child.0 (tell c) (λ k. writes-uses c (get_or (decls (siblings kids)) k [])) child.1 in
        let its = decl_at (siblings kids) child.0 s.0 s.1 in
        let written : (writes_cell c s.0.uses || writes_cell c uses) ≡ true = elim (or_cases (writes_at c child.0) (is_write u.1.mode) told.1) [
          | inl writes ↦ or_left (writes_cell c s.0.uses) (writes_cell c uses) (ap (writes_cell c) (sym its) ∙ writes)
          | inr is ↦ or_right (writes_cell c s.0.uses) (writes_cell c uses) (write_there c uses (u.0, u.1, u.2, u.3, (refl, is)))
        ] in
        let meets : MeetsAt s.0.uses uses = (c, ap (uses_cell c) (sym its) ∙ told.0, use_there c uses (u.0, u.1, u.2, u.3, refl), written) in
        any_at (is_awaited uses) (siblings kids) child.0 s.0 s.1
        (and_from _ _ (ap not s.2) (depends_on-from_DependsOn s.0.uses uses (DependsOn-from_MeetsAt s.0.uses uses meets)))

    -- and of an awaited child the row of a cell that it shares with the wait tells
    rows-from_waits_for : (uses : List Use) → waits_for (siblings kids) uses ≡ true → some_must_wait kids t uses ≡ true
    unfolding MeetsAt uses_at writes_at
    rows-from_waits_for uses passed =
        let s = any_place (is_awaited uses) (siblings kids) passed in
        let parts = and_parts _ _ s.3 in
        let meets : MeetsAt s.1.uses uses = MeetsAt-from_DependsOn s.1.uses uses (DependsOn-from_test s.1.uses uses parts.1) in
        let c = meets.0 in
        let at : (u : Use) → u.cell ≡ c → (writes_cell c s.1.uses || is_write u.mode) ≡ true → must_wait kids u.mode (entry_of t u.cell) ≡ true =
        λ u is written. subst (λ d. must_wait kids u.mode (entry_of t d) ≡ true) (sym is) (row_complete c (entry_of t c) u.mode s.0 s.1 (tell c) s.2 (not-true s.1.finished parts.0) meets.1 written) in
        elim (or_cases (writes_cell c s.1.uses) (writes_cell c uses) meets.3) [
          | inl writes ↦ any_tested (λ u. u.cell ≡ c) (λ u. must_wait kids u.mode (entry_of t u.cell)) (λ u is. at u is (or_left _ _ writes)) uses (use_found c uses meets.2)
          | inr writes ↦ any_tested (λ u. (u.cell ≡ c) × (is_write u.mode ≡ true)) (λ u. must_wait kids u.mode (entry_of t u.cell)) (λ u is. at u is.0 (or_right _ _ is.1)) uses (write_found c uses writes)
        ]

    pub rows-waits_for : (uses : List Use) → some_must_wait kids t uses ≡ waits_for (siblings kids) uses
    rows-waits_for uses = same_answer (some_must_wait kids t uses) (waits_for (siblings kids) uses) (waits_for-from_rows uses) (rows-from_waits_for uses)

    -- a wait awaits somebody where it has to wait at one of its uses
    pub counted : (uses : List Use) (place : ℕ) → (AreFree (siblings kids) uses 0 → AreFree (siblings kids) uses place)
        → (place < length uses → waits_for (siblings kids) uses ≡ true) → ltb place (length uses) ≡ waits_for (siblings kids) uses
    counted uses place free whole = by (ltb place (length uses)) refl
      where
        by : (below : Bool) → ltb place (length uses) ≡ below → below ≡ waits_for (siblings kids) uses
        by true is = sym (whole (ltb-true place (length uses) is))
        by false is = sym (ap (waits_for (siblings kids)) (sym (take_all place uses (ltb-false place (length uses) is))) ∙ free (sym (rows-waits_for [])))

depends-none : (uses : List Use) → depends_on uses [] ≡ false
depends-none [] = refl
depends-none (u ∷ us) = depends-none us

awaited-none : (a b c : Bool) → b ≡ false → c ≡ false → ((a && b) || c) ≡ false
awaited-none false b c one rest = rest
awaited-none true b c one rest = ap (λ z. z || c) one ∙ rest

-- a wait awaits nobody at none of its uses
pub free-none : (ss : List Sibling) (uses : List Use) → AreFree ss uses 0
free-none [] uses = refl
free-none (s ∷ ss) uses = awaited-none (is_unfinished s) (depends_on s.uses []) (waits_for ss []) (depends-none s.uses) (free-none ss uses)

free-parts : (a b : Bool) → (a || b) ≡ false → (a ≡ false) × (b ≡ false)
free-parts true b free = absurd (true≢false free)
free-parts false b free = (refl, free)

-- where it awaits nobody, it awaits nobody once a child has finished
pub free-finished : (ss : List Sibling) (child : ℕ) (uses : List Use) → waits_for ss uses ≡ false → waits_for (with_finished ss child) uses ≡ false
free-finished [] child uses free = free
free-finished (s ∷ ss) zero uses free = (free-parts (is_awaited uses s) (waits_for ss uses) free).1
free-finished (s ∷ ss) (suc child) uses free =
    let parts = free-parts (is_awaited uses s) (waits_for ss uses) free in
    ap (λ b. b || waits_for (with_finished ss child) uses) parts.0 ∙ free-finished ss child uses parts.1
