-- Assignments on copies, given back, are the assignments on the cells.
use Rattle.std.proofs.Common.{◌≡◌, ◌⊎◌, ℕ, Option, Some, None, Bool, true, false, refl, sym, ap, subst, ◌∙◌, inl, inr, if◌then◌else◌, option_map, suc, cond, List, [], ◌∷◌, arith, true≢false, IsSome, find, All}
use Rattle.ot_job.proofs.Common.{join_by, unit_of, Cell, Mode, Reads, Writes, Folds, Use, E, Set, Fold, Body, End, Next, val, cell_of, same_cell, State, bump, change, serial, Operation, use_as, EachRead, EachTouch, same_is, Look, copies_assigned, AreAssigns, same_self, same_Some, option_map_id, lengths, is_fold, joined, is_at, first_at, value_at, AreJoined, LentCell, found-lent, cases_Bool}
use Rattle.ot_model.specs.Monoids.{join-associative, join-absorbed}
use Rattle.ot_model.specs.Cells.{with_cell}
use Rattle.ot_check.proofs.Cited.{read-weaker, value-same}
use Rattle.ot_job_task.specs.Copies.{with_copy}
use Rattle.ot_model.proofs.CellsLemmas.{same_cells}
use Rattle.ot_owner.proofs.LentLemmas.{same-from_is_at}
use Rattle.ot_model.proofs.CellsLemmas as model

-- ---- copies that are given back, and what their modes let a touch do

-- a cell, its copy, and what becomes of the cell when the copy is given back
abbrev pub IsGiven : Option Mode → (before copy after : Option ℕ) → Type 0
IsGiven None before copy after = after ≡ before
IsGiven (Some Reads) before copy after = (after ≡ before) × (copy ≡ before)
IsGiven (Some Writes) before copy after = after ≡ copy
IsGiven (Some (Folds op)) before copy after =
    (stored : ℕ) × (number : ℕ) × (before ≡ Some stored) × (copy ≡ Some number) × ((after ≡ Some (join_by op stored number)) ⊎ ((number ≡ unit_of op) × (after ≡ before)))

-- whether a copy in this mode lets itself be used so
abbrev pub LetsMode : Mode → Option Mode → Type 0
LetsMode wanted None = ⊥
LetsMode Reads (Some (Folds op)) = ⊥
LetsMode Reads (Some m) = Unit {0}
LetsMode Writes (Some Writes) = Unit {0}
LetsMode Writes (Some m) = ⊥
LetsMode (Folds op) (Some Reads) = ⊥
LetsMode (Folds op) (Some Writes) = Unit {0}
LetsMode (Folds op) (Some (Folds by)) = op ≡ by

-- a touch that the modes of the copies let it make
abbrev pub Lets : (Cell → Option Mode) → Use → Type 0
Lets modes u = LetsMode u.mode (modes u.cell)

-- ---- assignments on copies, given back, are the assignments on the cells

module _ (modes : Cell → Option Mode) (before : Look) where
  abbrev pub Given : Look → State → Type 0
  Given copies s = (d : Cell) → IsGiven (modes d) (before d) (copies d) (cell_of s.cells d)

  -- what may be read has its value in the copy
  read-same : (o : Option Mode) (was copy now : Option ℕ) → IsGiven o was copy now → LetsMode Reads o → now ≡ copy
  read-same (Some Reads) was copy now g may = g.0 ∙ sym g.1
  read-same (Some Writes) was copy now g may = g
  read-same o was copy now g may = absurd may

  pub value-copies : (copies : Look) (s : State) (e : E) → Given copies s → EachRead (λ c. Lets modes (use_as Reads c)) e → val (cell_of s.cells) e ≡ val copies e
  value-copies copies s e g may = value-same (cell_of s.cells) copies e (read-weaker _ _ e (λ c h. read-same (modes c) (before c) (copies c) (cell_of s.cells c) (g c) h) may)

  set_at : (o : Option Mode) (was copy now : Option ℕ) (n : ℕ) → LetsMode Writes o → IsGiven o was copy now
      → IsGiven o was (option_map (λ _. n) copy) (option_map (λ _. n) now)
  set_at (Some Writes) was copy now n may g = ap (option_map (λ _. n)) g
  set_at o was copy now n may g = absurd may

  -- a copy that begins at the unit, and its cell, through one fold
  folded : (op : Operation) (was copy now : Option ℕ) (v : ℕ) → IsGiven (Some (Folds op)) was copy now
      → IsGiven (Some (Folds op)) was (option_map (λ n. join_by op n v) copy) (option_map (λ n. join_by op n v) now)
  folded op was copy now v (stored, number, p, q, inl r) =
      (stored, join_by op number v, p, ap (option_map (λ n. join_by op n v)) q, inl (ap (option_map (λ n. join_by op n v)) r ∙ ap Some (join-associative op stored number v)))
  folded op was copy now v (stored, number, p, q, inr r) = (
    stored,
    join_by op number v,
    p,
    ap (option_map (λ n. join_by op n v)) q,
    inl (ap (option_map (λ n. join_by op n v)) (r.1 ∙ p) ∙ ap Some (sym (join-absorbed op stored v) ∙ ap (λ u. join_by op stored (join_by op u v)) (sym r.0))),
  )

  fold_at : (op : Operation) (o : Option Mode) (was copy now : Option ℕ) (v : ℕ) → LetsMode (Folds op) o → IsGiven o was copy now
      → IsGiven o was (option_map (λ n. join_by op n v) copy) (option_map (λ n. join_by op n v) now)
  fold_at op (Some Writes) was copy now v may g = ap (option_map (λ n. join_by op n v)) g
  fold_at op (Some (Folds by)) was copy now v may g =
      subst (λ (b : Operation). IsGiven (Some (Folds by)) was (option_map (λ n. join_by b n v) copy) (option_map (λ n. join_by b n v) now)) (sym may) (folded by was copy now v g)
  fold_at op o was copy now v may g = absurd may

  -- one copy and its cell change alike, and no other does
  moved : (copies : Look) (s : State) (c : Cell) (f : ℕ → ℕ) → Given copies s
      → IsGiven (modes c) (before c) (option_map f (copies c)) (option_map f (cell_of s.cells c)) → Given (with_copy copies c f) (change s c f)
  moved copies s c f g here d = at (same_cell c d) refl
    where
      at : (b : Bool) → same_cell c d ≡ b → IsGiven (modes d) (before d) (if same_cell c d then option_map f (copies d) else copies d) (cell_of (with_cell s.cells c f) d)
      at true e =
          rw e (subst (λ x. IsGiven (modes x) (before x) (option_map f (copies x)) (cell_of (with_cell s.cells c f) x)) (same_is c d e)
          (subst (IsGiven (modes c) (before c) (option_map f (copies c))) (sym (model.cell_of-with_cell s.cells c f)) here))
      at false e =
          rw e (subst (IsGiven (modes d) (before d) (copies d)) (sym (model.cell_of-with_cell-other s.cells c d f (λ same. true≢false (sym (same_self c d same) ∙ e)))) (g d))

  -- the copies after the assignments, given back, are the cells after them
  pub given-serial : (piece : Body) (copies : Look) (s : State) → AreAssigns piece → EachTouch (Lets modes) piece → Given copies s → Given (copies_assigned piece copies) (serial piece s)
  given-serial End copies s only may g = g
  given-serial (Next (Set c e) rest) copies s only may g =
      let v = val (cell_of s.cells) e in
      let same = value-copies copies s e g may.0.0 in
      given-serial rest (with_copy copies c (λ _. val copies e)) (bump 0 1 (change s c (λ _. v))) only may.1
      (subst (λ n. Given (with_copy copies c (λ _. n)) (change s c (λ _. v))) same (moved copies s c (λ _. v) g (set_at (modes c) (before c) (copies c) (cell_of s.cells c) v may.0.1 (g c))))
  given-serial (Next (Fold op c e) rest) copies s only may g =
      let v = val (cell_of s.cells) e in
      let same = value-copies copies s e g may.0.0 in
      given-serial rest (with_copy copies c (λ n. join_by op n (val copies e))) (bump 0 1 (change s c (λ n. join_by op n v))) only may.1
      (subst (λ w. Given (with_copy copies c (λ n. join_by op n w)) (change s c (λ n. join_by op n v))) same (moved copies s c (λ n. join_by op n v) g (fold_at op (modes c) (before c) (copies c) (cell_of s.cells c) v may.0.1 (g c))))
  given-serial (Next x rest) copies s only may g = absurd only

-- ---- the cells once a piece has come back are the cells after its assignments

-- the cells have what the copies began with
pub record HasInputs (cells : List (List ℕ)) (l : LentCell) : Type 0 where
  pub there : IsSome (cell_of cells l.cell)
  pub same : is_fold l.mode ≡ false → cell_of cells l.cell ≡ Some l.first
  pub unit : (op : Operation) → l.mode ≡ Folds op → l.first ≡ unit_of op

-- what holds of all holds of the one that is found
pub found : (P : LentCell → Type 0) (lent : List LentCell) (c : Cell) (l : LentCell) → All P lent → find (is_at c) lent ≡ Some l → P l × (l.cell ≡ c)
found P [] c l all h = cc
found P (x ∷ lent) c l all h = elim (cases_Bool (is_at c x)) [
  | inl e ↦ let one : x ≡ l = same_Some x l (sym (ap (λ b. cond b (Some x) (find (is_at c) lent)) e) ∙ h) in
      (subst P one (all 0 x (omega arith)), subst (λ (y : LentCell). y.cell ≡ c) one (same-from_is_at c x e))
  | inr e ↦ found P lent c l (λ k d within. all (suc k) d (omega (arith, within))) (sym (ap (λ b. cond b (Some x) (find (is_at c) lent)) e) ∙ h)
]

abbrev pub mode_at : List LentCell → Cell → Option Mode
mode_at lent c = option_map (λ l. l.mode) (find (is_at c) lent)

module _ (first last : List LentCell) (before after : List (List ℕ)) (piece : Body)
    (modes_same : (c : Cell) → mode_at last c ≡ mode_at first c)
    (inputs : All (HasInputs before) first)
    (made : (c : Cell) → value_at last c ≡ copies_assigned piece (first_at first) c)
    (only : AreAssigns piece) (may : EachTouch (Lets (mode_at first)) piece)
    (back : AreJoined last (cell_of before) (cell_of after))
    (there : All (λ l. IsSome (cell_of before l.cell)) last)
  where
    abbrev pub begin : State
    begin = record { cells = before; tasks = 0; units = 0 }

    start : (c : Cell) → IsGiven (mode_at first c) (cell_of before c) (first_at first c) (cell_of before c)
    start c = pick (find (is_at c) first) refl
      where
        given : (l : LentCell) (m : Mode) → l.mode ≡ m → HasInputs before l → l.cell ≡ c → IsGiven (Some m) (cell_of before c) (Some l.first) (cell_of before c)
        given l Reads is h at = (refl, sym (sym (ap (cell_of before) at) ∙ h.same (ap is_fold is)))
        given l Writes is h at = sym (ap (cell_of before) at) ∙ h.same (ap is_fold is)
        given l (Folds op) is h at = some (cell_of before c) refl
          where
            some : (o : Option ℕ) → cell_of before c ≡ o → IsGiven (Some (Folds op)) (cell_of before c) (Some l.first) (cell_of before c)
            some None e = absurd (true≢false (sym (subst IsSome (ap (cell_of before) at ∙ e) h.there)))
            some (Some n) e = (n, l.first, e, refl, inr (h.unit op is, refl))

        pick : (o : Option LentCell) → find (is_at c) first ≡ o → IsGiven (mode_at first c) (cell_of before c) (first_at first c) (cell_of before c)
        pick None e = rw e refl
        pick (Some l) e = let f = found (HasInputs before) first c l inputs e in rw e (given l l.mode refl f.0 f.1)

    done : (c : Cell) → IsGiven (mode_at first c) (cell_of before c) (copies_assigned piece (first_at first) c) (cell_of (serial piece begin).cells c)
    done c = given-serial (mode_at first) (cell_of before) piece (first_at first) begin only may start c

    each : (c : Cell) → cell_of after c ≡ cell_of (serial piece begin).cells c
    each c = pick (find (is_at c) last) refl (subst (λ (v : Option ℕ). IsGiven (mode_at first c) (cell_of before c) v (cell_of (serial piece begin).cells c)) (sym (made c)) (done c))
      where
        joins : (l : LentCell) (m : Mode) (now : Option ℕ) → l.mode ≡ m → l.cell ≡ c → cell_of after l.cell ≡ option_map (λ stored. joined l.mode stored l.value) (cell_of before l.cell)
            → ((op : Operation) → l.mode ≡ Folds op → l.value ≡ unit_of op → cell_of after l.cell ≡ cell_of before l.cell)
            → IsSome (cell_of before l.cell) → IsGiven (Some m) (cell_of before c) (Some l.value) now → cell_of after c ≡ now
        joins l Reads now is at j u there g =
            ap (cell_of after) (sym at) ∙ j ∙ ap (λ (m : Mode). option_map (λ stored. joined m stored l.value) (cell_of before l.cell)) is ∙ option_map_id (cell_of before l.cell) ∙ ap (cell_of before) at ∙ sym g.0
        joins l Writes now is at j u there g =
            ap (cell_of after) (sym at) ∙ j ∙ ap (λ (m : Mode). option_map (λ stored. joined m stored l.value) (cell_of before l.cell)) is ∙ value (cell_of before l.cell) there ∙ sym g
          where
            value : (o : Option ℕ) → IsSome o → option_map (λ (stored : ℕ). l.value) o ≡ Some l.value
            value None h = absurd (true≢false (sym h))
            value (Some n) h = refl
        joins l (Folds op) now is at j u there (stored, number, p, q, inl e) =
            let s : l.value ≡ number = same_Some l.value number q in
            ap (cell_of after) (sym at) ∙ j ∙ ap (λ (m : Mode). option_map (λ stored. joined m stored l.value) (cell_of before l.cell)) is
            ∙ ap (option_map (λ stored. joined (Folds op) stored l.value)) (ap (cell_of before) at ∙ p) ∙ ap (λ n. Some (join_by op stored n)) s ∙ sym e
        joins l (Folds op) now is at j u there (stored, number, p, q, inr e) =
            ap (cell_of after) (sym at) ∙ u op is (same_Some l.value number q ∙ e.0) ∙ ap (cell_of before) at ∙ sym e.1

        pick : (o : Option LentCell) → find (is_at c) last ≡ o → IsGiven (mode_at first c) (cell_of before c) (value_at last c) (cell_of (serial piece begin).cells c) → cell_of after c ≡ cell_of (serial piece begin).cells c
        pick None e g =
            back.others c (λ lent. true≢false (sym (subst IsSome e ((found-lent last c).1 lent))))
            ∙ sym (subst (λ (m : Option Mode). IsGiven m (cell_of before c) (value_at last c) (cell_of (serial piece begin).cells c)) (sym (modes_same c) ∙ ap (option_map (λ l. l.mode)) e) g)
        pick (Some l) e g =
            let f = found (λ l. (cell_of after l.cell ≡ option_map (λ stored. joined l.mode stored l.value) (cell_of before l.cell))
            × ((op : Operation) → l.mode ≡ Folds op → l.value ≡ unit_of op → cell_of after l.cell ≡ cell_of before l.cell) × IsSome (cell_of before l.cell)) last c l
            (λ k d within. (back.lent_cells k d within, back.untouched k d within, there k d within)) e in
            joins l l.mode (cell_of (serial piece begin).cells c) refl f.1 f.0.0 f.0.1 f.0.2
            (subst (λ (m : Option Mode). IsGiven m (cell_of before c) (Some l.value) (cell_of (serial piece begin).cells c)) (sym (modes_same c) ∙ ap (option_map (λ l. l.mode)) e)
            (subst (λ (v : Option ℕ). IsGiven (mode_at first c) (cell_of before c) v (cell_of (serial piece begin).cells c)) (ap (option_map (λ l. l.value)) e) g))

    -- what comes back is the piece's serial meaning
    pub back-serial : lengths after ≡ lengths (serial piece begin).cells → after ≡ (serial piece begin).cells
    back-serial long = same_cells after (serial piece begin).cells long each

    -- a condition has on the copies the value that it has then
    pub test-serial : (e : E) → EachRead (λ c. Lets (mode_at first) (use_as Reads c)) e → val (value_at last) e ≡ val (cell_of (serial piece begin).cells) e
    test-serial e lets =
        sym (value-copies (mode_at first) (cell_of before) (value_at last) (serial piece begin) e
        (λ c. subst (λ (v : Option ℕ). IsGiven (mode_at first c) (cell_of before c) v (cell_of (serial piece begin).cells c)) (sym (made c)) (done c)) lets)
