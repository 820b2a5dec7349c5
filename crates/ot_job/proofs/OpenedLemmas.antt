-- What pieces hold beside open groups, at each call of a job: what a fold goes into, and which cells are free where a group begins and ends.
use Rattle.std.proofs.Common.{◌≡◌, ℕ, zero, suc, ◌+◌, ◌<◌, Bool, true, false, ◌&&◌, List, [], ◌∷◌, length, refl, sym, ap, ◌∙◌, inl, inr, arith, true≢false, eq-zero-or-pos, Option, Some, None, All, Contains, IsSome, ⊎_elim}
use Rattle.ot_job.proofs.Common.{cases_eq, All-weaker, End, NamedIn, AreInShape, cell_of, lengths, updated, AreInOrder, is_fold, mode_in, same_fold, Cell, Operation, Mode, Folds, Declared, folds_to, has_cell, or_true, and_left, and_right, Lease, Open, Region, Run, leading, awake, piece_begun, AreHeld, openings_of, is_claimable, at, parent_of, todo_at, IsRootOrReady, IsKin, IsSoundRegions, RunsWell, wholes, Live, IsOnCourse, none-some, false_from_ne_true}
use Rattle.ot_model.specs.Names.{IsInShape}
use Rattle.ot_model.proofs.NamesLemmas.{found_from_in}
use Rattle.ot_job.proofs.KeptLemmas.{at-updated}
use Rattle.ot_job.proofs.CreatedLemmas.{grouped-opened}
use Rattle.ot_job.proofs.AwakeLemmas.{none-in-group}
use Rattle.ot_job.proofs.FoldLemmas.{one-op}
use Rattle.ot_job.proofs.RightsLemmas.{at-whole}
use Rattle.ot_job.proofs.OpenLemmas.{known, piece-folds, folds_alone, own_untouched, none_out}
use Rattle.ot_job.proofs.WellLemmas.{claimable-idle, claimable-goes, sound-now, named-now, well-now, started-now}

-- ---- groups by their cells

pub group-in : (gs : List Open) (op : Operation) (c : Cell) → openings_of gs op c ≡ true → (g : Open) × Contains gs g × (g.op ≡ op) × (has_cell g.cells c ≡ true)
group-in [] op c is = absurd (true≢false (sym is))
group-in (g ∷ gs) op c is =
    elim (or_true (openings_of gs op c) (same_fold g.op op && has_cell g.cells c) is) [
      | inl outer ↦ (let h = group-in gs op c outer in (h.0, (suc h.1.0, omega (arith, h.1.1), h.1.2), h.2, h.3))
      | inr here ↦ (g, (0, omega arith, refl), one-op g.op op (and_left (same_fold g.op op) (has_cell g.cells c) here), and_right (same_fold g.op op) (has_cell g.cells c) here)
    ]

-- some task has an open group by this operation that names the cell
abbrev pub IsFolded : List Region → Operation → Cell → Type 0
IsFolded rs op c = (k : ℕ) × (g : Open) × Contains (at rs k).groups g × (g.op ≡ op) × (has_cell g.cells c ≡ true)

-- ---- who folds has a group

module _ (rs : List Region) (s : IsSoundRegions (wholes rs)) where
  abbrev ws : List Region
  ws = wholes rs

  root-folds-none : (op : Operation) (c : Cell) → folds_to (at rs 0).own op c ≡ true → ⊥
  root-folds-none op c folds = true≢false (sym folds ∙ sym (ap (λ (r : Region). folds_to r.own op c) (at-whole rs 0)) ∙ ap (λ (d : Declared). folds_to d op c) s.root)

  -- a fold is of an open group of the parent's, or the parent, which has not ended either, declares it
  folds-up : (i : ℕ) → 0 < i → (op : Operation) (c : Cell) → (at rs i).ended ≡ false → folds_to (at rs i).own op c ≡ true
      → ((at rs (parent_of ws i)).ended ≡ false → folds_to (at rs (parent_of ws i)).own op c ≡ true → IsFolded rs op c) → IsFolded rs op c
  folds-up i pos op c alive folds above =
      elim ((s.placed p).grouped (at ws i).child kin.entry kin.there unfinished op c declared) [
        | inl own ↦ (let mine = ap (λ (r : Region). folds_to r.own op c) (sym (at-whole rs p)) ∙ own in above (going mine (at rs p).ended refl) mine)
        | inr summed ↦ (let g = group-in (at rs p).groups op c (ap (λ (r : Region). openings_of r.groups op c) (sym (at-whole rs p)) ∙ grouped-opened (at ws p).groups kin.entry op c summed) in (p, g.0, g.1, g.2, g.3))
      ]
    where
      p : ℕ
      p = parent_of ws i

      kin : IsKin ws i
      kin = s.kin i pos (known rs s i alive)

      unfinished : kin.entry.finished ≡ false
      unfinished = kin.finished ∙ ap (λ (r : Region). r.ended) (at-whole rs i) ∙ alive

      declared : folds_to (Some kin.entry.uses) op c ≡ true
      declared = ap (λ (d : Declared). folds_to d op c) (sym kin.uses ∙ ap (λ (r : Region). r.own) (at-whole rs i)) ∙ folds

      going : folds_to (at rs p).own op c ≡ true → (b : Bool) → (at rs p).ended ≡ b → b ≡ false
      going own false e = refl
      going own true e =
          ⊎_elim (λ root. absurd (root-folds-none op c (ap (λ m. folds_to (at rs m).own op c) (sym root) ∙ own)))
          (λ higher. absurd (true≢false (sym (s.done p higher (ap (λ (r : Region). r.ended) (at-whole rs p) ∙ e) (at ws i).child kin.entry kin.there) ∙ unfinished))) (eq-zero-or-pos p)

  folds-below : (n i : ℕ) → i < n → (op : Operation) (c : Cell) → (at rs i).ended ≡ false → folds_to (at rs i).own op c ≡ true → IsFolded rs op c
  folds-below zero i below op c alive folds = absurd (omega (arith, below))
  folds-below (suc n) i below op c alive folds =
      elim (eq-zero-or-pos i) [
        | inl root ↦ absurd (root-folds-none op c (ap (λ m. folds_to (at rs m).own op c) (sym root) ∙ folds))
        | inr pos ↦ folds-up i pos op c alive folds (folds-below n (parent_of ws i) (omega (arith, below, s.down i pos)) op c)
      ]

  -- what a task that has not ended declares as a fold goes into an open group
  pub who_folds : (i : ℕ) (op : Operation) (c : Cell) → (at rs i).ended ≡ false → folds_to (at rs i).own op c ≡ true → IsFolded rs op c
  who_folds i op c alive folds = folds-below (i + 1) i (omega arith) op c alive folds

-- ---- pieces that are out

module _ (rs : List Region) (s : IsSoundRegions (wholes rs)) (lens : List ℕ) (named : (i : ℕ) → NamedIn lens (todo_at (wholes rs) i))
    (well : (i : ℕ) (run : Run) → (at rs i).running ≡ Some run → RunsWell (at rs i) run)
    (started : (i : ℕ) (run : Run) → (at rs i).running ≡ Some run → IsRootOrReady (wholes rs) i)
  where
    -- a cell that a piece reads or writes is in no open group
    pub held-unopened : (i : ℕ) (run : Run) → (at rs i).running ≡ Some run → (c : Cell) (m : Mode) → mode_in run.lease.uses c ≡ Some m → is_fold m ≡ false → (k : ℕ) (op : Operation) → openings_of (at rs k).groups op c ≡ false
    held-unopened i run out c m held other k op = false_from_ne_true (openings_of (at rs k).groups op c) (λ e. elim (cases_eq i k) [
      | inl same ↦ true≢false (sym e ∙ ap (λ n. openings_of (at rs n).groups op c) (sym same) ∙ own_untouched rs s lens named well started i op c m run out held)
      | inr differs ↦ true≢false (sym (ap is_fold (folds_alone rs s lens named well started i k op c m run out held e differs)) ∙ other)
    ])

    -- a cell of which it holds the fold is in one by that operation
    pub held-folded : (i : ℕ) (run : Run) → (at rs i).running ≡ Some run → (op : Operation) (c : Cell) → mode_in run.lease.uses c ≡ Some (Folds op) → IsFolded rs op c
    held-folded i run out op c held = who_folds rs s i op c (well i run out).alive (piece-folds rs s lens named well started i run op c out held)

    -- ---- a claim that passes the end of a group

    module _ (i : ℕ) (can : is_claimable rs i ≡ true) (was : (at rs i).rest ≡ End) (o : Open) (os : List Open) (innermost : (at rs i).groups ≡ o ∷ os) where
      -- no piece holds a cell of the group
      pub group_free : (k : ℕ) (run : Run) → (at rs k).running ≡ Some run → (c : Cell) → has_cell o.cells c ≡ true → mode_in run.lease.uses c ≡ None
      group_free k run out c is = by (mode_in run.lease.uses c) refl
        where
          by : (m : Option Mode) → mode_in run.lease.uses c ≡ m → m ≡ None
          by None held = refl
          by (Some m) held =
              absurd (none_out rs s lens named well started i k o os innermost (none-in-group (at rs i) o os (claimable-goes rs i can) was innermost) c m run out held
              (λ same. none-some run (sym (claimable-idle rs i can) ∙ ap (λ n. (at rs n).running) same ∙ out)) is)

-- ---- a piece that is about to be claimed, beside the groups that are open then

module _ (j : Live) (o : IsOnCourse j) (i : ℕ) (h : i < length j.regions) (can : is_claimable j.regions i ≡ true) (worker : ℕ) (lease : Lease)
    (are : AreHeld (at j.regions i) lease.uses) (ordered : AreInOrder lease.uses) where
  abbrev now : List Region
  now = updated j.regions i (piece_begun worker lease)

  abbrev run : Run
  run = record { worker = worker; assigns = leading (awake (at j.regions i)).rest; lease = lease }

  out : (at now i).running ≡ Some run
  out = ap (λ (r : Region). r.running) (at-updated j.regions i (piece_begun worker lease) h)

  pub claim-unopened : (c : Cell) (m : Mode) → mode_in lease.uses c ≡ Some m → is_fold m ≡ false → (k : ℕ) (op : Operation) → openings_of (at now k).groups op c ≡ false
  claim-unopened =
      held-unopened now (sound-now (lengths j.cells) j.regions o.sound o.named o.runs o.begun i h can worker lease are ordered) (lengths j.cells)
      (named-now (lengths j.cells) j.regions o.sound o.named o.runs o.begun i h can worker lease are ordered)
      (well-now (lengths j.cells) j.regions o.sound o.named o.runs o.begun i h can worker lease are ordered)
      (started-now (lengths j.cells) j.regions o.sound o.named o.runs o.begun i h can worker lease are ordered) i run out

  pub claim-folded : (op : Operation) (c : Cell) → mode_in lease.uses c ≡ Some (Folds op) → IsFolded now op c
  claim-folded =
      held-folded now (sound-now (lengths j.cells) j.regions o.sound o.named o.runs o.begun i h can worker lease are ordered) (lengths j.cells)
      (named-now (lengths j.cells) j.regions o.sound o.named o.runs o.begun i h can worker lease are ordered)
      (well-now (lengths j.cells) j.regions o.sound o.named o.runs o.begun i h can worker lease are ordered)
      (started-now (lengths j.cells) j.regions o.sound o.named o.runs o.begun i h can worker lease are ordered) i run out

-- ---- the cells of open groups, and the end

module _ (j : Live) (o : IsOnCourse j) where
  pub groups-there : (i : ℕ) → All (λ g. All (λ c. IsSome (cell_of j.cells c)) g.cells) (at j.regions i).groups
  groups-there i =
      All-weaker (λ g. AreInShape (lengths j.cells) g.cells) (λ g. All (λ c. IsSome (cell_of j.cells c)) g.cells)
      (λ g in_shape. All-weaker (IsInShape (lengths j.cells)) (λ c. IsSome (cell_of j.cells c)) (found_from_in j.cells) g.cells in_shape) (at j.regions i).groups (o.there i)
