-- A piece's touches: each is of a cell that is there.
use Rattle.std.proofs.Common.{◌≡◌, ◌≤◌, ℕ, zero, suc, ◌+◌, Bool, true, false, List, [], ◌∷◌, ◌++◌, map, refl, sym, ap, subst, arith, true≢false}
use Rattle.std.specs.Prelude.{Option, Some, None, IsSome, All, if◌then◌else◌}
use Rattle.std.specs.List.{fold, range_with_len}
use Rattle.std.proofs.lemmas.List.Elements.{All-nil, All-cons}
use Rattle.ot_model.specs.Tree.{E, Literal, CellAt, Apply, PickFrom, Set, Fold, If, Task, Wait, Group, Body, End, Next, cell_at, cells_named}
use Rattle.ot_model.specs.Names.{IsInShape, FitsShape, ValueNamedIn, NamedIn}
use Rattle.ot_model.specs.Cells.{cell_of, lengths, same_cell, mode_in}
use Rattle.ot_model.specs.declared.expr.Cell.{Cell}
use Rattle.ot_model.specs.declared.expr.Section.{Section}
use Rattle.ot_model.specs.declared.stmt.Mode.{Mode}
use Rattle.ot_model.specs.declared.stmt.Mode.TheVariants.{Reads}
use Rattle.ot_model.specs.declared.stmt.Use.{Use}
use Rattle.ot_model.proofs.NamesLemmas.{found_from_in}
use Rattle.ot_check.specs.Offences.{use_as, Declared}
use Rattle.ot_check.proofs.Cited.{same_is}
use Rattle.ot_job_task.proofs.CellLemmas.{same_self}
use Rattle.ot_job_task.specs.Pieces.{leading, after_parts, test_of}
use Rattle.ot_job_task.specs.Touched.{assign_touches, test_touches, piece_touches}
use Rattle.ot_job_task.specs.Assigns.{held_mode, mode_noted, with_mode, mode_held}

-- ---- each touch is of a cell in the shape

abbrev pub AllIn : List ℕ → List Use → Type 0
AllIn lens [] = Unit {0}
AllIn lens (u ∷ us) = IsInShape lens u.cell × AllIn lens us

pub all-append : (lens : List ℕ) (us vs : List Use) → AllIn lens us → AllIn lens vs → AllIn lens (us ++ vs)
all-append lens [] vs h k = k
all-append lens (u ∷ us) vs h k = (h.0, all-append lens us vs h.1 k)

pub reads-append : (cs ds : List Cell) → map (use_as Reads) (cs ++ ds) ≡ map (use_as Reads) cs ++ map (use_as Reads) ds
reads-append [] ds = refl
reads-append (c ∷ cs) ds = ap (λ l. use_as Reads c ∷ l) (reads-append cs ds)

section-in : (lens : List ℕ) (s : Section) → FitsShape lens s → (a n : ℕ) → a + n ≤ s.len → AllIn lens (map (use_as Reads) (map (cell_at s) (range_with_len a n)))
section-in lens s fits a zero below = tt
section-in lens s fits a (suc n) below =
    (record { len = fits.len; array = fits.array; within = omega (arith, below, fits.within) }, section-in lens s fits (a + 1) n (omega (arith, below)))

pub reads-in : (lens : List ℕ) (e : E) → ValueNamedIn lens e → AllIn lens (map (use_as Reads) (cells_named e))
reads-in lens (Literal n) h = tt
reads-in lens (CellAt c) h = (h, tt)
reads-in lens (Apply o a b) h = subst (AllIn lens) (sym (reads-append (cells_named a) (cells_named b))) (all-append lens _ _ (reads-in lens a h.0) (reads-in lens b h.1))
reads-in lens (PickFrom s e) h =
    subst (AllIn lens) (sym (reads-append (map (cell_at s) (range_with_len 0 s.len)) (cells_named e)))
    (all-append lens _ _ (section-in lens s h.0 0 s.len (omega arith)) (reads-in lens e h.1))

assigns-in : (lens : List ℕ) (b : Body) → NamedIn lens b → AllIn lens (assign_touches (leading b))
assigns-in lens End h = tt
assigns-in lens (Next (Set c e) rest) h = all-append lens _ _ (all-append lens _ _ (reads-in lens e h.0.1) (h.0.0, tt)) (assigns-in lens rest h.1)
assigns-in lens (Next (Fold o c e) rest) h = all-append lens _ _ (all-append lens _ _ (reads-in lens e h.0.1) (h.0.0, tt)) (assigns-in lens rest h.1)
assigns-in lens (Next (If e a b) rest) h = tt
assigns-in lens (Next (Task d b) rest) h = tt
assigns-in lens (Next (Wait w) rest) h = tt
assigns-in lens (Next (Group o cs b) rest) h = tt

test-in : (lens : List ℕ) (b : Body) → NamedIn lens b → AllIn lens (test_touches (test_of (after_parts b)))
test-in lens End h = tt
test-in lens (Next (Set c e) rest) h = test-in lens rest h.1
test-in lens (Next (Fold o c e) rest) h = test-in lens rest h.1
test-in lens (Next (If e a b) rest) h = reads-in lens e h.0.0
test-in lens (Next (Task d b) rest) h = tt
test-in lens (Next (Wait w) rest) h = tt
test-in lens (Next (Group o cs b) rest) h = tt

pub piece-in : (lens : List ℕ) (b : Body) → NamedIn lens b → AllIn lens (piece_touches (leading b) (test_of (after_parts b)))
piece-in lens b h = all-append lens _ _ (assigns-in lens b h) (test-in lens b h)

-- ---- what is held is touched

held-from : (lens : List ℕ) (own : Declared) (us : List Use) (c : Cell) (o : Option Mode) → AllIn lens us → (IsSome o → IsInShape lens c) → IsSome (fold (mode_noted own c) o us) → IsInShape lens c
held-from lens own [] c o h k s = k s
held-from lens own (u ∷ us) c o h k s = held-from lens own us c (mode_noted own c o u) h.1 (by (same_cell u.cell c) refl) s
  where
    by : (b : Bool) → same_cell u.cell c ≡ b → IsSome (if same_cell u.cell c then Some (with_mode o (mode_held own u)) else o) → IsInShape lens c
    by true e s = subst (IsInShape lens) (same_is u.cell c e) h.0
    by false e s = k (rw e at s)

mode-there : (d : List Use) (c : Cell) (u : Use) (more : List Use) → u.cell ≡ c → IsSome (mode_in (u ∷ more) c)
mode-there d c u more same = rw (same_self c u.cell (sym same)) refl

-- each cell that is held is there
pub held-there : (cells : List (List ℕ)) (own : Declared) (us d : List Use) → AllIn (lengths cells) us → ((c : Cell) → mode_in d c ≡ held_mode own us c) → All (λ u. IsSome (cell_of cells u.cell)) d
held-there cells own us d named modes = each d (λ c s. found_from_in cells c (held-from (lengths cells) own us c None named (λ none. absurd (true≢false (sym none))) (subst IsSome (modes c) s)))
  where
    each : (d : List Use) → ((c : Cell) → IsSome (mode_in d c) → IsSome (cell_of cells c)) → All (λ u. IsSome (cell_of cells u.cell)) d
    each [] f = All-nil (λ u. IsSome (cell_of cells u.cell))
    each (u ∷ d) f = All-cons (λ u. IsSome (cell_of cells u.cell)) u d (f u.cell (mode-there d u.cell u d refl)) (each d (λ c s. f c (later c s)))
      where
        later : (c : Cell) → IsSome (mode_in d c) → IsSome (mode_in (u ∷ d) c)
        later c s = by (same_cell c u.cell) refl
          where
            by : (b : Bool) → same_cell c u.cell ≡ b → IsSome (if same_cell c u.cell then Some u.mode else mode_in d c)
            by true e = rw e refl
            by false e = rw e s
