-- What is printed of a tree whose cells are there, and whose values and bodies are shallow, has no fault of its own.
use Rattle.std.proofs.Common.{◌≡◌, ℕ, zero, suc, ◌+◌, ◌<◌, ◌≤◌, ◌^◌, Bool, true, false, cond, ◌||◌, ◌&&◌, List, [], ◌∷◌, map, Option, Some, None, nat_eq, refl, sym, ap, subst, ◌∙◌, arith, add-zero}
use Rattle.std.specs.Prelude.{slice_get, find, flat_map, option_map, unwrap_or, not}
use Rattle.std.specs.List.{list_any, AllByRecursion}
use Rattle.std.proofs.lemmas.Bool.{lt-ltb, le-leb, ne_eqb}
use Rattle.std.proofs.lemmas.List.Elements.{recursion_from_All}
use Rattle.std.proofs.lemmas.List.Folds.{find_at}
use Rattle.std.proofs.lemmas.Option.{slice_get-map}
use Rattle.serde_json.specs.Data.{string}
use Rattle.ot_model.specs.Cells.{same_cell, is_fold, same_mode}
use Rattle.ot_model.specs.Names.{IsInShape, FitsShape, ValueNamedIn}
use Rattle.ot_model.specs.Programs.{Arrays, array_lengths}
use Rattle.ot_model.specs.Signs.{identifier}
use Rattle.ot_model.specs.Tree.{E, Literal, CellAt, Apply, PickFrom}
use Rattle.ot_model.specs.declared.expr.Cell.{Cell}
use Rattle.ot_model.specs.declared.expr.Op.TheVariants.{Plus, Minus, Times, And, Or, Xor, Less, Equal, Min, Max}
use Rattle.ot_model.specs.declared.expr.Section.{Section}
use Rattle.ot_model.specs.declared.fold.Fold.{Fold as Operation}
use Rattle.ot_model.specs.declared.stmt.Mode.{Mode}
use Rattle.ot_model.specs.declared.stmt.Mode.TheVariants.{Reads, Writes, Folds}
use Rattle.ot_model.specs.declared.stmt.Use.{Use}
use Rattle.ot_model.proofs.EqualLemmas.{cell-decides, mode-decides}
use Rattle.ot_program.specs.declared.profile.Profile.{Profile}
use Rattle.ot_program.specs.declared.profile.Profile.TheVariants.{One, Two}
use Rattle.ot_program.specs.Meanings.{named_cells, names, mode_among, named_otherwise, is_mixed, uses, each, Bindings, is_called, length_of, Clause, is_name}
use Rattle.ot_program.specs.Faults.{array_faults, size_faults, section_faults, cell_faults, value_faults, expression_faults, clause_faults, wait_clause_faults, fold_faults, faults_mixed}
use Rattle.ot_program.specs.Limits.{max_depth, size_depth, depth_of}
use Rattle.ot_program.specs.Printed.{IsFound, AreNamed, num, name_at, cell_text, section_text, value_text, alone, cells_text, sections_text, clause_text, uses_text, as_clause, IsCell, IsValue, AreCells, IsModeOf, AreUsesOf, IsWaitMode, AreWaitUses}
use Rattle.ot_program.proofs.PrintedBack.{size_back, value_back, fold_back}

-- ---- names of arrays

abbrev Named : Type 0
Named = List ℕ × ℕ

some_there : (o : Option Named) (n : ℕ) → option_map (λ (a : Named). a.1) o ≡ Some n → o ≡ Some (unwrap_or o ([], 0))
some_there None n is = absurd cc
some_there (Some a) n is = refl

any_found : (test : Named → Bool) (arrays : List Named) (a : Named) → find test arrays ≡ Some a → list_any test arrays ≡ true
any_found test [] a is = absurd cc
any_found test (b ∷ rest) a is = by (test b) is (λ k. any_found test rest a k)
  where
    by : (t : Bool) → cond t (Some b) (find test rest) ≡ Some a → (find test rest ≡ Some a → list_any test rest ≡ true) → t || list_any test rest ≡ true
    by true k h = refl
    by false k h = h k

name_there : (arrays : List Named) → AllByRecursion (λ a. is_name a.0 ≡ true) arrays → (i : ℕ) (a : Named) → slice_get arrays i ≡ Some a → is_name a.0 ≡ true
name_there [] h i a there = absurd cc
name_there (b ∷ rest) h zero a there = let is : b ≡ a = cc in rw (← is) h.0
name_there (b ∷ rest) h (suc i) a there = name_there rest h.1 i a there

short_there : (arrays : List Named) → AllByRecursion (λ a. a.1 < 2 ^ 32) arrays → (i : ℕ) (a : Named) → slice_get arrays i ≡ Some a → a.1 < 2 ^ 32
short_there [] h i a there = absurd cc
short_there (b ∷ rest) h zero a there = let is : b ≡ a = cc in rw (← is) h.0
short_there (b ∷ rest) h (suc i) a there = short_there rest h.1 i a there

-- the array that a printed name finds
record Found (shape : Arrays) (i len : ℕ) : Type 0 where
  pub clean : array_faults shape (name_at shape i) ≡ []
  pub long : length_of shape (name_at shape i) ≡ len
  pub short : len < 2 ^ 32

found : (shape : Arrays) → AreNamed shape.arrays → (i len : ℕ) → IsFound shape i → slice_get (array_lengths shape) i ≡ Some len → Found shape i len
found shape named i len is there =
    let get_len : Named → ℕ = λ a. a.1 in
    let a = unwrap_or (slice_get shape.arrays i) ([], 0) in
    let at_i : slice_get shape.arrays i ≡ Some a =
    some_there (slice_get shape.arrays i) len (sym (slice_get-map get_len shape.arrays i) ∙ there) in
    let name = name_at shape i in
    let finds : find (is_called name) shape.arrays ≡ Some a =
    find_at (is_called name) shape.arrays ∙ ap (slice_get shape.arrays) is ∙ at_i in
    let is_len : a.1 ≡ len = let both = sym (slice_get-map get_len shape.arrays i) ∙ there in let k = rw at_i at both in cc in
    let good = name_there shape.arrays (recursion_from_All (λ (b : Named). is_name b.0 ≡ true) shape.arrays named.names) i a at_i in
    record {
      clean = rw (any_found (is_called name) shape.arrays a finds, at_i, good) refl;
      long = rw finds is_len;
      short = rw (← is_len) (short_there shape.arrays (recursion_from_All (λ (b : Named). b.1 < 2 ^ 32) shape.arrays named.lengths.short) i a at_i);
    }

-- ---- sizes, cells and sections

pub size_clean : (variables : Bindings) (n : ℕ) → n < 2 ^ 32 → size_faults variables (num n) ≡ []
unfolding size_faults
size_clean variables n below =
    let wide : n < 2 ^ 64 = omega arith in
    rw (lt-ltb n (2 ^ 64) wide, lt-ltb n (2 ^ 32) below) refl

pub cell_clean : (shape : Arrays) → AreNamed shape.arrays → (variables : Bindings) (c : Cell) → IsFound shape c.array
    → IsInShape (array_lengths shape) c → cell_faults shape variables (cell_text shape c) ≡ []
unfolding size_depth
cell_clean shape named variables c is there =
    let f = found shape named c.array there.len is there.array in
    let wide : c.index < 2 ^ 64 = omega (arith, f.short, there.within) in
    rw (
      f.clean,
      size_clean variables c.index (omega (arith, f.short, there.within)),
      size_back variables c.index wide,
      f.long,
      lt-ltb c.index there.len there.within,
    ) refl

pub section_clean : (shape : Arrays) → AreNamed shape.arrays → (variables : Bindings) (s : Section) → IsFound shape s.array
    → FitsShape (array_lengths shape) s → section_faults shape variables (section_text shape s) ≡ []
unfolding size_depth
section_clean shape named variables s is there =
    let f = found shape named s.array there.len is there.array in
    let a : s.start < 2 ^ 32 = omega (arith, f.short, there.within) in
    let b : s.len < 2 ^ 32 = omega (arith, f.short, there.within) in
    let not_zero : nat_eq s.len 0 ≡ false = ne_eqb s.len 0 (λ z. omega (arith, there.some, z)) in
    rw (
      f.clean,
      size_clean variables s.start a,
      size_clean variables s.len b,
      size_back variables s.start (omega (arith, a)),
      size_back variables s.len (omega (arith, b)),
      f.long,
      le-leb (s.start + s.len) there.len there.within,
      not_zero,
    ) refl

alone_fits : (shape : Arrays) → AreNamed shape.arrays → (c : Cell) → IsFound shape c.array → IsInShape (array_lengths shape) c
    → FitsShape (array_lengths shape) (alone c)
alone_fits shape named c is there =
    let f = found shape named c.array there.len is there.array in
    record { len = there.len; array = there.array; within = omega (arith, there.within); short = omega (arith, f.short, there.within); some = omega arith }

-- ---- values

pub value_clean : (shape : Arrays) → AreNamed shape.arrays → (variables : Bindings) (e : E) → IsValue shape e → ValueNamedIn (array_lengths shape) e
    → value_faults shape variables (value_text shape e) ≡ []
unfolding value_faults
value_clean shape named variables (Literal n) h k = rw (lt-ltb n (2 ^ 64) h) refl
value_clean shape named variables (CellAt c) h k = cell_clean shape named variables c h.0 k
value_clean shape named variables (PickFrom s e) h k =
    rw (section_clean shape named variables s h.0 k.0) (value_clean shape named variables e h.3 k.1)
value_clean shape named variables (Apply Plus a b) h k = rw (value_clean shape named variables a h.0 k.0) (value_clean shape named variables b h.1 k.1)
value_clean shape named variables (Apply Minus a b) h k = rw (value_clean shape named variables a h.0 k.0) (value_clean shape named variables b h.1 k.1)
value_clean shape named variables (Apply Times a b) h k = rw (value_clean shape named variables a h.0 k.0) (value_clean shape named variables b h.1 k.1)
value_clean shape named variables (Apply And a b) h k = rw (value_clean shape named variables a h.0 k.0) (value_clean shape named variables b h.1 k.1)
value_clean shape named variables (Apply Or a b) h k = rw (value_clean shape named variables a h.0 k.0) (value_clean shape named variables b h.1 k.1)
value_clean shape named variables (Apply Xor a b) h k = rw (value_clean shape named variables a h.0 k.0) (value_clean shape named variables b h.1 k.1)
value_clean shape named variables (Apply Less a b) h k = rw (value_clean shape named variables a h.0 k.0) (value_clean shape named variables b h.1 k.1)
value_clean shape named variables (Apply Equal a b) h k = rw (value_clean shape named variables a h.0 k.0) (value_clean shape named variables b h.1 k.1)
value_clean shape named variables (Apply Min a b) h k = rw (value_clean shape named variables a h.0 k.0) (value_clean shape named variables b h.1 k.1)
value_clean shape named variables (Apply Max a b) h k = rw (value_clean shape named variables a h.0 k.0) (value_clean shape named variables b h.1 k.1)

pub expression_clean : (shape : Arrays) → AreNamed shape.arrays → (variables : Bindings) (e : E) → IsValue shape e → ValueNamedIn (array_lengths shape) e
    → depth_of e ≤ max_depth → expression_faults shape variables (value_text shape e) ≡ []
expression_clean shape named variables e h k low =
    rw (value_clean shape named variables e h k, value_back shape variables e h, le-leb (depth_of e) max_depth low) refl

-- ---- clauses

pub fold_clean : (op : Operation) → fold_faults (string (identifier op)) ≡ []
fold_clean op = rw (fold_back op) refl

clause_clean : (shape : Arrays) → AreNamed shape.arrays → (profile : Profile) (variables : Bindings) (c : Cell) (m : Mode) → IsCell shape c
    → IsModeOf profile m → IsInShape (array_lengths shape) c
    → clause_faults shape profile variables (clause_text profile m (section_text shape (alone c))) ≡ []
clause_clean shape named profile variables c m h j there =
    by profile m j (section_clean shape named variables (alone c) h.0 (alone_fits shape named c h.0 there))
  where
    by : (p : Profile) (n : Mode) → IsModeOf p n → section_faults shape variables (section_text shape (alone c)) ≡ []
        → clause_faults shape p variables (clause_text p n (section_text shape (alone c))) ≡ []
    by p Reads i clean = clean
    by p Writes i clean = clean
    by One (Folds op) i clean = clean
    by Two (Folds op) i clean = rw (fold_back op) clean

pub uses_clean : (shape : Arrays) → AreNamed shape.arrays → (profile : Profile) (variables : Bindings) (us : List Use) → AreUsesOf shape profile us
    → AllByRecursion (λ u. IsInShape (array_lengths shape) u.cell) us
    → flat_map (clause_faults shape profile variables) (each (uses_text shape profile us)) ≡ []
uses_clean shape named profile variables [] h k = refl
uses_clean shape named profile variables (u ∷ us) h k =
    rw (clause_clean shape named profile variables u.cell u.mode h.0 h.1 k.0) (uses_clean shape named profile variables us h.2 k.1)

wait_clause_clean : (shape : Arrays) → AreNamed shape.arrays → (variables : Bindings) (c : Cell) (m : Mode) → IsCell shape c → IsWaitMode m
    → IsInShape (array_lengths shape) c → wait_clause_faults shape variables (clause_text Two m (section_text shape (alone c))) ≡ []
wait_clause_clean shape named variables c Reads h j there = section_clean shape named variables (alone c) h.0 (alone_fits shape named c h.0 there)
wait_clause_clean shape named variables c Writes h j there = section_clean shape named variables (alone c) h.0 (alone_fits shape named c h.0 there)
wait_clause_clean shape named variables c (Folds op) h j there = absurd j

pub wait_uses_clean : (shape : Arrays) → AreNamed shape.arrays → (variables : Bindings) (us : List Use) → AreWaitUses shape us
    → AllByRecursion (λ u. IsInShape (array_lengths shape) u.cell) us
    → flat_map (wait_clause_faults shape variables) (each (uses_text shape Two us)) ≡ []
wait_uses_clean shape named variables [] h k = refl
wait_uses_clean shape named variables (u ∷ us) h k =
    rw (wait_clause_clean shape named variables u.cell u.mode h.0 h.1 k.0) (wait_uses_clean shape named variables us h.2 k.1)

pub cells_clean : (shape : Arrays) → AreNamed shape.arrays → (variables : Bindings) (cs : List Cell) → AreCells shape cs
    → AllByRecursion (IsInShape (array_lengths shape)) cs → flat_map (section_faults shape variables) (each (cells_text shape cs)) ≡ []
cells_clean shape named variables [] h k = refl
cells_clean shape named variables (c ∷ cs) h k =
    rw (section_clean shape named variables (alone c) h.0.0 (alone_fits shape named c h.0.0 k.0)) (cells_clean shape named variables cs h.1 k.1)

pub shows_clean : (shape : Arrays) → AreNamed shape.arrays → (shows : List Section)
    → AllByRecursion (λ s. IsFound shape s.array × FitsShape (array_lengths shape) s) shows
    → flat_map (section_faults shape []) (each (sections_text shape shows)) ≡ []
shows_clean shape named [] h = refl
shows_clean shape named (s ∷ ss) h = rw (section_clean shape named [] s h.0.0 h.0.1) (shows_clean shape named ss h.1)

-- ---- a declaration with a clause for each cell is not mixed

abbrev IsAmong : List Clause → Use → Type 0
IsAmong clauses u = u.mode ≡ mode_among clauses u.cell

among_map : (clauses : List Clause) (cs : List Cell)
    → AllByRecursion (IsAmong clauses) (map (λ c. record { cell = c; mode = mode_among clauses c }) cs)
among_map clauses [] = tt
among_map clauses (c ∷ cs) = (refl, among_map clauses cs)

among_uses : (us : List Use) → uses (map as_clause us) ≡ us → AllByRecursion (IsAmong (map as_clause us)) us
among_uses us is = subst (λ (vs : List Use). AllByRecursion (IsAmong (map as_clause us)) vs) is (among_map (map as_clause us) (named_cells (map as_clause us)))

named_is : (c : Cell) (u : Use) → names c (as_clause u) ≡ true → c ≡ u.cell
named_is c u is =
    let cell = u.cell in
    let same : same_cell c cell ≡ true = let k = rw (add-zero cell.index) at is in by (same_cell c cell) k in
    (cell-decides c cell).0 same
  where
    by : (b : Bool) → b || false ≡ true → b ≡ true
    by true k = refl
    by false k = absurd cc

-- what a test says of clauses, where it says no of each that names the cell
none_named : (test : Clause → Bool) (c : Cell) (us : List Use) → AllByRecursion (λ u. names c (as_clause u) ≡ true → test (as_clause u) ≡ false) us
    → list_any (λ clause. names c clause && test clause) (map as_clause us) ≡ false
none_named test c [] h = refl
none_named test c (u ∷ us) h = by (names c (as_clause u)) h.0 (none_named test c us h.1)
  where
    by : (b : Bool) → (b ≡ true → test (as_clause u) ≡ false) → list_any (λ clause. names c clause && test clause) (map as_clause us) ≡ false
        → (b && test (as_clause u)) || list_any (λ clause. names c clause && test clause) (map as_clause us) ≡ false
    by true k rest = rw (k refl) rest
    by false k rest = rest

mode_is : (clauses : List Clause) (c : Cell) (u : Use) → IsAmong clauses u → names c (as_clause u) ≡ true → u.mode ≡ mode_among clauses c
mode_is clauses c u is named = is ∙ ap (mode_among clauses) (sym (named_is c u named))

all_modes : (clauses : List Clause) (c : Cell) (us : List Use) → AllByRecursion (IsAmong clauses) us
    → AllByRecursion (λ u. names c (as_clause u) ≡ true → not (same_mode (mode_among clauses c) u.mode) ≡ false) us
all_modes clauses c [] h = tt
all_modes clauses c (u ∷ us) h = ((λ named. rw ((mode-decides (mode_among clauses c) u.mode).1 (sym (mode_is clauses c u h.0 named))) refl), all_modes clauses c us h.1)

and-none : (b : Bool) → b && false ≡ false
and-none true = refl
and-none false = refl

all_alike : (clauses : List Clause) (c : Cell) (us : List Use) → named_otherwise (mode_among clauses c) clauses c ≡ false → AllByRecursion (IsAmong clauses) us
    → AllByRecursion (λ u. names c (as_clause u) ≡ true → is_fold u.mode && named_otherwise u.mode clauses c ≡ false) us
all_alike clauses c [] none h = tt
all_alike clauses c (u ∷ us) none h =
    ((λ named. rw (mode_is clauses c u h.0 named, none) (and-none (is_fold (mode_among clauses c)))), all_alike clauses c us none h.1)

not_mixed : (us : List Use) → uses (map as_clause us) ≡ us → (c : Cell) → is_mixed (map as_clause us) c ≡ false
not_mixed us is c =
    let clauses = map as_clause us in
    let among = among_uses us is in
    let alike : named_otherwise (mode_among clauses c) clauses c ≡ false =
    none_named (λ clause. not (same_mode (mode_among clauses c) clause.mode)) c us (all_modes clauses c us among) in
    none_named (λ clause. is_fold clause.mode && named_otherwise clause.mode clauses c) c us (all_alike clauses c us alike among)

none_mixed : (us : List Use) → uses (map as_clause us) ≡ us → (cs : List Cell) → list_any (is_mixed (map as_clause us)) cs ≡ false
none_mixed us is [] = refl
none_mixed us is (c ∷ cs) = rw (not_mixed us is c) (none_mixed us is cs)

pub mixed_clean : (us : List Use) → uses (map as_clause us) ≡ us → faults_mixed (map as_clause us) ≡ []
mixed_clean us is = rw (none_mixed us is (named_cells (map as_clause us))) refl
