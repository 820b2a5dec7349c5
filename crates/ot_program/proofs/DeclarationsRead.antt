-- Clauses are read as what they declare.
use Rattle.std.proofs.Common.{◌≡◌, ℕ, nat_lt, nat_eq, Bool, true, false, cond, ◌&&◌, ◌||◌, List, [], ◌∷◌, ◌++◌, map, Option, Some, None, refl, sym, ap, ◌∙◌, arith}
use Rattle.std.specs.Prelude.{not, flat_map}
use Rattle.std.specs.List.{list_any, fold}
use Rattle.std.specs.Map.{lookup, keys_of}
use Rattle.std.specs.BTreeMap.{is_at}
use Rattle.std.specs.Ordering.{ordering_then, match_ordering}
use Rattle.std.specs.declared.cmp.Ordering.TheVariants.{Less, Equal, Greater}
use Rattle.ot_model.specs.declared.expr.Cell.{Cell}
use Rattle.ot_model.specs.declared.stmt.Mode.{Mode}
use Rattle.ot_model.specs.declared.stmt.Use.{Use}
use Rattle.ot_model.specs.Cells.{same_cell, is_before}
use Rattle.ot_model.specs.Tree.{cells_of}
use Rattle.ot_program.specs.declared.fault.Refusal.TheVariants.{MixedReduction}
use Rattle.ot_program.specs.Meanings.{cell_placed, named_cells, mode_among, is_mixed, uses, Clause}
use Rattle.ot_program.specs.Faults.{unless, faults_mixed}
use Rattle.ot_program.specs.walk.Parts.{uses_of, declaration}
use Rattle.ot_program.specs.walk.Namings.{cell_order, Named, name_cell, name_clause}
use Rattle.ot_program.proofs.CellLists.{cell_of_key}
use Rattle.ot_program.proofs.Coded.{code_clause}
use Rattle.ot_program.proofs.Declared.{key, same_from, at_itself, mode_at, clauses_named, declared_as}
use Rattle.ot_program.proofs.KeyOrder.{place, under_differs, AllAbove, Sorted, keys_placed, sorted_placed}
use Rattle.ot_program.proofs.Firsts.{Reads as IsRead, reads_right, reads_made}

-- ---- the keys that are named

place_by : (p q r s : Bool) (x y z : List (ℕ × ℕ))
    → match_ordering (ordering_then (cond p Less (cond q Equal Greater)) (cond r Less (cond s Equal Greater))) x y z
    ≡ cond (p || (q && r)) x (cond (q && s) y z)
place_by true q r s x y z = refl
place_by false true true s x y z = refl
place_by false true false true x y z = refl
place_by false true false false x y z = refl
place_by false false r s x y z = refl

map_if : (b : Bool) (cs ds : List Cell) → map key (cond b cs ds) ≡ cond b (map key cs) (map key ds)
map_if true cs ds = refl
map_if false cs ds = refl

keys_of_placed : (cs : List Cell) (c : Cell) → place (map key cs) (key c) ≡ map key (cell_placed cs c)
keys_of_placed [] c = refl
keys_of_placed (d ∷ ds) c =
    place_by (nat_lt c.array d.array) (nat_eq c.array d.array) (nat_lt c.index d.index) (nat_eq c.index d.index)
    (key c ∷ key d ∷ map key ds) (key d ∷ map key ds) (key d ∷ place (map key ds) (key c))
    ∙ rw (keys_of_placed ds c, map_if (is_before c d) (c ∷ d ∷ ds) (cond (same_cell c d) (d ∷ ds) (d ∷ cell_placed ds c)), map_if (same_cell c d) (d ∷ ds) (d ∷ cell_placed ds c)) refl

-- the cells of what was named
record AreCells (named : Named) (cells : List Cell) : Type 0 where
  keys : keys_of named ≡ map key cells
  sorted : Sorted (keys_of named)

cells_keys : (m : Mode) (cells : List Cell) (named : Named) (before : List Cell) → AreCells named before
    → AreCells (fold (name_cell m) named cells) (fold cell_placed before cells)
cells_keys m [] named before h = h
cells_keys m (c ∷ cs) named before h =
    let placed_key = keys_placed (key c) _ named in
    cells_keys m cs (name_cell m named c) (cell_placed before c) (record {
      keys = placed_key ∙ ap (λ (js : List (ℕ × ℕ)). place js (key c)) h.keys ∙ keys_of_placed before c;
      sorted = rw placed_key (sorted_placed (key c) (keys_of named) h.sorted);
    })

fold-append : (cells xs ys : List Cell) → fold cell_placed cells (xs ++ ys) ≡ fold cell_placed (fold cell_placed cells xs) ys
fold-append cells [] ys = refl
fold-append cells (x ∷ xs) ys = fold-append (cell_placed cells x) xs ys

clauses_keys : (clauses : List Clause) (named : Named) (before : List Cell) → AreCells named before
    → AreCells (fold name_clause named (map code_clause clauses)) (fold cell_placed before (flat_map (λ clause. cells_of clause.section) clauses))
clauses_keys [] named before h = h
clauses_keys (c ∷ cs) named before h =
    rw (fold-append before (cells_of c.section) (flat_map (λ clause. cells_of clause.section) cs))
    (clauses_keys cs (name_clause named (code_clause c)) (fold cell_placed before (cells_of c.section))
    (cells_keys c.mode (cells_of c.section) named before h))

-- ---- what stands at them

-- each of these entries is what is found at its key
AreFound : Named → Named → Type 0
AreFound whole [] = Unit {0}
AreFound whole (e ∷ es) = (mode_at e.0 whole ≡ Some e.1) × AreFound whole es

differs : (b : Bool) (v : Option Mode) (o : Option (Option Mode)) (w : Option Mode) → (b ≡ true → ⊥) → o ≡ Some w → cond b (Some v) o ≡ Some w
differs true v o w h is = absurd (h refl)
differs false v o w h is = is

found_behind : (first : (ℕ × ℕ) × Option Mode) (whole es : Named) → AllAbove first.0 (keys_of es) → AreFound whole es → AreFound (first ∷ whole) es
unfolding AreFound AllAbove mode_at
found_behind first whole [] above h = tt
found_behind first whole (e ∷ es) above h = (
  differs (is_at (cell_order e.0) first.0) first.1 (lookup (is_at (cell_order e.0)) whole) e.1
      (λ same. under_differs first.0 e.0 above.0 (same_from e.0 first.0 same)) h.0,
  found_behind first whole es above.1 h.1,
)

all_found : (es : Named) → Sorted (keys_of es) → AreFound es es
unfolding AreFound Sorted mode_at
all_found [] s = tt
all_found (e ∷ es) s = (rw (at_itself e.0) refl, found_behind e es es s.0 (all_found es s.1))

-- ---- readings

use_at : List Clause → ℕ × ℕ → Use
use_at clauses k = record { cell = cell_of_key k; mode = mode_among clauses (cell_of_key k) }

uses_read : (clauses : List Clause) (es : Named) → AreFound (fold name_clause [] (map code_clause clauses)) es
    → IsRead 7 (uses_of es) (map (use_at clauses) (keys_of es)) (unless (not (list_any (λ k. is_mixed clauses (cell_of_key k)) (keys_of es))) MixedReduction)
unfolding AreFound mode_at use_at
uses_read clauses [] h = reads_right 7 []
uses_read clauses ((k, None) ∷ es) h =
    let c = cell_of_key k in
    rw (declared_as c clauses None (sym h.0 ∙ clauses_named c clauses [])) (record { is = refl; up_to = omega arith })
uses_read clauses ((k, Some m) ∷ es) h =
    let c = cell_of_key k in
    let s = declared_as c clauses (Some m) (sym h.0 ∙ clauses_named c clauses []) in
    rw (s.0, ← s.1)
    (reads_made 7 (uses_of es) (λ us. record { cell = c; mode = m } ∷ us) (map (use_at clauses) (keys_of es))
    (unless (not (list_any (λ k. is_mixed clauses (cell_of_key k)) (keys_of es))) MixedReduction) (uses_read clauses es h.1))

uses_at_keys : (clauses : List Clause) (cs : List Cell) → map (use_at clauses) (map key cs) ≡ map (λ c. record { cell = c; mode = mode_among clauses c }) cs
unfolding use_at
uses_at_keys clauses [] = refl
uses_at_keys clauses (c ∷ cs) = ap (λ (us : List Use). record { cell = c; mode = mode_among clauses c } ∷ us) (uses_at_keys clauses cs)

any_at_keys : (test : Cell → Bool) (cs : List Cell) → list_any (λ k. test (cell_of_key k)) (map key cs) ≡ list_any test cs
any_at_keys test [] = refl
any_at_keys test (c ∷ cs) = ap (λ (b : Bool). test c || b) (any_at_keys test cs)

none_named : AreCells [] []
unfolding Sorted
none_named = record { keys = refl; sorted = tt }

pub declared_read : (clauses : List Clause) → IsRead 7 (declaration (map code_clause clauses)) (uses clauses) (faults_mixed clauses)
declared_read clauses =
    let named = fold name_clause [] (map code_clause clauses) in
    let k = clauses_keys clauses [] [] none_named in
    rw (← uses_at_keys clauses (named_cells clauses), ← any_at_keys (is_mixed clauses) (named_cells clauses), ← k.keys)
    (uses_read clauses named (all_found named k.sorted))
