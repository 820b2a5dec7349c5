-- Other cells for the arrays, one array after the other.
use Rattle.std.proofs.Common.{◌≡◌, ℕ, zero, suc, ◌+◌, List, [], ◌∷◌, length, Vec, Global, string_bytes, refl, sym, ap, ◌∙◌, arith}
use Rattle.std.specs.List.{zip}
use Rattle.std.specs.Prelude.{sum}
use Rattle.indexmap.specs.IndexMap.{set_value_at}
use Rattle.ot_model.specs.Cells.{lengths}
use Rattle.ot_store.specs.Arrays.{Named, names_in, cells_in, with_cells, named_of, AreCounted}
use Rattle.ot_store.proofs.ArraysLemmas.{cells-fit, cells_in-recelled, AreSound-recelled}
use Rattle.ot_store.proofs.HeldLemmas.{Entry}

-- the arrays with these lists in the place of their cells, from array k on
abbrev pub refilled : List Named → ℕ → List (List ℕ) → List Named
refilled arrays k [] = arrays
refilled arrays k (list ∷ lists) = refilled (set_value_at arrays k list) (k + 1) lists

refilled-behind : (a : Named) (arrays : List Named) (k : ℕ) (lists : List (List ℕ)) → refilled (a ∷ arrays) (suc k) lists ≡ a ∷ refilled arrays k lists
refilled-behind a arrays k [] = refl
refilled-behind a arrays k (list ∷ lists) =
    let next : suc k + 1 ≡ suc (k + 1) = omega arith in
    ap (λ n. refilled (a ∷ set_value_at arrays k list) n lists) next ∙ refilled-behind a (set_value_at arrays k list) (k + 1) lists

refilled-zip : (arrays : List Named) (lists : List (List ℕ)) → length lists ≡ length arrays → refilled arrays 0 lists ≡ zip (names_in arrays) lists
refilled-zip [] [] same = refl
refilled-zip [] (list ∷ lists) same = absurd (omega (arith, same))
refilled-zip (a ∷ arrays) [] same = absurd (omega (arith, same))
refilled-zip (a ∷ arrays) (list ∷ lists) same =
    let first : 0 + 1 ≡ suc 0 = omega arith in
    ap (λ n. refilled ((a.0, list) ∷ arrays) n lists) first
    ∙ refilled-behind (a.0, list) arrays 0 lists
    ∙ ap (λ rest. (a.0, list) ∷ rest) (refilled-zip arrays lists (omega (arith, same)))

pub refilled-recelled : (arrays : List Named) (cells : List (List ℕ)) → lengths cells ≡ lengths (cells_in arrays) → refilled arrays 0 cells ≡ with_cells arrays cells
refilled-recelled arrays cells same = refilled-zip arrays cells (cells-fit arrays cells same)

pub set_value_at-named : (entries : List Entry) (k : ℕ) (v : Vec ℕ Global) → named_of (set_value_at entries k v) ≡ set_value_at (named_of entries) k v.items
set_value_at-named [] k v = refl
set_value_at-named (e ∷ entries) zero v = refl
set_value_at-named (e ∷ entries) (suc k) v = ap (λ rest. (string_bytes e.0, e.1.items) ∷ rest) (set_value_at-named entries k v)

pub none-left : {A : Type 0} (xs : List A) → length xs ≡ 0 → xs ≡ []
none-left [] none = refl
none-left (x ∷ xs) none = absurd (omega (arith, none))

pub AreCounted-recelled : (arrays : List Named) (cells : List (List ℕ)) (count : ℕ) → lengths cells ≡ lengths (cells_in arrays) → AreCounted arrays count →
    AreCounted (with_cells arrays cells) count
AreCounted-recelled arrays cells count same h = record {
  sound = AreSound-recelled arrays cells same h.sound;
  counted = h.counted ∙ sym (ap sum (ap lengths (cells_in-recelled arrays cells same) ∙ same));
}
