-- Named arrays: what each change keeps, and what the shape says of them.
use Rattle.std.proofs.Common.{◌≡◌, ℕ, zero, suc, ◌+◌, ◌<◌, ◌≤◌, ◌^◌, Bool, true, false, not, cond, List, [], ◌∷◌, ◌++◌, All, length, map, get_or, Some, refl, sym, ap, ◌∙◌, subst, arith, true≢false}
use Rattle.std.specs.Prelude.{sum, bytes_eq, unwrap_or}
use Rattle.std.specs.List.{IsDistinct}
use Rattle.std.specs.Map.{lookup, set_value, remove_entry}
use Rattle.std.specs.Cmp.Lexicographic.{nat_list_eq_equiv}
use Rattle.std.proofs.Math.ListN.{length-map}
use Rattle.std.proofs.lemmas.List.Elements.{All-map, All-push}
use Rattle.std.proofs.lemmas.List.Sums.{sum_by-cons}
use Rattle.std.proofs.lemmas.Map.{NonePasses, keys-set_value}
use Rattle.std.proofs.lemmas.Map.Entries.{none_past_head}
use Rattle.std.proofs.lemmas.Map.Keys.{IsDistinct-tail}
use Rattle.std.proofs.lemmas.Map.Views.{All-map-remove_entry}
use Rattle.std.proofs.lemmas.Slice.Zip.{firsts-zip, seconds-zip}
use Rattle.ot_model.specs.Cells.{lengths}
use Rattle.ot_model.specs.Programs.{AreShort, array_lengths}
use Rattle.ot_store.specs.declared.limits.Limits.{Limits}
use Rattle.ot_store.specs.Arrays.{Named, names_in, cells_in, cell_count, others, arrays_listed, shape_in, with_cells, AreSound}

-- ---- the arrays with other names

others-absent : (name : List ℕ) (arrays : List Named) → NonePasses (bytes_eq name) arrays → others name arrays ≡ arrays
others-absent name [] h = refl
others-absent name (a ∷ arrays) h =
    ap (λ b. cond (not b) (a ∷ others name arrays) (others name arrays)) h.0 ∙ ap (λ rest. a ∷ rest) (others-absent name arrays h.1)

-- where names differ they are all but the first with this name
pub others-remove_entry : (name : List ℕ) (arrays : List Named) → IsDistinct bytes_eq (names_in arrays) → others name arrays ≡ remove_entry (bytes_eq name) arrays
others-remove_entry name [] distinct = refl
others-remove_entry name (a ∷ arrays) distinct =
    by (bytes_eq name a.0) refl (others-remove_entry name arrays (IsDistinct-tail bytes_eq a.0 (names_in arrays) distinct))
  where
    by : (b : Bool) → bytes_eq name a.0 ≡ b → others name arrays ≡ remove_entry (bytes_eq name) arrays →
        others name (a ∷ arrays) ≡ remove_entry (bytes_eq name) (a ∷ arrays)
    by true e rest =
        ap (λ b. cond (not b) (a ∷ others name arrays) (others name arrays)) e
        ∙ others-absent name arrays (none_past_head nat_list_eq_equiv name a arrays distinct e)
        ∙ sym (ap (λ b. cond b arrays (a ∷ remove_entry (bytes_eq name) arrays)) e)
    by false e rest =
        ap (λ b. cond (not b) (a ∷ others name arrays) (others name arrays)) e
        ∙ ap (λ xs. a ∷ xs) rest
        ∙ sym (ap (λ b. cond b arrays (a ∷ remove_entry (bytes_eq name) arrays)) e)

-- ---- names, lengths and the count of cells

-- as many cells in the place of an array's
pub lengths-set_value : (test : List ℕ → Bool) (arrays : List Named) (old new : List ℕ) → lookup test arrays ≡ Some old → length new ≡ length old →
    lengths (cells_in (set_value test arrays new)) ≡ lengths (cells_in arrays)
lengths-set_value test [] old new found same = refl
lengths-set_value test (a ∷ arrays) old new found same = by (test a.0) refl (lengths-set_value test arrays old new)
  where
    by : (b : Bool) → test a.0 ≡ b →
        (lookup test arrays ≡ Some old → length new ≡ length old → lengths (cells_in (set_value test arrays new)) ≡ lengths (cells_in arrays)) →
        lengths (cells_in (set_value test (a ∷ arrays) new)) ≡ lengths (cells_in (a ∷ arrays))
    by true e rest =
        let here : Some a.1 ≡ Some old = sym (ap (λ b. cond b (Some a.1) (lookup test arrays)) e) ∙ found in
        let is : a.1 ≡ old = ap (λ o. unwrap_or o a.1) here in
        ap (λ b. lengths (cells_in (cond b ((a.0, new) ∷ arrays) (a ∷ set_value test arrays new)))) e
        ∙ ap (λ n. n ∷ lengths (cells_in arrays)) (same ∙ sym (ap length is))
    by false e rest =
        let later : lookup test arrays ≡ Some old = sym (ap (λ b. cond b (Some a.1) (lookup test arrays)) e) ∙ found in
        ap (λ b. lengths (cells_in (cond b ((a.0, new) ∷ arrays) (a ∷ set_value test arrays new)))) e
        ∙ ap (λ ns. length a.1 ∷ ns) (rest later same)

pub cell_count-cons : (a : Named) (arrays : List Named) → cell_count (a ∷ arrays) ≡ length a.1 + cell_count arrays
cell_count-cons a arrays = sum_by-cons (λ n. n) (length a.1) (lengths (cells_in arrays))

pub cell_count-push : (arrays : List Named) (a : Named) → cell_count (arrays ++ a ∷ []) ≡ cell_count arrays + length a.1
cell_count-push [] a = cell_count-cons a [] ∙ omega arith
cell_count-push (b ∷ arrays) a = omega (arith, cell_count-cons b (arrays ++ a ∷ []), cell_count-push arrays a, cell_count-cons b arrays)

-- without one of them
pub cell_count-remove_entry : (test : List ℕ → Bool) (arrays : List Named) (cells : List ℕ) → lookup test arrays ≡ Some cells →
    cell_count (remove_entry test arrays) + length cells ≡ cell_count arrays
cell_count-remove_entry test [] cells found = absurd (true≢false cc)
cell_count-remove_entry test (a ∷ arrays) cells found = by (test a.0) refl (cell_count-remove_entry test arrays cells)
  where
    by : (b : Bool) → test a.0 ≡ b → (lookup test arrays ≡ Some cells → cell_count (remove_entry test arrays) + length cells ≡ cell_count arrays) →
        cell_count (remove_entry test (a ∷ arrays)) + length cells ≡ cell_count (a ∷ arrays)
    by true e rest =
        let here : Some a.1 ≡ Some cells = sym (ap (λ b. cond b (Some a.1) (lookup test arrays)) e) ∙ found in
        let is : a.1 ≡ cells = ap (λ o. unwrap_or o a.1) here in
        let left : cell_count (remove_entry test (a ∷ arrays)) ≡ cell_count arrays = ap (λ b. cell_count (cond b arrays (a ∷ remove_entry test arrays))) e in
        omega (arith, left, ap length is, cell_count-cons a arrays)
    by false e rest =
        let later : lookup test arrays ≡ Some cells = sym (ap (λ b. cond b (Some a.1) (lookup test arrays)) e) ∙ found in
        let left : cell_count (remove_entry test (a ∷ arrays)) ≡ cell_count (a ∷ remove_entry test arrays) =
        ap (λ b. cell_count (cond b arrays (a ∷ remove_entry test arrays))) e in
        omega (arith, left, cell_count-cons a (remove_entry test arrays), rest later, cell_count-cons a arrays)

-- no array has more cells than all
pub length-≤-cell_count : (arrays : List Named) (i : ℕ) (d : Named) → i < length arrays → length (get_or arrays i d).1 ≤ cell_count arrays
length-≤-cell_count [] i d below = absurd (omega arith)
length-≤-cell_count (a ∷ arrays) zero d below = omega (arith, cell_count-cons a arrays)
length-≤-cell_count (a ∷ arrays) (suc i) d below = omega (arith, cell_count-cons a arrays, length-≤-cell_count arrays i d (omega arith))

-- where each array has a cell, there are no more arrays than cells
pub count-≤-cell_count : (arrays : List Named) → All (λ n. 0 < n) (lengths (cells_in arrays)) → length arrays ≤ cell_count arrays
count-≤-cell_count [] filled = omega arith
count-≤-cell_count (a ∷ arrays) filled =
    let one : 0 < length a.1 = filled 0 0 (omega arith) in
    let rest = count-≤-cell_count arrays (λ k d below. filled (suc k) d (omega arith)) in
    omega (arith, cell_count-cons a arrays)

-- ---- soundness is of names and lengths alone

pub AreSound-same : (old new : List Named) → names_in new ≡ names_in old → lengths (cells_in new) ≡ lengths (cells_in old) → AreSound old → AreSound new
AreSound-same old new names lens h = record {
  distinct = subst (IsDistinct bytes_eq) (sym names) h.distinct;
  filled = subst (All (λ n. 0 < n)) (sym lens) h.filled;
  few = subst (λ ns. sum ns < 2 ^ 32) (sym lens) h.few;
}

pub AreSound-put : (test : List ℕ → Bool) (arrays : List Named) (old new : List ℕ) → lookup test arrays ≡ Some old → length new ≡ length old → AreSound arrays →
    AreSound (set_value test arrays new)
AreSound-put test arrays old new found same =
    AreSound-same arrays (set_value test arrays new) (keys-set_value test arrays new) (lengths-set_value test arrays old new found same)

lengths-push : (arrays : List Named) (a : Named) → lengths (cells_in (arrays ++ a ∷ [])) ≡ lengths (cells_in arrays) ++ length a.1 ∷ []
lengths-push [] a = refl
lengths-push (b ∷ arrays) a = ap (λ ns. length b.1 ∷ ns) (lengths-push arrays a)

pub AreSound-push : (arrays : List Named) (a : Named) → IsDistinct bytes_eq (names_in (arrays ++ a ∷ [])) → 0 < length a.1 →
    cell_count arrays + length a.1 < 2 ^ 32 → AreSound arrays → AreSound (arrays ++ a ∷ [])
AreSound-push arrays a distinct one few h = record {
  distinct = distinct;
  filled = subst (All (λ n. 0 < n)) (sym (lengths-push arrays a)) (All-push (λ n. 0 < n) (lengths (cells_in arrays)) (length a.1) h.filled one);
  few = omega (arith, cell_count-push arrays a);
}

lengths-map : (arrays : List Named) → lengths (cells_in arrays) ≡ map (λ a. length a.1) arrays
lengths-map [] = refl
lengths-map (a ∷ arrays) = ap (λ ns. length a.1 ∷ ns) (lengths-map arrays)

pub AreSound-remove_entry : (test : List ℕ → Bool) (arrays : List Named) (cells : List ℕ) → lookup test arrays ≡ Some cells →
    IsDistinct bytes_eq (names_in (remove_entry test arrays)) → AreSound arrays → AreSound (remove_entry test arrays)
AreSound-remove_entry test arrays cells found distinct h = record {
  distinct = distinct;
  filled =
      subst (All (λ n. 0 < n)) (sym (lengths-map (remove_entry test arrays)))
      (All-map-remove_entry test (λ (a : Named). length a.1) (λ n. 0 < n) arrays (subst (All (λ n. 0 < n)) (lengths-map arrays) h.filled));
  few = omega (arith, cell_count-remove_entry test arrays cells found, h.few);
}

-- ---- other cells for all

lengths-same-length : (xs ys : List (List ℕ)) → lengths xs ≡ lengths ys → length xs ≡ length ys
lengths-same-length xs ys same = sym (length-map xs length) ∙ ap length same ∙ length-map ys length

-- lists as long as the arrays' are as many
pub cells-fit : (arrays : List Named) (cells : List (List ℕ)) → lengths cells ≡ lengths (cells_in arrays) → length cells ≡ length arrays
cells-fit arrays cells same = lengths-same-length cells (cells_in arrays) same ∙ length-map arrays (λ (a : Named). a.1)

names-fit : (arrays : List Named) (cells : List (List ℕ)) → lengths cells ≡ lengths (cells_in arrays) → length cells ≡ length (names_in arrays)
names-fit arrays cells same = cells-fit arrays cells same ∙ sym (length-map arrays (λ (a : Named). a.0))

pub names_in-recelled : (arrays : List Named) (cells : List (List ℕ)) → lengths cells ≡ lengths (cells_in arrays) → names_in (with_cells arrays cells) ≡ names_in arrays
names_in-recelled arrays cells same = firsts-zip (names_in arrays) cells (names-fit arrays cells same)

pub cells_in-recelled : (arrays : List Named) (cells : List (List ℕ)) → lengths cells ≡ lengths (cells_in arrays) → cells_in (with_cells arrays cells) ≡ cells
cells_in-recelled arrays cells same = seconds-zip (names_in arrays) cells (names-fit arrays cells same)

pub AreSound-recelled : (arrays : List Named) (cells : List (List ℕ)) → lengths cells ≡ lengths (cells_in arrays) → AreSound arrays → AreSound (with_cells arrays cells)
AreSound-recelled arrays cells same =
    AreSound-same arrays (with_cells arrays cells) (names_in-recelled arrays cells same) (ap lengths (cells_in-recelled arrays cells same) ∙ same)

-- ---- the shape

pub AreShort-listed : (arrays : List Named) → AreSound arrays → AreShort (arrays_listed arrays)
AreShort-listed arrays h =
    let shown : Named → List ℕ × ℕ = λ a. (a.0, length a.1) in
    let count : length (arrays_listed arrays) ≡ length arrays = length-map arrays shown in record {
      few = omega (arith, count, count-≤-cell_count arrays h.filled, h.few);
      short = All-map (λ a. a.1 < 2 ^ 32) shown arrays (λ k d below. omega (arith, length-≤-cell_count arrays k d below, h.few));
    }

-- the lengths of the shape are those of the cells
pub array_lengths-shape_in : (limits : Limits) (arrays : List Named) → array_lengths (shape_in limits arrays) ≡ lengths (cells_in arrays)
array_lengths-shape_in limits [] = refl
array_lengths-shape_in limits (a ∷ arrays) = ap (λ ns. length a.1 ∷ ns) (array_lengths-shape_in limits arrays)
