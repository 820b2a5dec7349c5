-- The entries of the code's map, and the arrays that they stand for.
use Rattle.std.proofs.Common.{◌≡◌, ℕ, ◌+◌, ◌-◌, ◌<◌, ◌≤◌, ◌^◌, Bool, true, false, cond, List, [], ◌∷◌, ◌++◌, length, map, Option, Some, None, is_some, String, Vec, Global, string_bytes, refl, sym, ap, ◌∙◌, subst, arith, true≢false}
use Rattle.std.specs.Prelude.{bytes_eq, option_map, sum, vec_len}
use Rattle.std.specs.List.{AllByRecursion, AllZip, IsDistinct, each_same}
use Rattle.std.specs.HashMap.{HashMap}
use Rattle.std.specs.Map.{keys_of, values_of, lookup, set_value, remove_entry}
use Rattle.std.specs.String.{string_eq}
use Rattle.indexmap.specs.IndexMap.{insert_entry}
use Rattle.indexmap.proofs.CallerLemmas.{insert_entry-new}
use Rattle.ot_store.specs.Arrays.{Named, names_in, cells_in, cell_count, cells_called, others, AreSound, named_of, AreCounted}
use Rattle.ot_store.proofs.ArraysLemmas.{AreSound-push, AreSound-put, AreSound-remove_entry, cell_count-push, cell_count-remove_entry, others-remove_entry, lengths-set_value}

abbrev pub Entry : Type 0
Entry = String Global × Vec ℕ Global

-- the test by which the map looks a name up
abbrev pub is_called : List ℕ → String Global → Bool
is_called name key = bytes_eq name (string_bytes key)

-- ---- one call of the map, on entries and on arrays

cond-some : {A B : Type 0} (f : A → B) (b : Bool) (x : A) (found : Option B) (entry : Option A) → found ≡ option_map f entry →
    cond b (Some (f x)) found ≡ option_map f (cond b (Some x) entry)
cond-some f true x found entry e = refl
cond-some f false x found entry e = e

cells_called-named : (name : List ℕ) (entries : List Entry) → cells_called name (named_of entries) ≡ option_map (λ v. v.items) (lookup (is_called name) entries)
cells_called-named name [] = refl
cells_called-named name (e ∷ entries) =
    cond-some (λ v. v.items) (is_called name e.0) e.1 (cells_called name (named_of entries)) (lookup (is_called name) entries) (cells_called-named name entries)

pub cells_called-none : (name : List ℕ) (entries : List Entry) → lookup (is_called name) entries ≡ None → cells_called name (named_of entries) ≡ None
cells_called-none name entries none = cells_called-named name entries ∙ ap (option_map (λ v. v.items)) none

pub cells_called-some : (name : List ℕ) (entries : List Entry) (v : Vec ℕ Global) → lookup (is_called name) entries ≡ Some v → cells_called name (named_of entries) ≡ Some v.items
cells_called-some name entries v found = cells_called-named name entries ∙ ap (option_map (λ v. v.items)) found

is_some-option_map : {A B : Type 0} (f : A → B) (o : Option A) → is_some (option_map f o) ≡ is_some o
is_some-option_map f None = refl
is_some-option_map f (Some x) = refl

pub is_some-named : (name : List ℕ) (entries : List Entry) → is_some (cells_called name (named_of entries)) ≡ is_some (lookup (is_called name) entries)
is_some-named name entries = ap is_some (cells_called-named name entries) ∙ is_some-option_map (λ v. v.items) (lookup (is_called name) entries)

named_of-cond : (b : Bool) (xs ys : List Entry) → cond b (named_of xs) (named_of ys) ≡ named_of (cond b xs ys)
named_of-cond true xs ys = refl
named_of-cond false xs ys = refl

remove_entry-named : (name : List ℕ) (entries : List Entry) → remove_entry (bytes_eq name) (named_of entries) ≡ named_of (remove_entry (is_called name) entries)
remove_entry-named name [] = refl
remove_entry-named name (e ∷ entries) =
    ap (λ rest. cond (is_called name e.0) (named_of entries) ((string_bytes e.0, e.1.items) ∷ rest)) (remove_entry-named name entries)
    ∙ named_of-cond (is_called name e.0) entries (e ∷ remove_entry (is_called name) entries)

pub set_value-named : (name : List ℕ) (entries : List Entry) (v : Vec ℕ Global) →
    set_value (bytes_eq name) (named_of entries) v.items ≡ named_of (set_value (is_called name) entries v)
set_value-named name [] v = refl
set_value-named name (e ∷ entries) v =
    ap (λ rest. cond (is_called name e.0) ((string_bytes e.0, v.items) ∷ named_of entries) ((string_bytes e.0, e.1.items) ∷ rest)) (set_value-named name entries v)
    ∙ named_of-cond (is_called name e.0) ((e.0, v) ∷ entries) (e ∷ set_value (is_called name) entries v)

named_of-push : (entries : List Entry) (e : Entry) → named_of (entries ++ e ∷ []) ≡ named_of entries ++ (string_bytes e.0, e.1.items) ∷ []
named_of-push [] e = refl
named_of-push (f ∷ entries) e = ap (λ rest. (string_bytes f.0, f.1.items) ∷ rest) (named_of-push entries e)

none-from_test : {A : Type 0} (o : Option A) → is_some o ≡ false → o ≡ None
none-from_test None e = refl
none-from_test (Some x) e = absurd (true≢false e)

-- a new key goes last
pub named_of-insert : {S : Type 0} (m : HashMap (String Global) (Vec ℕ Global) S) (name : List ℕ) (key : String Global) (v : Vec ℕ Global) (cells : List ℕ) →
    is_some (lookup (is_called name) m.entries) ≡ false → string_bytes key ≡ name → v.items ≡ cells →
    named_of (insert_entry string_eq m.entries key v) ≡ named_of m.entries ++ (name, cells) ∷ []
named_of-insert m name key v cells free is_name is_cells =
    let none : lookup (string_eq key) m.entries ≡ None =
    ap (λ bytes. lookup (is_called bytes) m.entries) is_name ∙ none-from_test (lookup (is_called name) m.entries) free in
    ap named_of (insert_entry-new string_eq m key v none)
    ∙ named_of-push m.entries (key, v)
    ∙ ap (λ a. named_of m.entries ++ a ∷ []) (λ i. (is_name i, is_cells i))

-- keys that differ are names that differ
distinct-named : (entries : List Entry) → IsDistinct string_eq (keys_of entries) → IsDistinct bytes_eq (names_in (named_of entries))
unfolding IsDistinct
distinct-named [] distinct = distinct
distinct-named (e ∷ entries) distinct = (apart entries distinct.0, distinct-named entries distinct.1)
  where
    apart : (later : List Entry) → AllByRecursion (λ k. string_eq e.0 k ≡ false) (keys_of later) →
        AllByRecursion (λ name. bytes_eq (string_bytes e.0) name ≡ false) (names_in (named_of later))
    apart [] h = h
    apart (f ∷ later) h = (h.0, apart later h.1)

-- ---- what the type keeps

pub AreCounted-insert : (old new : List Entry) (a : Named) (count n : ℕ) → named_of new ≡ named_of old ++ a ∷ [] → IsDistinct string_eq (keys_of new) →
    length a.1 ≡ n → 0 < n → count + n < 2 ^ 32 → AreCounted (named_of old) count → AreCounted (named_of new) (count + n)
AreCounted-insert old new a count n is distinct size one few h =
    let differ : IsDistinct bytes_eq (names_in (named_of old ++ a ∷ [])) = subst (λ arrays. IsDistinct bytes_eq (names_in arrays)) is (distinct-named new distinct) in record {
      sound = subst AreSound (sym is) (AreSound-push (named_of old) a differ (omega arith) (omega (arith, h.counted)) h.sound);
      counted = omega (arith, ap cell_count is, cell_count-push (named_of old) a, h.counted);
    }

-- the array that a look-up finds has no more cells than are counted
pub found-≤-count : (name : List ℕ) (entries : List Entry) (v : Vec ℕ Global) (count : ℕ) → lookup (is_called name) entries ≡ Some v → AreCounted (named_of entries) count →
    length v.items ≤ count
found-≤-count name entries v count found h =
    omega (arith, cell_count-remove_entry (bytes_eq name) (named_of entries) v.items (cells_called-some name entries v found), h.counted)

-- the arrays with other names are what `shift_remove` leaves
pub others-named : (name : List ℕ) (old new : List Entry) (count : ℕ) → new ≡ remove_entry (is_called name) old → AreCounted (named_of old) count →
    others name (named_of old) ≡ named_of new
others-named name old new count is h =
    others-remove_entry name (named_of old) h.sound.distinct ∙ remove_entry-named name old ∙ ap named_of (sym is)

pub AreCounted-remove : (name : List ℕ) (old new : List Entry) (v : Vec ℕ Global) (count n : ℕ) → new ≡ remove_entry (is_called name) old →
    lookup (is_called name) old ≡ Some v → length v.items ≡ n → IsDistinct string_eq (keys_of new) → AreCounted (named_of old) count →
    AreCounted (named_of new) (count - n)
AreCounted-remove name old new v count n is found size distinct h =
    let left : named_of new ≡ remove_entry (bytes_eq name) (named_of old) = ap named_of is ∙ sym (remove_entry-named name old) in
    let there = cells_called-some name old v found in
    let differ : IsDistinct bytes_eq (names_in (remove_entry (bytes_eq name) (named_of old))) =
    subst (λ arrays. IsDistinct bytes_eq (names_in arrays)) left (distinct-named new distinct) in record {
      sound = subst AreSound (sym left) (AreSound-remove_entry (bytes_eq name) (named_of old) v.items there differ h.sound);
      counted = omega (arith, ap cell_count left, cell_count-remove_entry (bytes_eq name) (named_of old) v.items there, h.counted);
    }

-- as many cells in the place of an array's
pub AreCounted-put : (name : List ℕ) (old new : List Entry) (v w : Vec ℕ Global) (count : ℕ) → new ≡ set_value (is_called name) old w →
    lookup (is_called name) old ≡ Some v → length w.items ≡ length v.items → AreCounted (named_of old) count → AreCounted (named_of new) count
AreCounted-put name old new v w count is found same h =
    let there = cells_called-some name old v found in
    let left : named_of new ≡ set_value (bytes_eq name) (named_of old) w.items = ap named_of is ∙ sym (set_value-named name old w) in record {
      sound = subst AreSound (sym left) (AreSound-put (bytes_eq name) (named_of old) v.items w.items there same h.sound);
      counted = h.counted ∙ sym (ap cell_count left ∙ cell_count-put (named_of old) v.items w.items there same);
    }
  where
    cell_count-put : (arrays : List Named) (cells others : List ℕ) → lookup (bytes_eq name) arrays ≡ Some cells → length others ≡ length cells →
        cell_count (set_value (bytes_eq name) arrays others) ≡ cell_count arrays
    cell_count-put arrays cells others there size = ap sum (lengths-set_value (bytes_eq name) arrays cells others there size)

pub AreCounted-empty : AreCounted [] 0
unfolding IsDistinct
AreCounted-empty = record { sound = record { distinct = tt; filled = λ k d below. absurd (omega (arith, below)); few = omega arith }; counted = refl }

-- clones are the same arrays
pub named_of-clone : (old new : List Entry) →
    AllZip (λ (p q : Entry). (string_bytes q.0 ≡ string_bytes p.0) × (AllZip (λ (x y : ℕ). y ≡ x) p.1.items q.1.items × (vec_len q.1 ≡ vec_len p.1))) old new →
    named_of new ≡ named_of old
named_of-clone [] [] h = refl
named_of-clone [] (f ∷ new) h = absurd h
named_of-clone (e ∷ old) [] h = absurd h
named_of-clone (e ∷ old) (f ∷ new) h = λ j. (h.0.0 j, each_same e.1.items f.1.items h.0.1.0 j) ∷ named_of-clone old new h.1 j

-- the cells of the map's values
pub cells_in-named : (entries : List Entry) → map (λ v. v.items) (values_of entries) ≡ cells_in (named_of entries)
cells_in-named [] = refl
cells_in-named (e ∷ entries) = ap (λ rest. e.1.items ∷ rest) (cells_in-named entries)
