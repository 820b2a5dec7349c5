-- The rows of clauses one after the other, and what is told of them all.
use Rattle.std.proofs.Common.{◌≡◌, ℕ, zero, suc, ◌+◌, ◌<◌, ◌≤◌, List, [], ◌∷◌, ◌++◌, map, length, get_or, drop, Option, Some, None, refl, sym, ap, subst, ◌∙◌, append-nil, add-one, inl, inr, arith}
use Rattle.std.specs.Prelude.{All, flat_map, option_map}
use Rattle.std.specs.Option.{option_to_list}
use Rattle.std.specs.List.{AllByRecursion}
use Rattle.std.specs.List.Sorted.{IsPermutation, IsNonDecreasingBy}
use Rattle.std.proofs.Math.Seq.{drop-cons}
use Rattle.std.proofs.lemmas.List.{drop_all}
use Rattle.std.proofs.lemmas.List.Sorted.{IsPermutation-map, IsPermutation-sym}
use Rattle.serde_json.specs.Data.{Data}
use Rattle.serde_json.specs.View.{view, items_view}
use Rattle.serde_json.specs.declared.value.Value.{Value}
use Rattle.ot_model.specs.Programs.{Arrays}
use Rattle.ot_program.specs.Meanings.{each, Clause}
use Rattle.ot_program.specs.declared.fault.Refusal.{Refusal}
use Rattle.ot_why_mixed.specs.Mixed.{cell_by_name, first_mixed}
use Rattle.ot_why_mixed.specs.Rows.{Row, row_of, row_by, Fits, sweep}
use Rattle.ot_why_mixed.specs.declared.clause.Named.{Named}
use Rattle.ot_why_mixed.proofs.ClauseLemmas.{none_first, none_second}
use Rattle.ot_why_mixed.proofs.CellLemmas.{told_of, mixed_is}
use Rattle.ot_why_mixed.proofs.InLemmas.{In, in_map, map_in, all_in, in_permuted}
use Rattle.ot_why_mixed.proofs.SweepLemmas.{Rising, sweep_is}

-- ---- one clause more

each-next : (vs : List Value) (i : ℕ) (v : Value) → i < length vs → v ≡ get_or vs i v
    → each (items_view (drop i vs)) ≡ view v ∷ each (items_view (drop (i + 1) vs))
each-next vs i v within is = rw (drop-cons vs i v within, ← is, add-one) refl

pub one_faultless : (faults : Data → List Refusal) (vs : List Value) (i : ℕ) (v : Value) → i < length vs → v ≡ get_or vs i v
    → flat_map faults (each (items_view vs)) ≡ [] → faults (view v) ≡ []
one_faultless faults [] i v within is h = absurd (omega (arith, within))
one_faultless faults (x ∷ vs) zero v within is h = rw is (none_first (faults (view x)) (flat_map faults (each (items_view vs))) h)
one_faultless faults (x ∷ vs) (suc i) v within is h =
    one_faultless faults vs i v (omega (arith, within)) is (none_second (faults (view x)) (flat_map faults (each (items_view vs))) h)

one_more : (old : List Named) (n : Named) (rest : List Row) → map row_by (old ++ n ∷ []) ++ rest ≡ map row_by old ++ row_by n ∷ rest
one_more [] n rest = refl
one_more (m ∷ old) n rest = ap (λ (rs : List Row). row_by m ∷ rs) (one_more old n rest)

put_row : (old : List Named) (o : Option Named) (r : Row) (rest : List Row) → option_map row_by o ≡ Some r
    → map row_by (old ++ option_to_list o) ++ rest ≡ map row_by old ++ r ∷ rest
put_row old None r rest is = absurd cc
put_row old (Some n) r rest is = let e : row_by n ≡ r = cc in one_more old n rest ∙ ap (λ (q : Row). map row_by old ++ q ∷ rest) e

pub rows_next : (f : Data → Row) (vs : List Value) (i : ℕ) (v : Value) (old new : List Named) (o : Option Named) (whole : List Row) → i < length vs → v ≡ get_or vs i v
    → new ≡ old ++ option_to_list o → option_map row_by o ≡ Some (f (view v)) → map row_by old ++ map f (each (items_view (drop i vs))) ≡ whole
    → map row_by new ++ map f (each (items_view (drop (i + 1) vs))) ≡ whole
rows_next f vs i v old new o whole within is pushed row so_far =
    let rest = map f (each (items_view (drop (i + 1) vs))) in
    ap (λ (ns : List Named). map row_by ns ++ rest) pushed ∙ put_row old o (f (view v)) rest row
    ∙ ap (λ (ds : List Data). map row_by old ++ map f ds) (sym (each-next vs i v within is)) ∙ so_far

pub rows_end : (f : Data → Row) (vs : List Value) (i : ℕ) (cell_by_name : List Named) (whole : List Row) → length vs ≤ i
    → map row_by cell_by_name ++ map f (each (items_view (drop i vs))) ≡ whole → map row_by cell_by_name ≡ whole
rows_end f vs i cell_by_name whole past h = sym (append-nil (map row_by cell_by_name)) ∙ (rw (drop_all i vs past) at h)

pub fits_next : (P : Data → Type 0) (vs : List Value) (i : ℕ) (v : Value) → i < length vs → v ≡ get_or vs i v → P (view v)
    → (AllByRecursion P (each (items_view (drop i vs))) → AllByRecursion P (each (items_view vs)))
    → AllByRecursion P (each (items_view (drop (i + 1) vs))) → AllByRecursion P (each (items_view vs))
fits_next P vs i v within is h so_far rest = so_far (rw (each-next vs i v within is) (h, rest))

pub fits_end : (P : Data → Type 0) (vs : List Value) (i : ℕ) → length vs ≤ i
    → (AllByRecursion P (each (items_view (drop i vs))) → AllByRecursion P (each (items_view vs))) → AllByRecursion P (each (items_view vs))
fits_end P vs i past so_far = so_far (rw (drop_all i vs past) tt)

-- ---- what is told of them all

rising : (ns : List Named) → IsNonDecreasingBy (λ (n : Named). n.from) ns → Rising (map row_by ns)
rising [] h = tt
rising (n ∷ ns) h = (first, rising ns (λ i j d le within. h (suc i) (suc j) d (omega (arith, le)) (omega (arith, within))))
  where
    later : All (λ (m : Named). n.from ≤ m.from) ns
    later k d within = h 0 (suc k) d (omega arith) (omega (arith, within))

    first : (q : Row) → In q (map row_by ns) → n.from ≤ q.from
    first q there =
        let m = map_in row_by q ns there in
        let below = all_in (λ (m : Named). n.from ≤ m.from) ns later m.0 m.1.0 in
        let e = ap (λ (r : Row). r.from) m.1.1 in
        omega (arith, below, e)

all_fit : (f : Data → Clause) (ds : List Data) → AllByRecursion (λ d. Fits (f d).section) ds → (k : Clause) → In k (map f ds) → Fits k.section
all_fit f [] h k there = absurd there
all_fit f (d ∷ ds) h k (inl e) = subst (λ (c : Clause). Fits c.section) (sym e) h.0
all_fit f (d ∷ ds) h k (inr there) = all_fit f ds h.1 k there

map_twice : (shape : Arrays) (f : Data → Clause) (ds : List Data) → map (λ d. row_of shape (f d)) ds ≡ map (row_of shape) (map f ds)
map_twice shape f [] = refl
map_twice shape f (d ∷ ds) = ap (λ (rs : List Row). row_of shape (f d) ∷ rs) (map_twice shape f ds)

pub told_among : (shape : Arrays) (f : Data → Clause) (ds : List Data) (before after : List Named) (found : Option Row)
    → AllByRecursion (λ d. Fits (f d).section) ds → map row_by before ≡ map (λ d. row_of shape (f d)) ds → IsPermutation before after
    → IsNonDecreasingBy (λ (n : Named). n.from) after → found ≡ sweep 0 None (map row_by after)
    → option_map told_of found ≡ option_map (cell_by_name shape) (first_mixed (map f ds))
told_among shape f ds before after found fit rows permuted sorted is =
    let same : map row_by before ≡ map (row_of shape) (map f ds) = rows ∙ map_twice shape f ds in
    let there = IsPermutation-map row_by before after permuted in
    let back = IsPermutation-sym (map row_by before) (map row_by after) there in
    rw is
    (mixed_is shape (map f ds) (map row_by after) (sweep 0 None (map row_by after)) (all_fit f ds fit)
    (λ k h. in_permuted (map row_by after) (map row_by before) back (row_of shape k) (rw same (in_map (row_of shape) k (map f ds) h)))
    (λ r h. map_in (row_of shape) r (map f ds) (rw same at (in_permuted (map row_by before) (map row_by after) there r h)))
    (sweep_is (map row_by after) (rising after sorted)))
