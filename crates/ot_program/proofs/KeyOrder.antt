-- Cells in order: which comes before which, and the place of one more.
use Rattle.std.proofs.Common.{◌≡◌, ℕ, zero, suc, ◌+◌, ◌<◌, ◌≤◌, Bool, true, false, cond, List, [], ◌∷◌, length, get_or, slice_set, Option, Some, None, refl, sym, ap, subst, ◌∙◌, arith, inl, inr}
use Rattle.std.specs.Prelude.{◌⊎◌, count_by, unwrap_or}
use Rattle.std.specs.List.{fold, insert, AllWithin, AllByRecursion}
use Rattle.std.specs.List.Sorted.{IsPartitionedBy, IsPartitionPoint, IsStrictlySortedBy}
use Rattle.std.specs.Map.{lookup, keys_of}
use Rattle.std.specs.BTreeMap.{insert_entry, is_at}
use Rattle.std.specs.Ordering.{nat_cmp, ordering_then, match_ordering, is_lt, is_eq}
use Rattle.std.specs.Cmp.{nat_cmp_is}
use Rattle.std.specs.declared.cmp.Ordering.{Ordering}
use Rattle.std.specs.declared.cmp.Ordering.TheVariants.{Less, Equal, Greater}
use Rattle.std.proofs.lemmas.Bool.{cases_lt}
use Rattle.std.proofs.lemmas.List.{get_or_default}
use Rattle.std.proofs.lemmas.List.Sums.{sum_by-cons}
use Rattle.ot_model.specs.declared.expr.Cell.{Cell}
use Rattle.ot_model.specs.declared.stmt.Mode.{Mode}
use Rattle.ot_program.specs.walk.Namings.{cell_order, Named, before, together, name_cell}
use Rattle.ot_program.proofs.CellLists.{cell_of_key, precedes}
use Rattle.ot_program.proofs.Declared.{same_from, at_itself, mode_at}

-- one more in its place, unless it is there
abbrev pub place : List (ℕ × ℕ) → ℕ × ℕ → List (ℕ × ℕ)
place [] k = k ∷ []
place (j ∷ js) k = match_ordering (cell_order k j) (k ∷ j ∷ js) (j ∷ js) (j ∷ place js k)

-- ---- the order of keys

unfoldable pub Under : ℕ × ℕ → ℕ × ℕ → Type 0
Under a b = (a.0 < b.0) ⊎ ((a.0 ≡ b.0) × (a.1 < b.1))

pub under_trans : (a b c : ℕ × ℕ) → Under a b → Under b c → Under a c
unfolding Under
under_trans a b c (inl h) (inl k) = inl (omega arith)
under_trans a b c (inl h) (inr k) = inl (omega (arith, k.0))
under_trans a b c (inr h) (inl k) = inl (omega (arith, h.0))
under_trans a b c (inr h) (inr k) = inr (h.0 ∙ k.0, omega (arith, h.1, k.1))

pub under_differs : (a b : ℕ × ℕ) → Under a b → b ≡ a → ⊥
unfolding Under
under_differs a b (inl h) same = let e : b.0 ≡ a.0 = ap (λ (k : ℕ × ℕ). k.0) same in absurd (omega (arith, e))
under_differs a b (inr h) same = let e : b.1 ≡ a.1 = ap (λ (k : ℕ × ℕ). k.1) same in absurd (omega (arith, e, h.1))

pub less_under : (a b : ℕ × ℕ) → cell_order a b ≡ Less → Under a b
unfolding Under
less_under a b is = precedes a.0 b.0 a.1 b.1 is

later : (o p : Ordering) → Less ≡ o → ordering_then o p ≡ Greater → ⊥
later Less p is h = absurd cc
later Equal p is h = absurd cc
later Greater p is h = absurd cc

second : (o p : Ordering) → Equal ≡ o → ordering_then o p ≡ p
second Less p is = absurd cc
second Equal p is = refl
second Greater p is = absurd cc

pub greater_under : (a b : ℕ × ℕ) → cell_order a b ≡ Greater → Under b a
unfolding Under
greater_under a b is =
    elim (cases_lt b.0 a.0) [
      | inl lt ↦ inl lt
      | inr ge ↦ elim (cases_lt a.0 b.0) [
        | inl gt ↦ absurd (later (nat_cmp a.0 b.0) (nat_cmp a.1 b.1) (nat_cmp_is a.0 b.0 Less gt) is)
        | inr le ↦
            let same : a.0 ≡ b.0 = omega arith in
            let rest : nat_cmp a.1 b.1 ≡ Greater = sym (second (nat_cmp a.0 b.0) (nat_cmp a.1 b.1) (nat_cmp_is a.0 b.0 Equal same)) ∙ is in
            elim (cases_lt b.1 a.1) [
              | inl lt ↦ inr (sym same, lt)
              | inr past ↦ elim (cases_lt a.1 b.1) [
                | inl gt ↦ absurd (let k : Less ≡ Greater = nat_cmp_is a.1 b.1 Less gt ∙ rest in cc)
                | inr equal ↦ absurd (let k : Equal ≡ Greater = nat_cmp_is a.1 b.1 Equal (omega arith) ∙ rest in cc)
              ]
            ]
      ]
    ]

unfoldable pub AllAbove : ℕ × ℕ → List (ℕ × ℕ) → Type 0
AllAbove k [] = Unit {0}
AllAbove k (j ∷ js) = Under k j × AllAbove k js

unfoldable pub Sorted : List (ℕ × ℕ) → Type 0
Sorted [] = Unit {0}
Sorted (k ∷ ks) = AllAbove k ks × Sorted ks

above_weaker : (k j : ℕ × ℕ) (js : List (ℕ × ℕ)) → Under k j → AllAbove j js → AllAbove k js
unfolding AllAbove
above_weaker k j [] h all = tt
above_weaker k j (i ∷ is) h all = (under_trans k j i h all.0, above_weaker k j is h all.1)

above_placed_by : (b k j : ℕ × ℕ) (js : List (ℕ × ℕ)) (r : Ordering) → Under b k → AllAbove b (j ∷ js) → AllAbove b (place js k)
    → AllAbove b (match_ordering r (k ∷ j ∷ js) (j ∷ js) (j ∷ place js k))
unfolding AllAbove
above_placed_by b k j js Less h all rest = (h, all)
above_placed_by b k j js Equal h all rest = all
above_placed_by b k j js Greater h all rest = (all.0, rest)

above_placed : (b k : ℕ × ℕ) (js : List (ℕ × ℕ)) → Under b k → AllAbove b js → AllAbove b (place js k)
unfolding AllAbove
above_placed b k [] h all = (h, tt)
above_placed b k (j ∷ js) h all = above_placed_by b k j js (cell_order k j) h all (above_placed b k js h all.1)

sorted_by : (k j : ℕ × ℕ) (js : List (ℕ × ℕ)) (r : Ordering) → cell_order k j ≡ r → Sorted (j ∷ js) → Sorted (place js k)
    → Sorted (match_ordering r (k ∷ j ∷ js) (j ∷ js) (j ∷ place js k))
unfolding Sorted AllAbove
sorted_by k j js Less is s rest = ((less_under k j is, above_weaker k j js (less_under k j is) s.0), s)
sorted_by k j js Equal is s rest = s
sorted_by k j js Greater is s rest = (above_placed j k js (greater_under k j is) s.0, rest)

pub sorted_placed : (k : ℕ × ℕ) (js : List (ℕ × ℕ)) → Sorted js → Sorted (place js k)
unfolding Sorted AllAbove
sorted_placed k [] s = (tt, tt)
sorted_placed k (j ∷ js) s = sorted_by k j js (cell_order k j) refl s (sorted_placed k js s.1)

-- ---- one naming more

keys_by : (k : ℕ × ℕ) (v : Option Mode) (e : (ℕ × ℕ) × Option Mode) (es : Named) (r : Ordering) → keys_of (insert_entry cell_order es k v) ≡ place (keys_of es) k
    → keys_of (match_ordering r ((k, v) ∷ e ∷ es) ((e.0, v) ∷ es) (e ∷ insert_entry cell_order es k v))
    ≡ match_ordering r (k ∷ e.0 ∷ keys_of es) (e.0 ∷ keys_of es) (e.0 ∷ place (keys_of es) k)
keys_by k v e es Less h = refl
keys_by k v e es Equal h = refl
keys_by k v e es Greater h = ap (λ (ks : List (ℕ × ℕ)). e.0 ∷ ks) h

pub keys_placed : (k : ℕ × ℕ) (v : Option Mode) (es : Named) → keys_of (insert_entry cell_order es k v) ≡ place (keys_of es) k
keys_placed k v [] = refl
keys_placed k v (e ∷ es) = keys_by k v e es (cell_order k e.0) (keys_placed k v es)

pub sorted_named : (m : Mode) (es : Named) (c : Cell) → Sorted (keys_of es) → Sorted (keys_of (name_cell m es c))
sorted_named m es c s = subst Sorted (sym (keys_placed (c.array, c.index) _ es)) (sorted_placed (c.array, c.index) (keys_of es) s)

pub all_sorted_named : (m : Mode) (cells : List Cell) (es : Named) → Sorted (keys_of es) → Sorted (keys_of (fold (name_cell m) es cells))
all_sorted_named m [] es s = s
all_sorted_named m (c ∷ cs) es s = all_sorted_named m cs (name_cell m es c) (sorted_named m es c s)

-- ---- the order as std says it

under_less : (a b : ℕ × ℕ) → Under a b → cell_order a b ≡ Less
unfolding Under
under_less a b (inl h) = rw (← nat_cmp_is a.0 b.0 Less h) refl
under_less a b (inr h) = rw (← nat_cmp_is a.0 b.0 Equal h.0, ← nat_cmp_is a.1 b.1 Less h.1) refl

under_greater : (a b : ℕ × ℕ) → Under b a → cell_order a b ≡ Greater
unfolding Under
under_greater a b (inl h) = rw (← nat_cmp_is a.0 b.0 Greater h) refl
under_greater a b (inr h) = rw (← nat_cmp_is a.0 b.0 Equal (sym h.0), ← nat_cmp_is a.1 b.1 Greater h.1) refl

above_strict : (k : ℕ × ℕ) (ks : List (ℕ × ℕ)) → AllAbove k ks → AllByRecursion (λ j. cell_order k j ≡ Less) ks
unfolding AllAbove
above_strict k [] h = tt
above_strict k (j ∷ js) h = (under_less k j h.0, above_strict k js h.1)

pub strictly_sorted : (ks : List (ℕ × ℕ)) → Sorted ks → IsStrictlySortedBy cell_order ks
unfolding Sorted IsStrictlySortedBy
strictly_sorted [] s = tt
strictly_sorted (k ∷ ks) s = (above_strict k ks s.0, strictly_sorted ks s.1)

above_from : (k : ℕ × ℕ) (ks : List (ℕ × ℕ)) → AllByRecursion (λ j. cell_order k j ≡ Less) ks → AllAbove k ks
unfolding AllAbove
above_from k [] h = tt
above_from k (j ∷ js) h = (less_under k j h.0, above_from k js h.1)

pub sorted_from : (ks : List (ℕ × ℕ)) → IsStrictlySortedBy cell_order ks → Sorted ks
unfolding Sorted IsStrictlySortedBy
sorted_from [] s = tt
sorted_from (k ∷ ks) s = (above_from k ks s.0, sorted_from ks s.1)

-- ---- how many come before a cell

abbrev pub Entry : Type 0
Entry = (ℕ × ℕ) × Option Mode

abbrev pub comes : ℕ × ℕ → Entry → Bool
comes k e = is_lt (cell_order e.0 k)

before_step : (k : ℕ × ℕ) (e : Entry) (es : Named) → before k (e ∷ es) ≡ cond (comes k e) 1 0 + before k es
before_step k e es = sum_by-cons (λ (x : Entry). cond (comes k x) 1 0) e es

-- one that comes before the cell
comes_first : (k : ℕ × ℕ) (e : Entry) (es : Named) → Under e.0 k → before k (e ∷ es) ≡ suc (before k es)
comes_first k e es h = before_step k e es ∙ rw (under_less e.0 k h) (omega arith)

-- nothing behind the cell comes before it
none_comes : (k : ℕ × ℕ) (es : Named) → AllAbove k (keys_of es) → before k es ≡ 0
unfolding AllAbove
none_comes k [] h = refl
none_comes k (e ∷ es) h = before_step k e es ∙ rw (under_greater e.0 k h.0, none_comes k es h.1) refl

itself_first : (k : ℕ × ℕ) (v : Option Mode) (es : Named) → AllAbove k (keys_of es) → before k ((k, v) ∷ es) ≡ 0
itself_first k v es h = before_step k (k, v) es ∙ rw (← nat_cmp_is k.0 k.0 Equal refl, ← nat_cmp_is k.1 k.1 Equal refl, none_comes k es h) refl

above_all : (k : ℕ × ℕ) (e : Entry) (es : Named) → Under k e.0 → AllAbove e.0 (keys_of es) → AllAbove k (keys_of (e ∷ es))
unfolding AllAbove
above_all k e es h all = (h, above_weaker k e.0 (keys_of es) h all)

under_next : (k : ℕ × ℕ) → Under k (k.0, k.1 + 1)
unfolding Under
under_next k = inr (refl, omega arith)

-- what comes behind a cell doesn't come before the next
not_next : (k j : ℕ × ℕ) → Under k j → is_lt (cell_order j (k.0, k.1 + 1)) ≡ false
unfolding Under
not_next k j h = by (cell_order j (k.0, k.1 + 1)) refl
  where
    between : Under k j → Under j (k.0, k.1 + 1) → ⊥
    between (inl h) (inl l) = omega arith
    between (inl h) (inr l) = omega (arith, l.0)
    between (inr h) (inl l) = omega (arith, h.0)
    between (inr h) (inr l) = omega (arith, h.1, l.1)

    by : (r : Ordering) → cell_order j (k.0, k.1 + 1) ≡ r → is_lt r ≡ false
    by Less r = absurd (between h (less_under j (k.0, k.1 + 1) r))
    by Equal r = refl
    by Greater r = refl

none_next : (k : ℕ × ℕ) (es : Named) → AllAbove k (keys_of es) → before (k.0, k.1 + 1) es ≡ 0
unfolding AllAbove
none_next k [] h = refl
none_next k (e ∷ es) h = before_step (k.0, k.1 + 1) e es ∙ rw (not_next k e.0 h.0, none_next k es h.1) refl

equal_is : (k j : ℕ × ℕ) → cell_order k j ≡ Equal → k ≡ j
equal_is k j is = same_from k j (ap is_eq is)

none_there : (k : ℕ × ℕ) (es : Named) → AllAbove k (keys_of es) → lookup (is_at (cell_order k)) es ≡ None
unfolding AllAbove
none_there k [] h = refl
none_there k (e ∷ es) h = rw (under_less k e.0 h.0) (none_there k es h.1)

abbrev pub at_place : ℕ × ℕ → Named → Entry → Entry
at_place k es d = get_or es (before k es) d

-- a cell that is there is named once more in its place
pub named_again : (m : Mode) (k : ℕ × ℕ) (d : Entry) (es : Named) → Sorted (keys_of es) → before k es < length es → (at_place k es d).0 ≡ k
    → slice_set es (before k es) (k, together (at_place k es d).1 m) ≡ name_cell m es (cell_of_key k)
unfolding Sorted
named_again m k d [] s below is = absurd (omega (arith, below))
named_again m k d (e ∷ es) s below is = by (cell_order k e.0) refl (λ b there. named_again m k d es s.1 b there)
  where
    by : (r : Ordering) → cell_order k e.0 ≡ r
        → (before k es < length es → (at_place k es d).0 ≡ k → slice_set es (before k es) (k, together (at_place k es d).1 m) ≡ name_cell m es (cell_of_key k))
        → slice_set (e ∷ es) (before k (e ∷ es)) (k, together (at_place k (e ∷ es) d).1 m) ≡ name_cell m (e ∷ es) (cell_of_key k)
    by Less r rest =
        let none = none_comes k (e ∷ es) (above_all k e es (less_under k e.0 r) s.0) in
        absurd (under_differs k e.0 (less_under k e.0 r) (rw none at is))
    by Equal r rest =
        let same : e.0 ≡ k = sym (equal_is k e.0 r) in
        let none : before k (e ∷ es) ≡ 0 = subst (λ (j : ℕ × ℕ). before j (e ∷ es) ≡ 0) same (itself_first e.0 e.1 es s.0) in
        rw (none, r) (ap (λ (j : ℕ × ℕ). (j, together e.1 m) ∷ es) (sym same))
    by Greater r rest =
        let first = comes_first k e es (greater_under k e.0 r) in
        rw (first, r) (ap (λ (xs : Named). e ∷ xs) (rest (let b = rw first at below in omega (arith, b)) (rw first at is)))

-- the same of an entry that was read there for its key, for its mode, and to be written
pub entry_named_again : (m : Mode) (k : ℕ × ℕ) (i : ℕ) (es : Named) (tested read written : Entry) → IsStrictlySortedBy cell_order (keys_of es)
    → i ≡ before k es → i < length es → tested ≡ get_or es i tested → read ≡ get_or es i read → written ≡ get_or es i written → tested.0 ≡ k
    → slice_set es i (written.0, together read.1 m) ≡ name_cell m es (cell_of_key k)
entry_named_again m k i es tested read written s place below at_tested at_read at_written there =
    let mode : read.1 ≡ written.1 = ap (λ (e : Entry). e.1) (at_read ∙ get_or_default es i read written below ∙ sym at_written) in
    let at_key : written.0 ≡ k = ap (λ (e : Entry). e.0) (at_written ∙ get_or_default es i written tested below ∙ sym at_tested) ∙ there in
    let here = rw place at at_written in
    rw (mode, at_key, place, here)
    (named_again m k written es (sorted_from (keys_of es) s) (rw place at below) (ap (λ (e : Entry). e.0) (sym here) ∙ at_key))

-- a cell that isn't there comes to its place
pub named_new : (m : Mode) (k : ℕ × ℕ) (es : Named) → Sorted (keys_of es) → ((d : Entry) → before k es < length es → (at_place k es d).0 ≡ k → ⊥)
    → insert es (before k es) (k, Some m) ≡ name_cell m es (cell_of_key k)
unfolding Sorted
named_new m k [] s none = refl
named_new m k (e ∷ es) s none = by (cell_order k e.0) refl (λ other. named_new m k es s.1 other)
  where
    by : (r : Ordering) → cell_order k e.0 ≡ r
        → (((d : Entry) → before k es < length es → (at_place k es d).0 ≡ k → ⊥) → insert es (before k es) (k, Some m) ≡ name_cell m es (cell_of_key k))
        → insert (e ∷ es) (before k (e ∷ es)) (k, Some m) ≡ name_cell m (e ∷ es) (cell_of_key k)
    by Less r rest =
        let all = above_all k e es (less_under k e.0 r) s.0 in
        rw (none_comes k (e ∷ es) all, r, none_there k es (above_weaker k e.0 (keys_of es) (less_under k e.0 r) s.0)) refl
    by Equal r rest =
        let same : e.0 ≡ k = sym (equal_is k e.0 r) in
        let zero_before : before k (e ∷ es) ≡ 0 = subst (λ (j : ℕ × ℕ). before j (e ∷ es) ≡ 0) same (itself_first e.0 e.1 es s.0) in
        absurd (none e (rw zero_before (omega arith)) (rw zero_before same))
    by Greater r rest =
        let first = comes_first k e es (greater_under k e.0 r) in
        rw (first, r) (ap (λ (xs : Named). e ∷ xs) (rest (λ d b is. none d (rw first (omega (arith, b))) (rw first is))))

pub entry_named_new : (m : Mode) (k : ℕ × ℕ) (i : ℕ) (es : Named) → IsStrictlySortedBy cell_order (keys_of es) → i ≡ before k es
    → ((d : Entry) → i < length es → (get_or es i d).0 ≡ k → ⊥) → insert es i (k, Some m) ≡ name_cell m es (cell_of_key k)
entry_named_new m k i es s place none =
    rw place (named_new m k es (sorted_from (keys_of es) s) (λ d below there. none d (rw place below) (rw place there)))

-- behind the cell that was named comes the next one's place
next_place : (k : ℕ × ℕ) (v : Option Mode) (es : Named) → Sorted (keys_of es)
    → before (k.0, k.1 + 1) (insert_entry cell_order es k v) ≡ before k es + 1
unfolding Sorted
next_place k v [] s = comes_first (k.0, k.1 + 1) (k, v) [] (under_next k)
next_place k v (e ∷ es) s = by (cell_order k e.0) refl (next_place k v es s.1)
  where
    by : (r : Ordering) → cell_order k e.0 ≡ r → before (k.0, k.1 + 1) (insert_entry cell_order es k v) ≡ before k es + 1
        → before (k.0, k.1 + 1) (insert_entry cell_order (e ∷ es) k v) ≡ before k (e ∷ es) + 1
    by Less r rest =
        let all = above_all k e es (less_under k e.0 r) s.0 in
        rw (r, none_comes k (e ∷ es) all) (comes_first (k.0, k.1 + 1) (k, v) (e ∷ es) (under_next k) ∙ rw (none_next k (e ∷ es) all) (omega arith))
    by Equal r rest =
        let same : e.0 ≡ k = sym (equal_is k e.0 r) in
        let above : AllAbove k (keys_of es) = subst (λ (j : ℕ × ℕ). AllAbove j (keys_of es)) same s.0 in
        let zero_before : before k (e ∷ es) ≡ 0 = subst (λ (j : ℕ × ℕ). before j (e ∷ es) ≡ 0) same (itself_first e.0 e.1 es s.0) in
        rw (r, zero_before)
        (comes_first (k.0, k.1 + 1) (e.0, v) es (subst (λ (j : ℕ × ℕ). Under j (k.0, k.1 + 1)) (sym same) (under_next k)) ∙ rw (none_next k es above) (omega arith))
    by Greater r rest =
        let lower = greater_under k e.0 r in
        rw (r, comes_first k e es lower)
        (comes_first (k.0, k.1 + 1) e (insert_entry cell_order es k v) (under_trans e.0 k (k.0, k.1 + 1) lower (under_next k)) ∙ rw rest (omega arith))

pub named_next : (m : Mode) (a i : ℕ) (es new : Named) → Sorted (keys_of es) → new ≡ name_cell m es (record { array = a; index = i })
    → before (a, i) es + 1 ≡ before (a, i + 1) new
named_next m a i es new s is = sym (ap (before (a, i + 1)) is ∙ next_place (a, i) _ es s)

-- ---- the place, as halving finds it

above_at : (k : ℕ × ℕ) (es : Named) → AllAbove k (keys_of es) → (i : ℕ) (d : Entry) → i < length es → Under k (get_or es i d).0
unfolding AllAbove
above_at k [] h i d lt = absurd (omega (arith, lt))
above_at k (e ∷ es) h zero d lt = h.0
above_at k (e ∷ es) h (suc i) d lt = above_at k es h.1 i d (omega (arith, lt))

comes_is : (k : ℕ × ℕ) (e : Entry) → comes k e ≡ true → Under e.0 k
comes_is k e is = by (cell_order e.0 k) refl is
  where
    by : (r : Ordering) → cell_order e.0 k ≡ r → is_lt r ≡ true → Under e.0 k
    by Less r h = less_under e.0 k r
    by Equal r h = absurd cc
    by Greater r h = absurd cc

comes_by : (k : ℕ × ℕ) (e : Entry) → Under e.0 k → comes k e ≡ true
comes_by k e h = ap is_lt (under_less e.0 k h)

parted_by : (k : ℕ × ℕ) (es : Named) → Sorted (keys_of es) → IsPartitionedBy (comes k) es
unfolding Sorted
parted_by k [] s i j d le lt is = absurd (omega (arith, lt))
parted_by k (e ∷ es) s zero zero d le lt is = is
parted_by k (e ∷ es) s zero (suc j) d le lt is =
    let x = get_or es j d in
    comes_by k e (under_trans e.0 x.0 k (above_at e.0 es s.0 j d (omega (arith, lt))) (comes_is k x is))
parted_by k (e ∷ es) s (suc i) zero d le lt is = absurd (omega (arith, le))
parted_by k (e ∷ es) s (suc i) (suc j) d le lt is = parted_by k es s.1 i j d (omega (arith, le)) (omega (arith, lt)) is

pub parted : (k : ℕ × ℕ) (es : Named) → IsStrictlySortedBy cell_order (keys_of es) → IsPartitionedBy (comes k) es
parted k es s = parted_by k es (sorted_from (keys_of es) s)

-- so many come first that those before the place come, and no other
count_is : (test : Entry → Bool) (es : Named) (i : ℕ) → i ≤ length es → AllWithin (λ e. test e ≡ true) es 0 i → AllWithin (λ e. test e ≡ false) es i (length es)
    → i ≡ count_by test es
count_is test [] i le pass fail = omega (arith, le)
count_is test (e ∷ es) zero le pass fail =
    let rest = count_is test es zero (omega arith) (λ k d a b. absurd (omega (arith, b))) (λ k d a b. fail (suc k) d (omega arith) (omega (arith, b))) in
    let here : test e ≡ false = fail 0 e (omega arith) (omega arith) in
    sym (sum_by-cons (λ (x : Entry). cond (test x) 1 0) e es ∙ rw (here, ← rest) refl)
count_is test (e ∷ es) (suc i) le pass fail =
    let rest = count_is test es i (omega (arith, le)) (λ k d a b. pass (suc k) d (omega arith) (omega (arith, b))) (λ k d a b. fail (suc k) d (omega (arith, a)) (omega (arith, b))) in
    let here : test e ≡ true = pass 0 e (omega arith) (omega arith) in
    sym (sum_by-cons (λ (x : Entry). cond (test x) 1 0) e es ∙ rw (here, ← rest) (omega arith))

pub before_is : (k : ℕ × ℕ) (es : Named) (i : ℕ) → i ≤ length es → IsPartitionPoint (λ e. comes k e ≡ true) (λ e. comes k e ≡ false) es i → i ≡ before k es
before_is k es i le parts = count_is (comes k) es i le parts.0 parts.1

-- ---- entries in order are told by what stands at each key

some_first : (k : ℕ × ℕ) (v : Option Mode) (es : Named) → mode_at k ((k, v) ∷ es) ≡ Some v
unfolding mode_at
some_first k v es = rw (at_itself k) refl

none_at : (k : ℕ × ℕ) (es : Named) → AllAbove k (keys_of es) → mode_at k es ≡ None
unfolding mode_at
none_at k es h = none_there k es h

not_both : {A : Type 0} (x : A) (o : Option A) → o ≡ Some x → o ≡ None → ⊥
not_both x (Some y) is none = cc
not_both x None is none = cc

tails : (k : ℕ × ℕ) (v w : Option Mode) (es fs : Named) → AllAbove k (keys_of es) → AllAbove k (keys_of fs)
    → ((q : ℕ × ℕ) → mode_at q ((k, v) ∷ es) ≡ mode_at q ((k, w) ∷ fs)) → (q : ℕ × ℕ) → mode_at q es ≡ mode_at q fs
unfolding mode_at
tails k v w es fs a b h q = by (is_at (cell_order q) k) refl
  where
    by : (r : Bool) → is_at (cell_order q) k ≡ r → mode_at q es ≡ mode_at q fs
    by true is = subst (λ (j : ℕ × ℕ). mode_at j es ≡ mode_at j fs) (sym (same_from q k is)) (none_at k es a ∙ sym (none_at k fs b))
    by false is = rw is at (h q)

pub same_entries : (es fs : Named) → Sorted (keys_of es) → Sorted (keys_of fs) → ((q : ℕ × ℕ) → mode_at q es ≡ mode_at q fs) → es ≡ fs
unfolding Sorted AllAbove
same_entries [] [] s t h = refl
same_entries [] ((j, w) ∷ fs) s t h = absurd (not_both w (mode_at j ((j, w) ∷ fs)) (some_first j w fs) (sym (h j) ∙ none_at j [] tt))
same_entries ((k, v) ∷ es) [] s t h = absurd (not_both v (mode_at k ((k, v) ∷ es)) (some_first k v es) (h k ∙ none_at k [] tt))
same_entries ((k, v) ∷ es) ((j, w) ∷ fs) s t h = by (cell_order k j) refl (λ a q. same_entries es fs s.1 t.1 q)
  where
    by : (r : Ordering) → cell_order k j ≡ r → (Unit {0} → ((q : ℕ × ℕ) → mode_at q es ≡ mode_at q fs) → es ≡ fs) → (k, v) ∷ es ≡ (j, w) ∷ fs
    by Less r rest =
        absurd (not_both v (mode_at k ((k, v) ∷ es)) (some_first k v es) (h k ∙ none_at k ((j, w) ∷ fs) (above_all k (j, w) fs (less_under k j r) t.0)))
    by Equal r rest =
        let same = equal_is k j r in
        let above : AllAbove k (keys_of fs) = subst (λ (i : ℕ × ℕ). AllAbove i (keys_of fs)) (sym same) t.0 in
        let alike : (q : ℕ × ℕ) → mode_at q ((k, v) ∷ es) ≡ mode_at q ((k, w) ∷ fs) = subst (λ (i : ℕ × ℕ). (q : ℕ × ℕ) → mode_at q ((k, v) ∷ es) ≡ mode_at q ((i, w) ∷ fs)) (sym same) h in
        let value : v ≡ w = ap (λ o. unwrap_or o v) (sym (some_first k v es) ∙ alike k ∙ some_first k w fs) in
        ap (λ (i : ℕ × ℕ). (i, v) ∷ es) same ∙ ap (λ (u : Option Mode). (j, u) ∷ es) value ∙ ap (λ (xs : Named). (j, w) ∷ xs) (rest tt (tails k v w es fs s.0 above alike))
    by Greater r rest =
        absurd (not_both w (mode_at j ((j, w) ∷ fs)) (some_first j w fs) (sym (h j) ∙ none_at j ((k, v) ∷ es) (above_all j (k, v) es (greater_under k j r) s.0)))
