-- Cells that a task folds into by pointers, found by what is kept beside them.
use Rattle.std.proofs.Common.{◌≡◌, ℕ, ◌+◌, ◌-◌, ◌≤◌, ◌<◌, Bool, true, false, true≢false, cond, ◌&&◌, List, [], ◌∷◌, length, map, take, get_or, refl, sym, ap, ◌∙◌, arith, is_eq, inl, inr}
use Rattle.std.specs.Prelude.{◌==◌, ◌||◌, nat_le, nat_lt, Option, Some, unwrap_or}
use Rattle.std.specs.List.{count_by, list_any}
use Rattle.std.specs.BTreeMap.{BTreeMap, get}
use Rattle.std.specs.BTreeMap as tree
use Rattle.std.specs.BTreeSet.{BTreeSet, contains}
use Rattle.std.specs.BTreeSet as set
use Rattle.std.specs.Ordering.{nat_cmp, ordering_then}
use Rattle.std.specs.declared.cmp.Ordering.{Ordering}
use Rattle.std.specs.declared.cmp.Ordering.TheVariants.{Less, Equal, Greater}
use Rattle.std.proofs.lemmas.Bool.{cases_lt}
use Rattle.std.proofs.lemmas.Bool.Decides.{nat_tests}
use Rattle.std.proofs.lemmas.List.{take_more}
use Rattle.std.proofs.lemmas.List.Folds.{list_any-append}
use Rattle.std.proofs.lemmas.List.Sums.{sum_by-append}
use Rattle.ot_c_scope.specs.declared.scope.Pointee.{Pointee}
use Rattle.ot_c_scope.specs.Scopes.{Run, is_among}
use Rattle.ot_c_clauses.specs.declared.own.Own.{Own}
use Rattle.ot_c_clauses.specs.Cells.{CellKey, cell_key_cmp, is_at, under_in, times_at, HasArrays, HasTimes, HasRun}
use Rattle.ot_c_clauses.specs.Owns.{is_of, name_if}

-- ---- keys

same_cmp : (x y : ℕ) → is_eq (nat_cmp x y) ≡ (x == y)
same_cmp x y = elim (cases_lt x y) [ inl less ↦ grind (arith, nat_tests) | inr rest ↦ grind (arith, nat_tests) ]

then_eq : (a b : Ordering) → is_eq (ordering_then a b) ≡ (is_eq a && is_eq b)
then_eq Less b = refl
then_eq Equal b = refl
then_eq Greater b = refl

key_eq : (x y : CellKey) → is_eq (cell_key_cmp x y) ≡ ((x.0 == y.0) && (x.1 == y.1))
key_eq x y =
    then_eq (nat_cmp x.0 y.0) (nat_cmp x.1 y.1)
    ∙ ap (λ b. b && is_eq (nat_cmp x.1 y.1)) (same_cmp x.0 y.0)
    ∙ ap (λ b. (x.0 == y.0) && b) (same_cmp x.1 y.1)

equal_of : (x y : ℕ) → (x == y) ≡ true → x ≡ y
equal_of x y h = grind (arith, nat_tests)

left_of : (a b : Bool) → (a && b) ≡ true → a ≡ true
left_of true b h = refl
left_of false b h = cc

right_of : (a b : Bool) → (a && b) ≡ true → b ≡ true
right_of true b h = h
right_of false b h = cc

-- ---- counts

abbrev own : Pointee → Bool → Own
own cell named = record { cell = cell; named = named }

abbrev tick : Bool → ℕ
tick b = cond b 1 0

more : (p : Own → Bool) (o : Own) (os : List Own) → count_by p (o ∷ os) ≡ tick (p o) + count_by p os
more p o os = let h = sum_by-append (λ c. tick (p c)) (o ∷ []) os in omega (arith, h)

-- ---- marks change no cell

module _ (named : BTreeSet CellKey) where
  pub of_marked : (x : ℕ) (run : Run) (os : List Own) → count_by (is_of x run) (map (under_in named) os) ≡ count_by (is_of x run) os
  of_marked x run [] = refl
  of_marked x run (o ∷ os) = more (is_of x run) (under_in named o) (map (under_in named) os) ∙ ap (λ n. tick (is_of x run o) + n) (of_marked x run os) ∙ sym (more (is_of x run) o os)

  pub at_marked : (x p : ℕ) (os : List Own) → count_by (is_at x p) (map (under_in named) os) ≡ count_by (is_at x p) os
  at_marked x p [] = refl
  at_marked x p (o ∷ os) = more (is_at x p) (under_in named o) (map (under_in named) os) ∙ ap (λ n. tick (is_at x p o) + n) (at_marked x p os) ∙ sym (more (is_at x p) o os)

  or_false : (b c : Bool) → c ≡ false → (b || c) ≡ b
  or_false true c h = refl
  or_false false c h = h

  one_unmarked : set.keys named ≡ [] → (o : Own) → under_in named o ≡ o
  one_unmarked none o =
      ap (λ b. own o.cell b) (or_false o.named (contains cell_key_cmp named (o.cell.array, o.cell.place)) (ap (list_any (tree.is_at (cell_key_cmp (o.cell.array, o.cell.place)))) none))

  pub unmarked : set.keys named ≡ [] → (os : List Own) → map (under_in named) os ≡ os
  unmarked none [] = refl
  unmarked none (o ∷ os) = λ i. one_unmarked none o i ∷ unmarked none os i

module _ (x : ℕ) (run : Run) where
  pub arrays_named : (y : ℕ) (os : List Own) → list_any (λ o. o.cell.array == y) (map (name_if x run) os) ≡ list_any (λ o. o.cell.array == y) os
  arrays_named y [] = refl
  arrays_named y (o ∷ os) = ap (λ b. (o.cell.array == y) || b) (arrays_named y os)

  pub at_named : (y p : ℕ) (os : List Own) → count_by (is_at y p) (map (name_if x run) os) ≡ count_by (is_at y p) os
  at_named y p [] = refl
  at_named y p (o ∷ os) = more (is_at y p) (name_if x run o) (map (name_if x run) os) ∙ ap (λ n. tick (is_at y p o) + n) (at_named y p os) ∙ sym (more (is_at y p) o os)

  turned : (a b c : Bool) → ((a || b) || c) ≡ ((a || c) || b)
  turned true b c = refl
  turned false true true = refl
  turned false true false = refl
  turned false false true = refl
  turned false false false = refl

  pub marks_behind : (named : BTreeSet CellKey) (os : List Own) → map (under_in named) (map (name_if x run) os) ≡ map (name_if x run) (map (under_in named) os)
  marks_behind named [] = refl
  marks_behind named (o ∷ os) = λ i.
      own o.cell (turned o.named (is_of x run o) (contains cell_key_cmp named (o.cell.array, o.cell.place)) i) ∷ marks_behind named os i

  -- ---- how many

  both_false : (b c : Bool) → (b || c) ≡ false → (b ≡ false) × (c ≡ false)
  both_false true c h = absurd (true≢false h)
  both_false false c h = (refl, h)

  pub none_there : (os : List Own) → list_any (λ o. o.cell.array == x) os ≡ false → count_by (is_of x run) os ≡ 0
  none_there [] h = refl
  none_there (o ∷ os) h =
      let both = both_false (o.cell.array == x) (list_any (λ p. p.cell.array == x) os) h in
      let first : tick (is_of x run o) ≡ 0 = ap (λ b. tick (b && is_among run o.cell.place)) both.0 in
      omega (arith, more (is_of x run) o os, first, none_there os both.1)

-- a run of one more
one_more : (f p q : ℕ) → f ≤ p → (nat_le f q && nat_lt (q - f) ((p + 1) - f)) ≡ ((nat_le f q && nat_lt (q - f) (p - f)) || (q == p))
one_more f p q within = grind (arith, nat_tests)

apart : (f p q : ℕ) → f ≤ p → ((nat_le f q && nat_lt (q - f) (p - f)) && (q == p)) ≡ false
apart f p q within = grind (arith, nat_tests)

add : (a b c : Bool) → (b && c) ≡ false → tick (a && (b || c)) ≡ tick (a && b) + tick (a && c)
add true true true h = absurd (true≢false h)
add true true false h = refl
add true false true h = refl
add true false false h = refl
add false b c h = refl

module _ (x f p : ℕ) (within : f ≤ p) where
  pub count_more : (os : List Own) → count_by (is_of x (Some (f, (p + 1) - f))) os ≡ count_by (is_of x (Some (f, p - f))) os + count_by (is_at x p) os
  count_more [] = refl
  count_more (o ∷ os) =
      let a = o.cell.array == x in
      let q = o.cell.place in
      let one : tick (is_of x (Some (f, (p + 1) - f)) o) ≡ tick (is_of x (Some (f, p - f)) o) + tick (is_at x p o) =
      ap (λ b. tick (a && b)) (one_more f p q within) ∙ add a (nat_le f q && nat_lt (q - f) (p - f)) (q == p) (apart f p q within) in
      omega (arith, more (is_of x (Some (f, (p + 1) - f))) o os, more (is_of x (Some (f, p - f))) o os, more (is_at x p) o os, one, count_more os)

nowhere : (f q : ℕ) → (nat_le f q && nat_lt (q - f) (f - f)) ≡ false
nowhere f q = grind (arith, nat_tests)

and_false : (a : Bool) → (a && false) ≡ false
and_false true = refl
and_false false = refl

pub count_none : (x f : ℕ) (os : List Own) → count_by (is_of x (Some (f, f - f))) os ≡ 0
count_none x f [] = refl
count_none x f (o ∷ os) =
    let a = o.cell.array == x in
    let first : tick (is_of x (Some (f, f - f)) o) ≡ 0 = ap (λ b. tick (a && b)) (nowhere f o.cell.place) ∙ ap tick (and_false a) in
    omega (arith, more (is_of x (Some (f, f - f))) o os, first, count_none x f os)

-- ---- names

same_run : (f e p : ℕ) → f ≤ e → (nat_le f p && nat_lt p e) ≡ (nat_le f p && nat_lt (p - f) (e - f))
same_run f e p within = grind (arith, nat_tests)

together : (a b c : Bool) → (a || (b || c)) ≡ ((a || b) || c)
together true b c = refl
together false b c = refl

module _ (x f e : ℕ) (old new : BTreeSet CellKey) (within : f ≤ e) (has : HasRun x f e old new) where
  one_named : (o : Own) → under_in new o ≡ name_if x (Some (f, e - f)) (under_in old o)
  one_named o =
      let a = o.cell.array in
      let p = o.cell.place in
      ap (λ b. own o.cell (o.named || b)) (has a p ∙ ap (λ b. contains cell_key_cmp old (a, p) || ((a == x) && b)) (same_run f e p within))
      ∙ ap (λ b. own o.cell b) (together o.named (contains cell_key_cmp old (a, p)) ((a == x) && (nat_le f p && nat_lt (p - f) (e - f))))

  pub all_named : (os : List Own) → map (under_in new) os ≡ map (name_if x (Some (f, e - f))) (map (under_in old) os)
  all_named [] = refl
  all_named (o ∷ os) = λ i. one_named o i ∷ all_named os i

-- one more
next_place : (f e p : ℕ) → f ≤ e → (nat_le f p && nat_lt p (e + 1)) ≡ ((nat_le f p && nat_lt p e) || (e == p))
next_place f e p within = grind (arith, nat_tests)

flip : (x y : ℕ) → (x == y) ≡ (y == x)
flip x y = grind (arith, nat_tests)

picked : (a b k w : Bool) → cond (k && w) true (b || (k && a)) ≡ (b || (k && (a || w)))
picked a true true true = refl
picked a true true false = refl
picked true false true true = refl
picked false false true true = refl
picked true false true false = refl
picked false false true false = refl
picked a b false w = refl

pub run_more : (x f e : ℕ) (first old new : BTreeSet CellKey) → f ≤ e → HasRun x f e first old → set.Updates cell_key_cmp old new (x, e) true → HasRun x f (e + 1) first new
run_more x f e first old new within has updates = λ y p.
    updates.0 (y, p)
    ∙ ap (λ b. cond b true (contains cell_key_cmp old (y, p))) (key_eq (x, e) (y, p) ∙ ap (λ b. b && (e == p)) (flip x y))
    ∙ ap (λ b. cond ((y == x) && (e == p)) true b) (has y p)
    ∙ picked (nat_le f p && nat_lt p e) (contains cell_key_cmp first (y, p)) (y == x) (e == p)
    ∙ ap (λ b. contains cell_key_cmp first (y, p) || ((y == x) && b)) (sym (next_place f e p within))

-- ---- what is kept, of one cell more

or_turned : (a b : Bool) → cond a true b ≡ (b || (a || false))
or_turned true true = refl
or_turned true false = refl
or_turned false true = refl
or_turned false false = refl

pub arrays_more : (old new : BTreeSet ℕ) (os : List Own) (i : ℕ) (d : Own) → i < length os → HasArrays old (take i os)
    → set.Updates nat_cmp old new (get_or os i d).cell.array true → HasArrays new (take (i + 1) os)
arrays_more old new os i d low has updates = λ x.
    let o = get_or os i d in
    updates.0 x
    ∙ ap (λ b. cond b true (contains nat_cmp old x)) (same_cmp o.cell.array x)
    ∙ ap (λ b. cond (o.cell.array == x) true b) (has x)
    ∙ or_turned (o.cell.array == x) (list_any (λ p. p.cell.array == x) (take i os))
    ∙ sym (list_any-append (λ p. p.cell.array == x) (take i os) (o ∷ []))
    ∙ ap (list_any (λ p. p.cell.array == x)) (sym (take_more os i d low))

pub times_more : (old new : BTreeMap CellKey ℕ) (os : List Own) (i : ℕ) (d : Own) (n : ℕ) → i < length os → HasTimes old (take i os)
    → n ≡ times_at old ((get_or os i d).cell.array, (get_or os i d).cell.place) → tree.Updates cell_key_cmp old new ((get_or os i d).cell.array, (get_or os i d).cell.place) (Some (n + 1))
    → HasTimes new (take (i + 1) os)
times_more old new os i d n low has before updates = λ x p.
    let o = get_or os i d in
    let a = o.cell.array in
    let q = o.cell.place in
    let count = count_by (is_at x p) (take i os) in
    let last = ap (count_by (is_at x p)) (take_more os i d low) ∙ sum_by-append (λ c. tick (is_at x p c)) (take i os) (o ∷ []) in
    let whole : count_by (is_at x p) (take (i + 1) os) ≡ count + tick (is_at x p o) = omega (arith, last) in
    ap (λ g. unwrap_or g 0) (updates.0 (x, p) ∙ ap (λ b. cond b (Some (n + 1)) (get cell_key_cmp old (x, p))) (key_eq (a, q) (x, p)))
    ∙ by ((a == x) && (q == p)) n count (get cell_key_cmp old (x, p)) (has x p)
    (λ same. before ∙ has a q ∙ ap (λ y. count_by (is_at y q) (take i os)) (equal_of a x (left_of (a == x) (q == p) same)) ∙ ap (λ y. count_by (is_at x y) (take i os)) (equal_of q p (right_of (a == x) (q == p) same)))
    ∙ sym whole
  where
    by : (b : Bool) (n count : ℕ) (g : Option ℕ) → unwrap_or g 0 ≡ count → (b ≡ true → n ≡ count) → unwrap_or (cond b (Some (n + 1)) g) 0 ≡ count + tick b
    by true n count g has same = let e = same refl in omega (arith, e)
    by false n count g has same = omega (arith, has)
