-- Cells of pointers in their order: the first that may be one of some cells of an array tells whether one of them is.
use Rattle.std.proofs.Common.{◌≡◌, ℕ, ◌-◌, Bool, true, false, cond, ◌&&◌, List, [], ◌∷◌, inl, inr, refl, sym, ap, ◌∙◌, arith, is_eq}
use Rattle.std.specs.Prelude.{◌==◌, ◌||◌, nat_le, nat_lt, filter, Some, None}
use Rattle.std.specs.List.{AllByRecursion}
use Rattle.std.specs.List.Sorted.{IsStrictlySortedBy}
use Rattle.std.specs.Ordering.{nat_cmp, ordering_then, is_le, is_lt, match_ordering}
use Rattle.std.specs.BTreeSet.{insert_key}
use Rattle.std.specs.BTreeMap.Range.{range_contains}
use Rattle.std.specs.declared.cmp.Ordering.{Ordering}
use Rattle.std.specs.declared.cmp.Ordering.TheVariants.{Less, Equal, Greater}
use Rattle.std.specs.declared.ops.Bound.TheVariants.{Included, Unbounded}
use Rattle.std.proofs.lemmas.Bool.{cases_lt}
use Rattle.std.proofs.lemmas.Bool.Decides.{nat_tests}
use Rattle.ot_c_scope.specs.Kept.{cell_at, points_in, first_of}
use Rattle.ot_c_scope.specs.Scopes.{Run, points_into}

-- a cell: its array, and its place
abbrev Key : Type 0
Key = ℕ × ℕ

abbrev pub key_cmp : Key → Key → Ordering
key_cmp x y = ordering_then (nat_cmp x.0 y.0) (nat_cmp x.1 y.1)

-- ---- what an order says

same_cmp : (x y : ℕ) → is_eq (nat_cmp x y) ≡ (x == y)
same_cmp x y = elim (cases_lt x y) [ inl less ↦ grind (arith, nat_tests) | inr rest ↦ grind (arith, nat_tests) ]

less_cmp : (x y : ℕ) → is_lt (nat_cmp x y) ≡ nat_lt x y
less_cmp x y = elim (cases_lt x y) [ inl less ↦ grind (arith, nat_tests) | inr rest ↦ grind (arith, nat_tests) ]

then_eq : (a b : Ordering) → is_eq (ordering_then a b) ≡ (is_eq a && is_eq b)
then_eq Less b = refl
then_eq Equal b = refl
then_eq Greater b = refl

then_lt : (a b : Ordering) → is_lt (ordering_then a b) ≡ (is_lt a || (is_eq a && is_lt b))
then_lt Less b = refl
then_lt Equal b = refl
then_lt Greater b = refl

le_is : (a : Ordering) → is_le a ≡ (is_lt a || is_eq a)
le_is Less = refl
le_is Equal = refl
le_is Greater = refl

key_eq : (x y : Key) → is_eq (key_cmp x y) ≡ ((x.0 == y.0) && (x.1 == y.1))
key_eq x y =
    then_eq (nat_cmp x.0 y.0) (nat_cmp x.1 y.1)
    ∙ ap (λ b. b && is_eq (nat_cmp x.1 y.1)) (same_cmp x.0 y.0)
    ∙ ap (λ b. (x.0 == y.0) && b) (same_cmp x.1 y.1)

key_lt : (x y : Key) → is_lt (key_cmp x y) ≡ (nat_lt x.0 y.0 || ((x.0 == y.0) && nat_lt x.1 y.1))
key_lt x y =
    then_lt (nat_cmp x.0 y.0) (nat_cmp x.1 y.1)
    ∙ ap (λ b. b || (is_eq (nat_cmp x.0 y.0) && is_lt (nat_cmp x.1 y.1))) (less_cmp x.0 y.0)
    ∙ ap (λ b. nat_lt x.0 y.0 || (b && is_lt (nat_cmp x.1 y.1))) (same_cmp x.0 y.0)
    ∙ ap (λ b. nat_lt x.0 y.0 || ((x.0 == y.0) && b)) (less_cmp x.1 y.1)

key_le : (x y : Key) → is_le (key_cmp x y) ≡ ((nat_lt x.0 y.0 || ((x.0 == y.0) && nat_lt x.1 y.1)) || ((x.0 == y.0) && (x.1 == y.1)))
key_le x y =
    le_is (key_cmp x y)
    ∙ ap (λ b. b || is_eq (key_cmp x y)) (key_lt x y)
    ∙ ap (λ b. (nat_lt x.0 y.0 || ((x.0 == y.0) && nat_lt x.1 y.1)) || b) (key_eq x y)

-- ---- numbers

some_before : (x l n a p : ℕ) → ((nat_lt x a || ((x == a) && nat_lt l p)) || ((x == a) && (l == p))) ≡ false → ((a == x) && (nat_le l p && nat_lt (p - l) n)) ≡ false
some_before x l n a p h = grind (arith, nat_tests)

any_before : (x a p : ℕ) → ((nat_lt x a || ((x == a) && nat_lt 0 p)) || ((x == a) && (0 == p))) ≡ false → ((a == x) && true) ≡ false
any_before x a p h = grind (arith, nat_tests)

some_beyond : (x l n a p b q : ℕ) → ((nat_lt x a || ((x == a) && nat_lt l p)) || ((x == a) && (l == p))) ≡ true → ((a == x) && (nat_le l p && nat_lt (p - l) n)) ≡ false
    → (nat_lt a b || ((a == b) && nat_lt p q)) ≡ true → ((b == x) && (nat_le l q && nat_lt (q - l) n)) ≡ false
some_beyond x l n a p b q from none above = grind (arith, nat_tests)

any_beyond : (x a p b q : ℕ) → ((nat_lt x a || ((x == a) && nat_lt 0 p)) || ((x == a) && (0 == p))) ≡ true → ((a == x) && true) ≡ false
    → (nat_lt a b || ((a == b) && nat_lt p q)) ≡ true → ((b == x) && true) ≡ false
any_beyond x a p b q from none above = grind (arith, nat_tests)

-- ---- cells

module _ (x : ℕ) where
  before : (run : Run) (c : Key) → is_le (key_cmp (x, first_of run) c) ≡ false → points_into x run (Some (cell_at c)) ≡ false
  before None c h = any_before x c.0 c.1 (sym (key_le (x, 0) c) ∙ h)
  before (Some r) c h = some_before x r.0 r.1 c.0 c.1 (sym (key_le (x, r.0) c) ∙ h)

  less_is : (o : Ordering) → o ≡ Less → is_lt o ≡ true
  less_is o h = ap is_lt h

  beyond : (run : Run) (c d : Key) → is_le (key_cmp (x, first_of run) c) ≡ true → points_into x run (Some (cell_at c)) ≡ false → key_cmp c d ≡ Less → points_into x run (Some (cell_at d)) ≡ false
  beyond None c d from none above = any_beyond x c.0 c.1 d.0 d.1 (sym (key_le (x, 0) c) ∙ from) none (sym (key_lt c d) ∙ less_is (key_cmp c d) above)
  beyond (Some r) c d from none above = some_beyond x r.0 r.1 c.0 c.1 d.0 d.1 (sym (key_le (x, r.0) c) ∙ from) none (sym (key_lt c d) ∙ less_is (key_cmp c d) above)

  none_beyond : (run : Run) (c : Key) (cs : List Key) → is_le (key_cmp (x, first_of run) c) ≡ true → points_into x run (Some (cell_at c)) ≡ false
      → AllByRecursion (λ d. key_cmp c d ≡ Less) cs → points_in x run cs ≡ false
  none_beyond run c [] from none above = refl
  none_beyond run c (d ∷ cs) from none above =
      ap (λ b. b || points_in x run cs) (beyond run c d from none above.0) ∙ none_beyond run c cs from none above.1

  -- whether the first is one of these cells
  abbrev pub first_is : Run → List Key → Bool
  first_is run [] = false
  first_is run (c ∷ cs) = points_into x run (Some (cell_at c))

  settles : (b c : Bool) → (b ≡ false → c ≡ false) → b ≡ (b || c)
  settles true c h = refl
  settles false c h = sym (h refl)

  -- those from the first that may be one of these cells on
  abbrev from : Run → List Key → List Key
  from run cs = filter (λ c. range_contains key_cmp (Included (x, first_of run)) Unbounded c) cs

  pub first_tells : (run : Run) (cs : List Key) → IsStrictlySortedBy key_cmp cs → first_is run (from run cs) ≡ points_in x run cs
  unfolding IsStrictlySortedBy
  first_tells run [] sorted = refl
  first_tells run (c ∷ cs) sorted = by (is_le (key_cmp (x, first_of run) c)) refl sorted.0 (first_tells run cs sorted.1)
    where
      by : (b : Bool) → is_le (key_cmp (x, first_of run) c) ≡ b → AllByRecursion (λ d. key_cmp c d ≡ Less) cs → first_is run (from run cs) ≡ points_in x run cs
          → first_is run (cond (b && true) (c ∷ from run cs) (from run cs)) ≡ (points_into x run (Some (cell_at c)) || points_in x run cs)
      by true is above rest = settles (points_into x run (Some (cell_at c))) (points_in x run cs) (λ none. none_beyond run c cs is none above)
      by false is above rest = rest ∙ ap (λ b. b || points_in x run cs) (sym (before run c is))

  -- ---- one more cell

  twice : (b c : Bool) → (b || c) ≡ (b || (b || c))
  twice true c = refl
  twice false c = refl

  turned : (a b c : Bool) → (a || (b || c)) ≡ (b || (a || c))
  turned true true c = refl
  turned true false c = refl
  turned false true c = refl
  turned false false c = refl

  left_of : (a b : Bool) → (a && b) ≡ true → a ≡ true
  left_of true b h = refl
  left_of false b h = cc

  right_of : (a b : Bool) → (a && b) ≡ true → b ≡ true
  right_of true b h = h
  right_of false b h = cc

  equal_of : (m n : ℕ) → (m == n) ≡ true → m ≡ n
  equal_of m n h = grind (arith, nat_tests)

  same : (run : Run) (c d : Key) → key_cmp c d ≡ Equal → points_into x run (Some (cell_at c)) ≡ points_into x run (Some (cell_at d))
  same run c d h =
      let both : ((c.0 == d.0) && (c.1 == d.1)) ≡ true = sym (key_eq c d) ∙ ap is_eq h in
      ap (λ a. points_into x run (Some (cell_at (a, c.1)))) (equal_of c.0 d.0 (left_of (c.0 == d.0) _ both))
      ∙ ap (λ p. points_into x run (Some (cell_at (d.0, p)))) (equal_of c.1 d.1 (right_of (c.0 == d.0) _ both))

  pub inserted : (run : Run) (cs : List Key) (c : Key) → points_in x run (insert_key key_cmp cs c) ≡ (points_into x run (Some (cell_at c)) || points_in x run cs)
  inserted run [] c = refl
  inserted run (d ∷ cs) c = by (key_cmp c d) refl (inserted run cs c)
    where
      by : (o : Ordering) → key_cmp c d ≡ o → points_in x run (insert_key key_cmp cs c) ≡ (points_into x run (Some (cell_at c)) || points_in x run cs)
          → points_in x run (match_ordering o (c ∷ d ∷ cs) (d ∷ cs) (d ∷ insert_key key_cmp cs c)) ≡ (points_into x run (Some (cell_at c)) || (points_into x run (Some (cell_at d)) || points_in x run cs))
      by Less is rest = refl
      by Equal is rest =
          twice (points_into x run (Some (cell_at d))) (points_in x run cs)
          ∙ ap (λ b. b || (points_into x run (Some (cell_at d)) || points_in x run cs)) (sym (same run c d is))
      by Greater is rest =
          ap (λ b. points_into x run (Some (cell_at d)) || b) rest
          ∙ turned (points_into x run (Some (cell_at d))) (points_into x run (Some (cell_at c))) (points_in x run cs)
