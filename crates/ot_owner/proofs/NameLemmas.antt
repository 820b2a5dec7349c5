-- Cells that are named, one more put in its place among those in order.
use Rattle.std.proofs.Common.{◌≡◌, ◌≢◌, ◌<◌, ◌≤◌, ◌+◌, ◌⊎◌, ◌↔◌, ℕ, zero, suc, Bool, true, false, List, [], ◌∷◌, ◌++◌, take, get_or, length, refl, sym, ap, ◌∙◌, subst, inl, inr, arith, Contains, cond, true≢false}
use Rattle.std.specs.Prelude.{Some, is_some}
use Rattle.std.specs.List.{insert, All, AllWithin, position_from}
use Rattle.std.proofs.lemmas.Iterator.Adapters.{position_from-zero}
use Rattle.std.proofs.lemmas.List.{take_more}
use Rattle.std.proofs.lemmas.List.Elements.{All-cons}
use Rattle.ot_model.specs.Cells.{is_before, Precedes, AreInOrder}
use Rattle.ot_model.specs.declared.expr.Cell.{Cell}
use Rattle.ot_model.specs.declared.stmt.Use.{Use}
use Rattle.ot_model.proofs.DeclaredLemmas.{after_more, neither_before}
use Rattle.ot_model.proofs.OrderLemmas.{precedes_from_before, rest_in_order}
use Rattle.ot_model.proofs.EqualLemmas.{cell-decides}
use Rattle.ot_owner.specs.Owning.{IsNamed, is_of, place_in}

-- where the cell isn't met at its place, it comes before what stands from there on
pub behind_place : (us : List Use) (i : ℕ) (cell : Cell) → AreInOrder us → AllWithin (λ u. is_before u.cell cell ≡ false) us i (length us) →
    ((d : Use) → i < length us → (get_or us i d).cell ≢ cell) → (k : ℕ) (d : Use) → i ≤ k → k < length us → Precedes cell (get_or us k d).cell
behind_place us i cell order back other k d from within =
    after_more us i cell d order (omega (arith, from, within)) here k d from within
  where
    here : Precedes cell (get_or us i d).cell
    here = by (is_before cell (get_or us i d).cell) refl
      where
        by : (b : Bool) → is_before cell (get_or us i d).cell ≡ b → Precedes cell (get_or us i d).cell
        by true before = precedes_from_before cell (get_or us i d).cell before
        by false not = absurd (other d (omega (arith, from, within)) (neither_before (get_or us i d).cell cell (back i d (omega arith) (omega (arith, from, within))) not))

-- before its place another cell is met
pub before_place : (us : List Use) (i : ℕ) (cell : Cell) → AllWithin (λ u. is_before u.cell cell ≡ true) us 0 i → (k : ℕ) (d : Use) → k < i → Precedes (get_or us k d).cell cell
before_place us i cell front k d below = precedes_from_before (get_or us k d).cell cell (front k d (omega arith) below)

in_front : (v : Use) (vs : List Use) → ((d : Use) → 0 < length vs → Precedes v.cell (get_or vs 0 d).cell) → AreInOrder vs → AreInOrder (v ∷ vs)
in_front v [] first order = tt
in_front v (w ∷ vs) first order = (first w (omega arith), order)

first-insert : (v u : Use) (us : List Use) (i : ℕ) → AreInOrder (v ∷ us) → i ≤ length us → Precedes v.cell u.cell → (d : Use) → Precedes v.cell (get_or (insert us i u) 0 d).cell
first-insert v u us zero order within before d = before
first-insert v u [] (suc i) order within before d = absurd (omega (arith, within))
first-insert v u (w ∷ us) (suc i) order within before d = order.0

pub order-insert : (us : List Use) (i : ℕ) (u : Use) → AreInOrder us → i ≤ length us → ((k : ℕ) (d : Use) → k < i → Precedes (get_or us k d).cell u.cell) →
    ((k : ℕ) (d : Use) → i ≤ k → k < length us → Precedes u.cell (get_or us k d).cell) → AreInOrder (insert us i u)
order-insert us zero u order within front back = in_front u us (λ d some. back 0 d (omega arith) some) order
order-insert [] (suc i) u order within front back = absurd (omega (arith, within))
order-insert (v ∷ us) (suc i) u order within front back =
    in_front v (insert us i u) (λ d some. first-insert v u us i order (omega (arith, within)) (front 0 v (omega arith)) d)
    (order-insert us i u (rest_in_order v us order) (omega (arith, within)) (λ k d below. front (suc k) d (omega (arith, below)))
    (λ k d from in_it. back (suc k) d (omega (arith, from)) (omega (arith, in_it))))

-- what holds of each holds with one more
pub all-insert : (P : Use → Type 0) (us : List Use) (i : ℕ) (u : Use) → i ≤ length us → P u → All P us → All P (insert us i u)
all-insert P us zero u within one all = All-cons P u us one all
all-insert P [] (suc i) u within one all = absurd (omega (arith, within))
all-insert P (v ∷ us) (suc i) u within one all =
    All-cons P v (insert us i u) (all 0 v (omega arith)) (all-insert P us i u (omega (arith, within)) one (λ k d inside. all (suc k) d (omega (arith, inside))))

named_first : (u : Use) (us : List Use) → IsNamed (u ∷ us) u.cell
named_first u us = (0, u, omega arith, refl, refl)

named_later : (u : Use) (us : List Use) (c : Cell) → IsNamed us c → IsNamed (u ∷ us) c
named_later u us c (k, v, within, is, same) = (suc k, v, omega (arith, within), is, same)

named_cases : (u : Use) (us : List Use) (c : Cell) → IsNamed (u ∷ us) c → (c ≡ u.cell) ⊎ IsNamed us c
named_cases u us c (zero, v, within, is, same) = inl (sym same ∙ ap (λ (x : Use). x.cell) (sym is))
named_cases u us c (suc k, v, within, is, same) = inr (k, v, omega (arith, within), is, same)

-- the cells that are named, and this one
pub named-insert : (us : List Use) (i : ℕ) (u : Use) (c : Cell) → i ≤ length us → IsNamed (insert us i u) c ↔ ((c ≡ u.cell) ⊎ IsNamed us c)
named-insert us zero u c within = (
  λ there. named_cases u us c there,
  λ either. elim either [
    | inl same ↦ subst (IsNamed (u ∷ us)) (sym same) (named_first u us)
    | inr there ↦ named_later u us c there
  ],
)
named-insert [] (suc i) u c within = absurd (omega (arith, within))
named-insert (v ∷ us) (suc i) u c within =
    let rest = named-insert us i u c (omega (arith, within)) in (
      λ there. elim (named_cases v (insert us i u) c there) [
        | inl same ↦ inr (subst (IsNamed (v ∷ us)) (sym same) (named_first v us))
        | inr later ↦ elim (rest.0 later) [
          | inl here ↦ inl here
          | inr old ↦ inr (named_later v us c old)
        ]
      ],
      λ either. elim either [
        | inl same ↦ named_later v (insert us i u) c (rest.1 (inl same))
        | inr old ↦ elim (named_cases v us c old) [
          | inl here ↦ subst (IsNamed (v ∷ insert us i u)) (sym here) (named_first v (insert us i u))
          | inr later ↦ named_later v (insert us i u) c (rest.1 (inr later))
        ]
      ],
    )

contains-push : (cs : List Cell) (x c : Cell) → Contains (cs ++ x ∷ []) c ↔ ((c ≡ x) ⊎ Contains cs c)
contains-push [] x c = ((λ there. one there), (λ either. two either))
  where
    one : Contains (x ∷ []) c → (c ≡ x) ⊎ Contains [] c
    one (zero, within, is) = inl (sym is)
    one (suc k, within, is) = absurd (omega (arith, within))

    two : (c ≡ x) ⊎ Contains [] c → Contains (x ∷ []) c
    two (inl same) = (0, omega arith, sym same)
    two (inr (k, within, is)) = absurd (omega (arith, within))
contains-push (y ∷ cs) x c = ((λ there. one (contains-push cs x c) there), (λ either. two (contains-push cs x c) either))
  where
    one : (Contains (cs ++ x ∷ []) c ↔ ((c ≡ x) ⊎ Contains cs c)) → Contains (y ∷ cs ++ x ∷ []) c → (c ≡ x) ⊎ Contains (y ∷ cs) c
    one rest (zero, within, is) = inr (0, omega arith, is)
    one rest (suc k, within, is) = elim (rest.0 (k, omega (arith, within), is)) [
      | inl same ↦ inl same
      | inr (j, inside, at) ↦ inr (suc j, omega (arith, inside), at)
    ]

    two : (Contains (cs ++ x ∷ []) c ↔ ((c ≡ x) ⊎ Contains cs c)) → (c ≡ x) ⊎ Contains (y ∷ cs) c → Contains (y ∷ cs ++ x ∷ []) c
    two rest (inl same) = let (j, inside, at) = rest.1 (inl same) in (suc j, omega (arith, inside), at)
    two rest (inr (zero, within, is)) = (0, omega arith, is)
    two rest (inr (suc k, within, is)) = let (j, inside, at) = rest.1 (inr (k, omega (arith, within), is)) in (suc j, omega (arith, inside), at)

-- one cell more of those that are gone through
pub named-more : (us vs : List Use) (cs : List Cell) (i : ℕ) (x c : Cell) → i < length cs → x ≡ get_or cs i x → (IsNamed us c ↔ Contains (take i cs) c) →
    (IsNamed vs c ↔ ((c ≡ x) ⊎ IsNamed us c)) → IsNamed vs c ↔ Contains (take (i + 1) cs) c
named-more us vs cs i x c within is old new =
    let more : take i cs ++ x ∷ [] ≡ take (i + 1) cs = ap (λ y. take i cs ++ y ∷ []) is ∙ sym (take_more cs i x within) in
    let push = contains-push (take i cs) x c in
    subst (λ ds. IsNamed vs c ↔ Contains ds c) more (
      λ there. push.1 (elim (new.0 there) [
        | inl same ↦ inl same
        | inr earlier ↦ inr (old.0 earlier)
      ]),
      λ there. new.1 (elim (push.0 there) [
        | inl same ↦ inl same
        | inr earlier ↦ inr (old.1 earlier)
      ]),
    )

found_from : (us : List Use) (c : Cell) (n k : ℕ) (u : Use) → k < length us → u ≡ get_or us k u → u.cell ≡ c → is_some (position_from (is_of c) n us) ≡ true
found_from [] c n k u within is same = absurd (omega (arith, within))
found_from (v ∷ us) c n k u within is same = by (λ j inside at. found_from us c (n + 1) j u inside at same) (is_of c v) refl k within is
  where
    by : ((j : ℕ) → j < length us → u ≡ get_or us j u → is_some (position_from (is_of c) (n + 1) us) ≡ true) → (b : Bool) → is_of c v ≡ b → (k : ℕ) → k < suc (length us) → u ≡ get_or (v ∷ us) k u
        → is_some (position_from (is_of c) n (v ∷ us)) ≡ true
    by later true met k within is = ap (λ b. is_some (cond b (Some n) (position_from (is_of c) (n + 1) us))) met
    by later false not zero within is = absurd (true≢false (sym ((cell-decides v.cell c).1 (ap (λ (x : Use). x.cell) (sym is) ∙ same)) ∙ not))
    by later false not (suc k) within is = ap (λ b. is_some (cond b (Some n) (position_from (is_of c) (n + 1) us))) not ∙ later k (omega (arith, within)) is

-- a cell that is named has a place
pub place-named : (us : List Use) (c : Cell) → IsNamed us c → is_some (place_in us c) ≡ true
place-named us c (k, u, within, is, same) = ap is_some (position_from-zero (is_of c) us) ∙ found_from us c 0 k u within (sym is) same
