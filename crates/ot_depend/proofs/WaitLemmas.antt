-- That the counter of a child is for how many unfinished siblings it waits by itself.
use Rattle.std.proofs.Common.{◌≡◌, ◌&&◌, ◌||◌, ◌+◌, ◌-◌, ◌<◌, ◌≤◌, ℕ, zero, suc, List, [], ◌∷◌, Bool, true, false, not, cond, take, drop, get_or, length, Some, inl, inr, refl, sym, ap, ◌∙◌, arith, true≢false}
use Rattle.std.specs.List.{list_any, slice_get}
use Rattle.std.specs.Option.{option_map, unwrap_or}
use Rattle.std.proofs.lemmas.Bool.{or_cases, or_left, or_right, and_parts, and_from, not-true, not_from_false, false_from_ne_true}
use Rattle.std.proofs.lemmas.Option.{none-some, slice_get-map, slice_get_within}
use Rattle.std.proofs.lemmas.List.{length-take, length-drop, get_or-take, get_or-drop, get_or-map, take-map, drop-map}
use Rattle.std.proofs.lemmas.List.Folds.{Any-from_list_any, list_any-from_Any, list_any_none, list_any_at}
use Rattle.std.proofs.lemmas.List.Sums.{sum_by-cons, sum_by-take-drop}
use Rattle.ot_model.specs.declared.expr.Cell.{Cell}
use Rattle.ot_model.specs.declared.stmt.Use.{Use}
use Rattle.ot_depend.specs.Siblings.{Sibling, is_write, uses_cell, writes_cell, is_direct, count_direct, waiting_for, has, times}
use Rattle.ot_depend.specs.Kept.{decls, IsDirect, Kid, siblings, owes, due, IsLinked}
use Rattle.ot_depend.proofs.HeartLemmas.{use_found, write_found, use_there, write_there, decl_at, times-none, times-some, due-none}

-- what stands at a place of the front or behind it
front_back : {A : Type 0} (xs : List A) (j m : ℕ) (x : A) → slice_get (take j xs) m ≡ Some x → (m < j) × (slice_get xs m ≡ Some x)
front_back [] zero m x there = absurd (none-some x there)
front_back [] (suc j) m x there = absurd (none-some x there)
front_back (y ∷ xs) zero m x there = absurd (none-some x there)
front_back (y ∷ xs) (suc j) zero x there = (omega arith, there)
front_back (y ∷ xs) (suc j) (suc m) x there = let rest = front_back xs j m x there in (omega (arith, rest.0), rest.1)

rest_back : {A : Type 0} (xs : List A) (j i : ℕ) (x : A) → slice_get (drop j xs) i ≡ Some x → (k : ℕ) × (j ≤ k) × (slice_get xs k ≡ Some x)
rest_back xs zero i x there = (i, omega arith, there)
rest_back [] (suc j) i x there = absurd (none-some x there)
rest_back (y ∷ xs) (suc j) i x there = let rest = rest_back xs j i x there in (suc rest.0, omega (arith, rest.1), rest.2)

module _ (ss : List Sibling) (m j : ℕ) (s t : Sibling) (order : m < j) (at_m : slice_get ss m ≡ Some s) (at_j : slice_get ss j ≡ Some t) where
  -- those between
  abbrev between : List Sibling
  between = drop (suc m) (take j ss)

  within_j : j < length ss
  within_j = slice_get_within ss j t at_j

  count_between : length between ≡ j - suc m
  count_between = let inside = within_j in omega (arith, length-drop (suc m) (take j ss), length-take j ss)

  one_between : (k : ℕ) (d : Sibling) → suc m + k < j → get_or between k d ≡ get_or ss (suc m + k) d
  one_between k d below = get_or-drop (suc m) (take j ss) k d ∙ get_or-take j ss (suc m + k) d below

  none_between : (c : Cell) → ((k : ℕ) → m < k → k < j → writes_cell c (get_or (decls ss) k []) ≡ false) → list_any (λ r. writes_cell c r.uses) between ≡ false
  none_between c none = list_any_none (λ r. writes_cell c r.uses) between (λ k d inside.
      let below : suc m + k < j = omega (arith, count_between) in
      let known : suc m + k < length ss = let in_j = within_j in omega arith in
      ap (λ r. writes_cell c r.uses) (one_between k d below) ∙ ap (writes_cell c) (sym (get_or-map (λ (r : Sibling). r.uses) ss (suc m + k) d [] known)) ∙ none (suc m + k) (omega arith) below)

  between_none : (c : Cell) → list_any (λ r. writes_cell c r.uses) between ≡ false → (k : ℕ) → m < k → k < j → writes_cell c (get_or (decls ss) k []) ≡ false
  between_none c none k after before = false_from_ne_true (writes_cell c (get_or (decls ss) k [])) (λ writes.
      let at : suc m + (k - suc m) ≡ k = omega arith in
      let known : k < length ss = let in_j = within_j in omega arith in
      let inside : k - suc m < length between = omega (arith, count_between) in
      let here : writes_cell c (get_or between (k - suc m) s).uses ≡ true =
      ap (λ r. writes_cell c r.uses) (one_between (k - suc m) s (omega arith) ∙ ap (λ n. get_or ss n s) at) ∙ ap (writes_cell c) (sym (get_or-map (λ (r : Sibling). r.uses) ss k s [] known)) ∙ writes in
      true≢false (sym (list_any_at (λ r. writes_cell c r.uses) between (k - suc m) s inside here) ∙ none))

  pub IsDirect-from_test : is_direct s.uses between t.uses ≡ true → IsDirect (decls ss) m j
  IsDirect-from_test passed =
      let v = Any-from_list_any (λ v. uses_cell v.cell s.uses && (writes_cell v.cell s.uses || is_write v.mode) && not (list_any (λ r. writes_cell v.cell r.uses) between)) t.uses passed in
      let c : Cell = v.1.cell in
      let parts = and_parts (uses_cell c s.uses && (writes_cell c s.uses || is_write v.1.mode)) (not (list_any (λ r. writes_cell c r.uses) between)) v.4 in
      let more = and_parts (uses_cell c s.uses) (writes_cell c s.uses || is_write v.1.mode) parts.0 in
      record {
        cell = c;
        order = order;
        used = ap (uses_cell c) (decl_at ss m s at_m) ∙ more.0;
        uses = ap (uses_cell c) (decl_at ss j t at_j) ∙ use_there c t.uses (v.0, v.1, v.2, v.3, refl);
        written = elim (or_cases (writes_cell c s.uses) (is_write v.1.mode) more.1) [
          | inl first ↦ or_left _ _ (ap (writes_cell c) (decl_at ss m s at_m) ∙ first)
          | inr second ↦ or_right _ _ (ap (writes_cell c) (decl_at ss j t at_j) ∙ write_there c t.uses (v.0, v.1, v.2, v.3, (refl, second)))
        ];
        between = between_none c (not-true (list_any (λ r. writes_cell c r.uses) between) parts.1);
      }

  pub test-from_IsDirect : IsDirect (decls ss) m j → is_direct s.uses between t.uses ≡ true
  test-from_IsDirect direct =
      let c : Cell = direct.cell in
      let used : uses_cell c s.uses ≡ true = ap (uses_cell c) (sym (decl_at ss m s at_m)) ∙ direct.used in
      let uses : uses_cell c t.uses ≡ true = ap (uses_cell c) (sym (decl_at ss j t at_j)) ∙ direct.uses in
      elim (or_cases (writes_cell c (get_or (decls ss) m [])) (writes_cell c (get_or (decls ss) j [])) direct.written) [
        | inl first ↦ let v = use_found c t.uses uses in
            passes c used (none_between c direct.between) v.0 v.1 v.2 v.3 v.4 (or_left _ _ (ap (writes_cell c) (sym (decl_at ss m s at_m)) ∙ first))
        | inr second ↦ let v = write_found c t.uses (ap (writes_cell c) (sym (decl_at ss j t at_j)) ∙ second) in
            passes c used (none_between c direct.between) v.0 v.1 v.2 v.3 v.4.0 (or_right _ _ v.4.1)
      ]
    where
      passes : (c : Cell) → uses_cell c s.uses ≡ true → list_any (λ r. writes_cell c r.uses) between ≡ false → (k : ℕ) (v : Use) → k < length t.uses → get_or t.uses k v ≡ v → v.cell ≡ c →
          (writes_cell c s.uses || is_write v.mode) ≡ true → is_direct s.uses between t.uses ≡ true
      passes c used none k v within is same one =
          list_any-from_Any (λ v. uses_cell v.cell s.uses && (writes_cell v.cell s.uses || is_write v.mode) && not (list_any (λ r. writes_cell v.cell r.uses) between)) t.uses (
            k,
            v,
            within,
            is,
            ap (λ d. uses_cell d s.uses && (writes_cell d s.uses || is_write v.mode) && not (list_any (λ r. writes_cell d r.uses) between)) same
                ∙ and_from (uses_cell c s.uses && (writes_cell c s.uses || is_write v.mode)) (not (list_any (λ r. writes_cell c r.uses) between)) (and_from (uses_cell c s.uses) (writes_cell c s.uses || is_write v.mode) used one)
                (not_from_false (list_any (λ r. writes_cell c r.uses) between) none),
          )

-- what is due is counted along the list
due-count : (j : ℕ) (uses : List Use) (ks : List Kid) → ((m : ℕ) (k : Kid) → slice_get ks m ≡ Some k → owes j k ≡ cond (not k.it.finished && is_direct k.it.uses (siblings (drop (suc m) ks)) uses) 1 0) →
    due j ks ≡ count_direct (siblings ks) uses
due-count j uses [] each = refl
due-count j uses (k ∷ ks) each = sum_by-cons (owes j) k ks ∙ ap (λ n. n + due j ks) (each 0 k refl)
    ∙ ap (λ n. cond (not k.it.finished && is_direct k.it.uses (siblings ks) uses) 1 0 + n) (due-count j uses ks (λ m. each (suc m)))

module _ (kids : List Kid) (linked : IsLinked kids) (j : ℕ) (t : Kid) (known : slice_get kids j ≡ Some t) where
  -- nothing is due to it from later children
  due-front : due j kids ≡ due j (take j kids)
  due-front = let none = due-none j (drop j kids) (λ i k there. from_rest i k (rest_back kids j i k there) k.it.finished (has j k.waiters) refl refl) in
      omega (arith, sum_by-take-drop (owes j) kids j)
    where
      from_rest : (i : ℕ) (k : Kid) → (n : ℕ) × (j ≤ n) × (slice_get kids n ≡ Some k) → (done waits : Bool) → k.it.finished ≡ done → has j k.waiters ≡ waits → owes j k ≡ 0
      from_rest i k place true waits is has_it = ap (λ b. cond b 0 (times j k.waiters)) is
      from_rest i k place false false is has_it = ap (λ b. cond b 0 (times j k.waiters)) is ∙ times-none j k.waiters has_it
      from_rest i k (n, after, there) false true is has_it = let direct = linked.told n j k there is has_it in absurd (omega (arith, direct.order))

  it_at : (m : ℕ) (k : Kid) → slice_get kids m ≡ Some k → slice_get (siblings kids) m ≡ Some k.it
  it_at m k there = slice_get-map (λ (x : Kid). x.it) kids m ∙ ap (option_map (λ (x : Kid). x.it)) there

  -- each earlier child owes it one where it waits for it by itself
  owed : (m : ℕ) (k : Kid) → m < j → slice_get kids m ≡ Some k → owes j k ≡ cond (not k.it.finished && is_direct k.it.uses (drop (suc m) (take j (siblings kids))) t.it.uses) 1 0
  owed m k before there = by k.it.finished (has j k.waiters) refl refl
    where
      once : times j k.waiters ≤ 1
      once = linked.once m j k there

      by : (done waits : Bool) → k.it.finished ≡ done → has j k.waiters ≡ waits → owes j k ≡ cond (not k.it.finished && is_direct k.it.uses (drop (suc m) (take j (siblings kids))) t.it.uses) 1 0
      by true waits is has_it = ap (λ b. cond b 0 (times j k.waiters)) is ∙ sym (ap (λ b. cond (not b && is_direct k.it.uses (drop (suc m) (take j (siblings kids))) t.it.uses) 1 0) is)
      by false true is has_it =
          let yes = test-from_IsDirect (siblings kids) m j k.it t.it before (it_at m k there) (it_at j t known) (linked.told m j k there is has_it) in
          let few = once in
          let one : times j k.waiters ≡ 1 = omega (arith, times-some j k.waiters has_it) in
          ap (λ b. cond b 0 (times j k.waiters)) is ∙ one ∙ sym (ap (λ b. cond (not b && is_direct k.it.uses (drop (suc m) (take j (siblings kids))) t.it.uses) 1 0) is ∙ ap (λ b. cond {A = ℕ} b 1 0) yes)
      by false false is has_it =
          let no_one : is_direct k.it.uses (drop (suc m) (take j (siblings kids))) t.it.uses ≡ false = false_from_ne_true _ (λ yes.
          true≢false (sym (linked.telling m j k there is (IsDirect-from_test (siblings kids) m j k.it t.it before (it_at m k there) (it_at j t known) yes)) ∙ has_it)) in
          ap (λ b. cond b 0 (times j k.waiters)) is ∙ times-none j k.waiters has_it ∙ sym (ap (λ b. cond (not b && is_direct k.it.uses (drop (suc m) (take j (siblings kids))) t.it.uses) 1 0) is ∙ ap (λ b. cond {A = ℕ} b 1 0) no_one)

  pub waiting_counted : t.waiting ≡ waiting_for (siblings kids) j
  waiting_counted =
      linked.counted j t known ∙ due-front ∙ due-count j t.it.uses (take j kids) (λ m k there. let place = front_back kids j m k there in
      owed m k place.0 place.1 ∙ ap (λ r. cond (not k.it.finished && is_direct k.it.uses r t.it.uses) 1 0) (sym (rest m)))
      ∙ ap (λ r. count_direct r t.it.uses) (sym (take-map (λ (x : Kid). x.it) j kids))
      ∙ sym (ap (λ o. unwrap_or (option_map (λ s. count_direct (take j (siblings kids)) s.uses) o) 0) (it_at j t known))
    where
      rest : (m : ℕ) → siblings (drop (suc m) (take j kids)) ≡ drop (suc m) (take j (siblings kids))
      rest m = sym (drop-map (λ (x : Kid). x.it) (suc m) (take j kids)) ∙ ap (drop (suc m)) (sym (take-map (λ (x : Kid). x.it) j kids))
