-- A cell's row, as children come that use the cell.
use Rattle.std.proofs.Common.{◌≡◌, ◌≢◌, ◌||◌, ◌++◌, ℕ, ◌<◌, ◌≤◌, List, [], Bool, true, false, cond, Option, Some, None, ◌⊎◌, inl, inr, refl, sym, ap, ◌∙◌, arith, true≢false}
use Rattle.std.specs.Option.{option_to_list}
use Rattle.std.proofs.lemmas.Bool.{cases_eq, or_cases, eqb-true, eq-eqb, or_left, or_right, false_from_ne_true}
use Rattle.std.proofs.lemmas.Option.{same_Some}
use Rattle.std.proofs.lemmas.List.Folds.{list_any-append}
use Rattle.ot_model.specs.declared.stmt.Mode.{Mode}
use Rattle.ot_depend.specs.Siblings.{is_write, has}
use Rattle.ot_depend.specs.Kept.{Entry, RowIs, row_waits_for}

-- a number in two lists behind one another is in one of them
pub has-append : (n : ℕ) (xs ys : List ℕ) → has n (xs ++ ys) ≡ (has n xs || has n ys)
has-append n xs ys = list_any-append _ xs ys

-- a child that writes the cell is the whole row
pub row_written : (u w : ℕ → Bool) (n : ℕ) → w n ≡ true → ((i : ℕ) → u i ≡ true → i ≤ n) → ((i : ℕ) → w i ≡ true → i ≤ n) → RowIs u w (Some n) []
row_written u w n here used written = record {
  writes = λ k is. ap w (sym (same_Some n k is)) ∙ here;
  last = λ i writes. (n, refl, written i writes);
  used = λ i none. absurd (true≢false (sym none));
  since = λ i k none is. absurd (true≢false (sym none));
  all = λ i uses. inr (n, refl, used i uses);
}

-- a child that uses the cell otherwise is put behind those that do
pub row_used : (u w u2 w2 : ℕ → Bool) (n : ℕ) (writer : Option ℕ) (users users2 : List ℕ) → RowIs u w writer users → ((i : ℕ) → i ≢ n → u2 i ≡ u i) → ((i : ℕ) → w2 i ≡ w i) → u2 n ≡ true → ((i : ℕ) → w i ≡ true → i ≤ n) → ((i : ℕ) → has i users2 ≡ true → (has i users ≡ true) ⊎ (i ≡ n)) → ((i : ℕ) → has i users ≡ true → has i users2 ≡ true) → has n users2 ≡ true → RowIs u2 w2 writer users2
row_used u w u2 w2 n writer users users2 row same_u same_w here bound in' kept new = record {
  writes = λ k is. same_w k ∙ row.writes k is;
  last = λ i writes. row.last i (sym (same_w i) ∙ writes);
  used = λ i there. used i (cases_eq i n) there;
  since = λ i k there is. elim (in' i there) [
    | inl old ↦ row.since i k old is
    | inr now ↦ let below : k ≤ n = bound k (row.writes k is) in omega arith
  ];
  all = λ i uses. all i (cases_eq i n) uses;
}
  where
    used : (i : ℕ) → (i ≡ n) ⊎ (i ≡ n → ⊥) → has i users2 ≡ true → u2 i ≡ true
    used i (inl is) there = ap u2 is ∙ here
    used i (inr apart) there = same_u i apart ∙ row.used i (elim (in' i there) [ inl old ↦ old | inr is ↦ absurd (apart is) ])

    all : (i : ℕ) → (i ≡ n) ⊎ (i ≡ n → ⊥) → u2 i ≡ true → (has i users2 ≡ true) ⊎ ((k : ℕ) × (writer ≡ Some k) × (i ≤ k))
    all i (inl is) uses = inl (ap (λ m. has m users2) is ∙ new)
    all i (inr apart) uses = elim (row.all i (sym (same_u i apart) ∙ uses)) [ inl old ↦ inl (kept i old) | inr k ↦ inr k ]

-- a row tells of whoever uses and writes the cell likewise
pub row_same : (u w u2 w2 : ℕ → Bool) (writer : Option ℕ) (users : List ℕ) → RowIs u w writer users → ((i : ℕ) → u2 i ≡ u i) → ((i : ℕ) → w2 i ≡ w i) → RowIs u2 w2 writer users
row_same u w u2 w2 writer users row same_u same_w = record {
  writes = λ k is. same_w k ∙ row.writes k is;
  last = λ i writes. row.last i (sym (same_w i) ∙ writes);
  used = λ i there. same_u i ∙ row.used i there;
  since = row.since;
  all = λ i uses. row.all i (sym (same_u i) ∙ uses);
}

has_option : (i : ℕ) (writer : Option ℕ) → has i (option_to_list writer) ≡ true → writer ≡ Some i
has_option i None there = absurd (true≢false (sym there))
has_option i (Some k) there = elim (or_cases _ false there) [ inl is ↦ ap Some (eqb-true k i is) | inr rest ↦ absurd (true≢false (sym rest)) ]

-- who is found uses the cell, one of the two writes it, and no one since
pub found_sound : (u w : ℕ → Bool) (e : Entry) (mode : Mode) (i : ℕ) → RowIs u w e.writer e.users → ((k : ℕ) → w k ≡ true → u k ≡ true) → has i (row_waits_for e mode) ≡ true →
    (u i ≡ true) × ((w i || is_write mode) ≡ true) × ((k : ℕ) → i < k → w k ≡ false)
found_sound u w e mode i row uses there = elim (or_cases _ _ (sym (has-append i (option_to_list e.writer) (cond (is_write mode) e.users [])) ∙ there)) [
  | inl first ↦ let is : e.writer ≡ Some i = has_option i e.writer first in
      let here : w i ≡ true = row.writes i is in (
        uses i here,
        or_left (w i) (is_write mode) here,
        λ k past. false_from_ne_true (w k) (λ writes.
            let later = row.last k writes in let same : i ≡ later.0 = same_Some i later.0 (sym is ∙ later.1) in omega (arith, later.2)),
      )
  | inr rest ↦ since (is_write mode) refl rest
]
  where
    since : (b : Bool) → is_write mode ≡ b → has i (cond b e.users []) ≡ true → (u i ≡ true) × ((w i || is_write mode) ≡ true) × ((k : ℕ) → i < k → w k ≡ false)
    since true is among = (
      row.used i among,
      or_right (w i) (is_write mode) is,
      λ k past. false_from_ne_true (w k) (λ writes.
          let later = row.last k writes in let before : later.0 ≤ i = row.since i later.0 among later.1 in omega (arith, later.2)),
    )
    since false is among = absurd (true≢false (sym among))

-- and whoever does so is found
pub found_complete : (u w : ℕ → Bool) (e : Entry) (mode : Mode) (i : ℕ) → RowIs u w e.writer e.users → u i ≡ true → (w i || is_write mode) ≡ true → ((k : ℕ) → i < k → w k ≡ false) →
    has i (row_waits_for e mode) ≡ true
found_complete u w e mode i row uses one none = has-append i (option_to_list e.writer) (cond (is_write mode) e.users []) ∙ elim (or_cases (w i) (is_write mode) one) [
  | inl writes ↦ by_writer (row.last i writes)
  | inr is ↦ elim (row.all i uses) [
    | inl among ↦ or_right _ _ (ap (λ b. has i (cond b e.users [])) is ∙ among)
    | inr later ↦ by_writer later
  ]
]
  where
    by_writer : (k : ℕ) × (e.writer ≡ Some k) × (i ≤ k) → (has i (option_to_list e.writer) || has i (cond (is_write mode) e.users [])) ≡ true
    by_writer (k, is, after) = elim (cases_eq k i) [
      | inl same ↦ or_left _ _ (ap (λ o. has i (option_to_list o)) is ∙ or_left _ false (eq-eqb k i same))
      | inr apart ↦ let past : i < k = omega arith in absurd (true≢false (sym (row.writes k is) ∙ none k past))
    ]
