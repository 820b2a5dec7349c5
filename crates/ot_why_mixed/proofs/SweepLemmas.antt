-- Along the row of cells, the first clause that folds otherwise than one that it shares a cell with begins at the first mixed cell.
use Rattle.std.proofs.Common.{◌≡◌, ℕ, ◌<◌, ◌≤◌, Bool, true, false, cond, ◌&&◌, List, [], ◌∷◌, ◌++◌, Option, Some, None, refl, sym, ap, subst, ◌∙◌, inl, inr, append-nil, append_assoc, arith}
use Rattle.std.specs.Prelude.{nat_lt, not}
use Rattle.std.proofs.lemmas.Bool.{lt-ltb, ltb-true, and_parts, not-true, not-false, ltb-false}
use Rattle.ot_model.specs.declared.fold.Fold.{Fold}
use Rattle.ot_model.proofs.EqualLemmas.{fold-decides}
use Rattle.ot_why_mixed.specs.Rows.{Row, same_operation, sweep}
use Rattle.ot_why_mixed.proofs.InLemmas.{In, in_left, in_right, in_either, in_one}

-- ---- operations

pub operation_is : (a b : Option Fold) → same_operation a b ≡ true → a ≡ b
operation_is None None h = refl
operation_is None (Some b) h = absurd cc
operation_is (Some a) None h = absurd cc
operation_is (Some a) (Some b) h = ap Some ((fold-decides a b).0 h)

operation_itself : (a : Option Fold) → same_operation a a ≡ true
operation_itself None = refl
operation_itself (Some a) = (fold-decides a a).1 refl

pub operation_differs : (a b : Option Fold) → a ≡ b → same_operation a b ≡ false → ⊥
operation_differs a b e h =
    let t : same_operation a b ≡ true = subst (λ (c : Option Fold). same_operation a c ≡ true) e (operation_itself a) in
    let f : true ≡ false = sym t ∙ h in cc

-- ---- rows that cover a cell

abbrev pub Covers : Row → ℕ → Type 0
Covers r x = (r.from ≤ x) × (x < r.to)

-- those that cover it fold alike
abbrev pub Clear : List Row → ℕ → Type 0
Clear rows x = (r q : Row) → In r rows → In q rows → Covers r x → Covers q x → r.fold ≡ q.fold

abbrev pub Rising : List Row → Type 0
Rising [] = Unit {0}
Rising (r ∷ rs) = ((q : Row) → In q rs → r.from ≤ q.from) × Rising rs

pub record IsFirst (rows : List Row) (r : Row) : Type 0 where
  pub there : In r rows
  pub other : (q : Row) × (In q rows × (Covers q r.from × (same_operation r.fold q.fold ≡ false)))
  pub before : (x : ℕ) → x < r.from → Clear rows x

abbrev pub Outcome : List Row → Option Row → Type 0
Outcome rows None = (x : ℕ) → Clear rows x
Outcome rows (Some r) = IsFirst rows r

-- ---- those so far

record Seen (seen : List Row) (reach : ℕ) (fold : Option Fold) : Type 0 where
  clear : (x : ℕ) → Clear seen x
  ends : (r : Row) → In r seen → r.to ≤ reach
  holds : 0 < reach → (h : Row) × (In h seen × ((h.to ≡ reach) × (h.fold ≡ fold)))

-- a row that folds as the one that reaches furthest folds as each that it shares a cell with
agrees : (seen : List Row) (reach : ℕ) (fold : Option Fold) (r : Row) → Seen seen reach fold → ((q : Row) → In q seen → q.from ≤ r.from)
    → (r.from < reach → r.fold ≡ fold) → (x : ℕ) (q : Row) → In q seen → Covers q x → Covers r x → q.fold ≡ r.fold
agrees seen reach fold r s later same x q there over here =
    let end = s.ends q there in
    let below : r.from < reach = omega (arith, end, over.1, here.0) in
    let h = s.holds (omega (arith, below)) in
    let over_from : r.from < q.to = omega (arith, over.1, here.0) in
    let held_from : r.from < h.0.to = omega (arith, h.1.1.0, below) in
    s.clear r.from q h.0 there h.1.0 (later q there, over_from) (later h.0 h.1.0, held_from) ∙ h.1.1.1 ∙ sym (same below)

clear_more : (seen : List Row) (r : Row) (x : ℕ) → Clear seen x → ((q : Row) → In q seen → Covers q x → Covers r x → q.fold ≡ r.fold) → Clear (seen ++ r ∷ []) x
clear_more seen r x clear meets p q p_in q_in p_over q_over =
    elim (in_either p seen (r ∷ []) p_in) [
      | inl p_seen ↦ elim (in_either q seen (r ∷ []) q_in) [
        | inl q_seen ↦ clear p q p_seen q_seen p_over q_over
        | inr q_last ↦
            let e = in_one q r q_last in
            meets p p_seen p_over (subst (λ (k : Row). Covers k x) e q_over) ∙ ap (λ (k : Row). k.fold) (sym e)
      ]
      | inr p_last ↦
          let d = in_one p r p_last in
          elim (in_either q seen (r ∷ []) q_in) [
            | inl q_seen ↦ ap (λ (k : Row). k.fold) d ∙ sym (meets q q_seen q_over (subst (λ (k : Row). Covers k x) d p_over))
            | inr q_last ↦ ap (λ (k : Row). k.fold) (d ∙ sym (in_one q r q_last))
          ]
    ]

ends_more : (seen : List Row) (r : Row) (reach : ℕ) → ((q : Row) → In q seen → q.to ≤ reach) → r.to ≤ reach → (q : Row) → In q (seen ++ r ∷ []) → q.to ≤ reach
ends_more seen r reach ends last q h =
    elim (in_either q seen (r ∷ []) h) [
      | inl k ↦ ends q k
      | inr k ↦ subst (λ (it : Row). it.to ≤ reach) (sym (in_one q r k)) last
    ]

-- before a row begins, those from it on cover nothing
clear_before : (seen rest : List Row) (r : Row) → ((x : ℕ) → Clear seen x) → ((q : Row) → In q rest → r.from ≤ q.from) → (x : ℕ) → x < r.from
    → Clear (seen ++ rest) x
clear_before seen rest r clear later x below p q p_in q_in p_over q_over =
    elim (in_either p seen rest p_in) [
      | inl p_seen ↦ elim (in_either q seen rest q_in) [
        | inl q_seen ↦ clear x p q p_seen q_seen p_over q_over
        | inr q_late ↦ let l = later q q_late in absurd (omega (arith, l, below, q_over.0))
      ]
      | inr p_late ↦ let l = later p p_late in absurd (omega (arith, l, below, p_over.0))
    ]

-- ---- one row after the other

same_where : (r : Row) (reach : ℕ) (fold : Option Fold) → nat_lt r.from reach && not (same_operation r.fold fold) ≡ false → r.from < reach → r.fold ≡ fold
same_where r reach fold h below = operation_is r.fold fold (not-false (same_operation r.fold fold) (rw (lt-ltb r.from reach below) at h))

met : (seen rest : List Row) (reach : ℕ) (fold : Option Fold) (r : Row) → Seen seen reach fold → ((q : Row) → In q seen → q.from ≤ r.from)
    → ((q : Row) → In q rest → r.from ≤ q.from) → nat_lt r.from reach ≡ true → same_operation r.fold fold ≡ false → IsFirst (seen ++ r ∷ rest) r
met seen rest reach fold r s earlier later below differs =
    let inside : r.from < reach = ltb-true r.from reach below in
    let h = s.holds (omega (arith, inside)) in
    let held_from : r.from < h.0.to = omega (arith, h.1.1.0, inside) in
    record {
      there = in_right r seen (r ∷ rest) (inl refl);
      other = (h.0, (in_left h.0 seen (r ∷ rest) h.1.0, ((earlier h.0 h.1.0, held_from), subst (λ (f : Option Fold). same_operation r.fold f ≡ false) (sym h.1.1.1) differs)));
      before = clear_before seen (r ∷ rest) r s.clear (from_on r rest later);
    }
  where
    from_on : (r : Row) (rest : List Row) → ((q : Row) → In q rest → r.from ≤ q.from) → (q : Row) → In q (r ∷ rest) → r.from ≤ q.from
    from_on r rest later q (inl e) = let f = ap (λ (k : Row). k.from) e in omega (arith, f)
    from_on r rest later q (inr h) = later q h

step : (seen rest : List Row) (reach : ℕ) (fold : Option Fold) (r : Row) → Seen seen reach fold → ((q : Row) → In q seen → q.from ≤ r.from)
    → ((q : Row) → In q rest → r.from ≤ q.from)
    → ((reach : ℕ) (fold : Option Fold) → Seen (seen ++ r ∷ []) reach fold → Outcome (seen ++ r ∷ rest) (sweep reach fold rest))
    → (a b : Bool) → nat_lt r.from reach && not (same_operation r.fold fold) ≡ a → nat_lt reach r.to ≡ b
    → Outcome (seen ++ r ∷ rest) (cond a (Some r) (cond b (sweep r.to r.fold rest) (sweep reach fold rest)))
step seen rest reach fold r s earlier later on true b is far =
    let t = and_parts (nat_lt r.from reach) (not (same_operation r.fold fold)) is in
    met seen rest reach fold r s earlier later t.0 (not-true (same_operation r.fold fold) t.1)
step seen rest reach fold r s earlier later on false true is far =
    let more : reach < r.to = ltb-true reach r.to far in
    on r.to r.fold (record {
      clear = λ x. clear_more seen r x (s.clear x) (agrees seen reach fold r s earlier (same_where r reach fold is) x);
      ends = ends_more seen r r.to (λ q h. let e = s.ends q h in omega (arith, e, more)) (omega arith);
      holds = λ some. (r, (in_right r seen (r ∷ []) (inl refl), (refl, refl)));
    })
step seen rest reach fold r s earlier later on false false is far =
    on reach fold (record {
      clear = λ x. clear_more seen r x (s.clear x) (agrees seen reach fold r s earlier (same_where r reach fold is) x);
      ends = ends_more seen r reach s.ends (ltb-false reach r.to far);
      holds = λ some. let h = s.holds some in (h.0, (in_left h.0 seen (r ∷ []) h.1.0, h.1.1));
    })

earlier_more : (seen rest : List Row) (r : Row) → ((q p : Row) → In q seen → In p (r ∷ rest) → q.from ≤ p.from) → ((p : Row) → In p rest → r.from ≤ p.from)
    → (q p : Row) → In q (seen ++ r ∷ []) → In p rest → q.from ≤ p.from
earlier_more seen rest r earlier later q p q_in p_in =
    elim (in_either q seen (r ∷ []) q_in) [
      | inl q_seen ↦ earlier q p q_seen (inr p_in)
      | inr q_last ↦ let e = ap (λ (k : Row). k.from) (in_one q r q_last) in let l = later p p_in in omega (arith, e, l)
    ]

sweep_on : (seen rest : List Row) (reach : ℕ) (fold : Option Fold) → Seen seen reach fold → ((q p : Row) → In q seen → In p rest → q.from ≤ p.from) → Rising rest
    → Outcome (seen ++ rest) (sweep reach fold rest)
sweep_on seen [] reach fold s earlier rising = rw (append-nil seen) s.clear
sweep_on seen (r ∷ rest) reach fold s earlier rising =
    step seen rest reach fold r s (λ q h. earlier q r h (inl refl)) rising.0
    (λ more other t. subst (λ (rows : List Row). Outcome rows (sweep more other rest)) (append_assoc seen (r ∷ []) rest)
    (sweep_on (seen ++ r ∷ []) rest more other t (earlier_more seen rest r earlier rising.0) rising.1))
    (nat_lt r.from reach && not (same_operation r.fold fold)) (nat_lt reach r.to) refl refl

pub sweep_is : (rows : List Row) → Rising rows → Outcome rows (sweep 0 None rows)
sweep_is rows rising =
    sweep_on [] rows 0 None (record { clear = λ x r q h. absurd h; ends = λ r h. absurd h; holds = λ some. absurd (omega (arith, some)) }) (λ q p h. absurd h) rising
