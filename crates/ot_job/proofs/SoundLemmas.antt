-- A job's regions make it sound.
use Rattle.std.proofs.Common.{◌≡◌, ℕ, zero, suc, ◌<◌, ◌≤◌, true, false, List, [], ◌∷◌, length, refl, sym, ap, subst, ◌∙◌, ◌⊎◌, inl, inr, arith, ◌&&◌, true≢false, Some, slice_get, ⊎_elim}
use Rattle.ot_job.proofs.Common.{cases_lt, same_Some, Any-from_list_any, list_any-from_Any, and_left, and_right, and_true, same_is, same_self, conflicts, Cell, Operation, Mode, Reads, Writes, Folds, Use, Sibling, use_as, Declared, allows, covers, folds_by, same_cell, Agree, Region, at, empty_region, parent_of, todo_at, ended_at, may_at, IsRootOrReady, DontMix, IsSoundRegions}
use Rattle.ot_model.specs.Cells.{DependsOn, one_writes}
use Rattle.ot_job.proofs.FoldLemmas.{same-op, both-fold, covered-fold}
use Rattle.ot_job.proofs.Kept.{Sound}

pub at-past : (rs : List Region) (i : ℕ) → length rs ≤ i → at rs i ≡ empty_region
at-past [] i h = refl
at-past (r ∷ rs) zero h = absurd (omega (arith, h))
at-past (r ∷ rs) (suc i) h = at-past rs i (omega (arith, h))

-- siblings of which the later doesn't depend on the earlier, and neither uses otherwise what the other folds
agree-siblings : (us vs : List Use) → (DependsOn vs us → ⊥) → DontMix us vs → DontMix vs us → (u v : Use) → allows (Some us) u ≡ true → allows (Some vs) v ≡ true → Agree u v
agree-siblings us vs free one two u v mu mv same =
    let d = Any-from_list_any (λ d. same_cell d.cell u.cell && covers d.mode u.mode) us mu in
    let e = Any-from_list_any (λ d. same_cell d.cell v.cell && covers d.mode v.mode) vs mv in
    let at_d = same_is d.1.cell u.cell (and_left (same_cell d.1.cell u.cell) (covers d.1.mode u.mode) d.4) in
    let at_e = same_is e.1.cell v.cell (and_left (same_cell e.1.cell v.cell) (covers e.1.mode v.mode) e.4) in
    let mu_v : allows (Some us) (use_as u.mode v.cell) ≡ true = subst (λ (c : Cell). allows (Some us) (use_as u.mode c) ≡ true) same mu in
    let mv_u : allows (Some vs) (use_as v.mode u.cell) ≡ true = subst (λ (c : Cell). allows (Some vs) (use_as v.mode c) ≡ true) (sym same) mv in
    modes d.1.mode e.1.mode u.mode v.mode
    (and_right (same_cell d.1.cell u.cell) (covers d.1.mode u.mode) d.4)
    (and_right (same_cell e.1.cell v.cell) (covers e.1.mode v.mode) e.4)
    (λ w. free (e.0, e.1, e.2, e.3, (d.0, d.1, d.2, d.3, (at_e ∙ sym same ∙ sym at_d, w))))
    (λ o by. two o u.cell (list_any-from_Any (λ x. same_cell x.cell u.cell && folds_by o x.mode) us
    (d.0, d.1, d.2, d.3, and_true (same_cell d.1.cell u.cell) (folds_by o d.1.mode) (same_self d.1.cell u.cell at_d) by)) v.mode mv_u)
    (λ o by. one o v.cell (list_any-from_Any (λ x. same_cell x.cell v.cell && folds_by o x.mode) vs
    (e.0, e.1, e.2, e.3, and_true (same_cell e.1.cell v.cell) (folds_by o e.1.mode) (same_self e.1.cell v.cell at_e) by)) u.mode mu_v)
  where
    modes : (d e m n : Mode) → covers d m ≡ true → covers e n ≡ true → (one_writes e d ≡ true → ⊥)
        → ((o : Operation) → folds_by o d ≡ true → n ≡ Folds o) → ((o : Operation) → folds_by o e ≡ true → m ≡ Folds o) → conflicts m n ≡ false
    modes (Folds o) e m n p q f g h = both-fold o m n (covered-fold o m p) (g o (same-op o))
    modes Reads (Folds o) m n p q f g h = both-fold o m n (h o (same-op o)) (covered-fold o n q)
    modes Reads Reads Reads Reads p q f g h = refl
    modes Reads Reads m n p q f g h = cc
    modes Writes Reads m n p q f g h = absurd (f refl)
    modes d e m n p q f g h = absurd (f refl)

module _ (rs : List Region) (s : IsSoundRegions rs) where
  inside_or : (i : ℕ) → (i < length rs) ⊎ (length rs ≤ i)
  inside_or i = cases_lt i (length rs)

  past_parent : (i : ℕ) → length rs ≤ i → parent_of rs i ≡ 0
  past_parent i h = ap (λ (r : Region). r.parent) (at-past rs i h)

  within : (i : ℕ) → 0 < i → (u : Use) → may_at rs i u → may_at rs (parent_of rs i) u
  within i pos u may = elim (inside_or i) [
    | inl h ↦ let kin = s.kin i pos h in
        (s.placed (parent_of rs i)).within (at rs i).child kin.entry kin.there u (ap (λ (o : Declared). allows o u) (sym kin.uses) ∙ may)
    | inr h ↦ ap (λ n. allows (at rs n).own u) (past_parent i h) ∙ ap (λ (o : Declared). allows o u) s.root
  ]

  alive : (i : ℕ) → 0 < parent_of rs i → ended_at rs (parent_of rs i) ≡ true → ended_at rs i ≡ true
  alive i pos over = at_place (inside_or i)
    where
      at_place : (i < length rs) ⊎ (length rs ≤ i) → ended_at rs i ≡ true
      at_place (inl h) =
          let root : (i ≡ 0) ⊎ (0 < i) = zero_or i in
          from root h
        where
          zero_or : (i : ℕ) → (i ≡ 0) ⊎ (0 < i)
          zero_or zero = inl refl
          zero_or (suc i) = inr (omega arith)

          from : (i ≡ 0) ⊎ (0 < i) → i < length rs → ended_at rs i ≡ true
          from (inl e) h = absurd (omega (arith, pos, ap (parent_of rs) e, s.top))
          from (inr below) h = let kin = s.kin i below h in sym kin.finished ∙ s.done (parent_of rs i) pos over (at rs i).child kin.entry kin.there
      at_place (inr h) = absurd (omega (arith, pos, past_parent i h))

  ready : (a b : ℕ) → parent_of rs b ≡ parent_of rs a → 0 < b → b < a → IsRootOrReady rs a → ended_at rs a ≡ false → ended_at rs b ≡ false
      → (u v : Use) → may_at rs a u → may_at rs b v → Agree u v
  ready a b same pos lt begun alive_a alive_b u v mu mv =
      let r = begun (omega (arith, pos, lt)) in
      let ka = s.kin a (omega (arith, pos, lt)) r.0 in
      let kb = s.kin b pos (omega (arith, lt, r.0)) in
      let there : slice_get (at rs (parent_of rs a)).children (at rs b).child ≡ Some kb.entry = subst (λ n. slice_get (at rs n).children (at rs b).child ≡ Some kb.entry) same kb.there in
      let p = s.placed (parent_of rs a) in
      let fa = ka.finished ∙ alive_a in let fb = kb.finished ∙ alive_b in
      agree-siblings ka.entry.uses kb.entry.uses
      (λ depends.
      let itself = same_Some r.1.itself ka.entry (sym r.1.known ∙ ka.there) in
      let waited : kb.entry.finished ≡ true = r.1.awaited (at rs b).child kb.entry (s.older a b pos lt r.0 same) there (subst (λ (x : Sibling). DependsOn kb.entry.uses x.uses) (sym itself) depends) in
      true≢false (sym waited ∙ fb))
      (p.apart (at rs a).child (at rs b).child ka.entry kb.entry ka.there there fa fb)
      (p.apart (at rs b).child (at rs a).child kb.entry ka.entry there ka.there fb fa) u v
      (ap (λ (o : Declared). allows o u) (sym ka.uses) ∙ mu) (ap (λ (o : Declared). allows o v) (sym kb.uses) ∙ mv)

  begun_up : (i : ℕ) → 0 < i → IsRootOrReady rs (parent_of rs i)
  begun_up i pos up = ⊎_elim (λ h. s.begun i pos h up) (λ h. absurd (omega (arith, up, past_parent i h))) (inside_or i)

  pub sound : Sound (parent_of rs) (may_at rs) (todo_at rs) (ended_at rs) (IsRootOrReady rs)
  sound = record {
    down = s.down;
    inside = λ i. (s.placed i).inside;
    within = within;
    alive = alive;
    over = λ i. (s.placed i).over;
    ready = ready;
    begun_up = begun_up;
  }
