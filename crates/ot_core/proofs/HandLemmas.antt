-- The pieces in hands stay those that are out.
use Rattle.std.proofs.Common.{◌≡◌, ◌≢◌, ◌<◌, ◌⊎◌, inl, inr, ℕ, List, length, set, refl, sym, ap, ◌∙◌, subst}
use Rattle.std.specs.Prelude.{Option, Some, None}
use Rattle.std.proofs.lemmas.Bool.{cases_eq}
use Rattle.std.proofs.lemmas.Option.{none-some, same_Some}
use Rattle.std.proofs.lemmas.List.{get_or-set_same, get_or-set_other}
use Rattle.ot_job.specs.Dealings.{Live}
use Rattle.ot_hall.specs.Floors.{job_of}
use Rattle.ot_core.specs.Scenes.{AreInHands, IsHeld, hand_of, held_work, out_at}
use Rattle.ot_core.specs.declared.held.Held.{Held}

-- the same two numbers, or not
both_or_not : (u t j k : ℕ) → ((u ≡ t) × (j ≡ k)) ⊎ (u ≡ t → j ≡ k → ⊥)
both_or_not u t j k = elim (cases_eq u t) [
  | inl one ↦ elim (cases_eq j k) [
    | inl two ↦ inl (one, two)
    | inr not ↦ inr (λ _ two. not two)
  ]
  | inr not ↦ inr (λ one _. not one)
]

-- every other task's piece is out as before
abbrev pub OthersOut : List (Option Live) → List (Option Live) → ℕ → ℕ → Type 0
OthersOut old new t k = (u j : ℕ) → (u ≡ t → j ≡ k → ⊥) → out_at (job_of new u) j ≡ out_at (job_of old u) j

hand-same : (hands : List (Option Held)) (w v : ℕ) (x : Option Held) → w < length hands → v ≡ w → hand_of (set hands w x) v ≡ x
hand-same hands w v x below is = ap (hand_of (set hands w x)) is ∙ get_or-set_same hands w x None below

hand-other : (hands : List (Option Held)) (w v : ℕ) (x : Option Held) → v ≢ w → hand_of (set hands w x) v ≡ hand_of hands v
hand-other hands w v x other = get_or-set_other hands w v x None other

-- the piece of a task comes to a free hand
pub held-taken : (old new : List (Option Live)) (hands : List (Option Held)) (w : ℕ) (h : Held) → AreInHands old hands → w < length hands → hand_of hands w ≡ None
    → out_at (job_of old h.tenant) h.piece.task ≡ None → out_at (job_of new h.tenant) h.piece.task ≡ Some (held_work h)
    → OthersOut old new h.tenant h.piece.task → AreInHands new (set hands w (Some h))
held-taken old new hands w h held below free was now others =
    let fresh : (v : ℕ) (g : Held) → hand_of hands v ≡ Some g → g.tenant ≡ h.tenant → g.piece.task ≡ h.piece.task → ⊥ =
    λ v g is t k. none-some (held_work g) (sym was ∙ ap (λ u. out_at (job_of old u) h.piece.task) (sym t) ∙ ap (out_at (job_of old g.tenant)) (sym k) ∙ held.out v g is) in
    let mine : (v : ℕ) (g : Held) → v ≡ w → hand_of (set hands w (Some h)) v ≡ Some g → h ≡ g =
    λ v g here is. same_Some h g (sym (hand-same hands w v (Some h) below here) ∙ is) in
    let theirs : (v : ℕ) (g : Held) → v ≢ w → hand_of (set hands w (Some h)) v ≡ Some g → hand_of hands v ≡ Some g =
    λ v g other is. sym (hand-other hands w v (Some h) other) ∙ is in
    record {
      out = λ v g is. elim (cases_eq v w) [
        | inl here ↦ subst (λ (x : Held). out_at (job_of new x.tenant) x.piece.task ≡ Some (held_work x)) (mine v g here is) now
        | inr other ↦ let was_held = theirs v g other is in others g.tenant g.piece.task (fresh v g was_held) ∙ held.out v g was_held
      ];
      one = λ u v f g at_u at_v t k. elim (cases_eq u w) [
        | inl u_here ↦ elim (cases_eq v w) [
          | inl v_here ↦ u_here ∙ sym v_here
          | inr other ↦
              let f_is = mine u f u_here at_u in
              absurd (fresh v g (theirs v g other at_v) (sym t ∙ ap (λ (x : Held). x.tenant) (sym f_is)) (sym k ∙ ap (λ (x : Held). x.piece.task) (sym f_is)))
        ]
        | inr u_other ↦ elim (cases_eq v w) [
          | inl v_here ↦
              let g_is = mine v g v_here at_v in
              absurd (fresh u f (theirs u f u_other at_u) (t ∙ ap (λ (x : Held). x.tenant) (sym g_is)) (k ∙ ap (λ (x : Held). x.piece.task) (sym g_is)))
          | inr other ↦ held.one u v f g (theirs u f u_other at_u) (theirs v g other at_v) t k
        ]
      ];
      all = λ u j work is. elim (both_or_not u h.tenant j h.piece.task) [
        | inl same ↦ record { hand = w; held = h; is = hand-same hands w w (Some h) below refl; tenant_is = sym same.0; task_is = sym same.1 }
        | inr not ↦
            let was_held : IsHeld hands u j = held.all u j work (sym (others u j not) ∙ is) in
            record {
              hand = was_held.hand;
              held = was_held.held;
              is = hand-other hands w was_held.hand (Some h) (λ e. none-some was_held.held (sym free ∙ ap (hand_of hands) (sym e) ∙ was_held.is)) ∙ was_held.is;
              tenant_is = was_held.tenant_is;
              task_is = was_held.task_is;
            }
      ];
    }

-- a hand gives its piece back
pub held-given : (old new : List (Option Live)) (hands : List (Option Held)) (w : ℕ) (h : Held) → AreInHands old hands → w < length hands → hand_of hands w ≡ Some h
    → out_at (job_of new h.tenant) h.piece.task ≡ None → OthersOut old new h.tenant h.piece.task → AreInHands new (set hands w None)
held-given old new hands w h held below mine gone others =
    let theirs : (v : ℕ) (g : Held) → hand_of (set hands w None) v ≡ Some g → (v ≢ w) × (hand_of hands v ≡ Some g) =
    λ v g is. elim (cases_eq v w) [
      | inl here ↦ absurd (none-some g (sym (hand-same hands w v None below here) ∙ is))
      | inr other ↦ (other, sym (hand-other hands w v None other) ∙ is)
    ] in
    record {
      out = λ v g is.
          let was = theirs v g is in
          others g.tenant g.piece.task (λ t k. was.0 (held.one v w g h was.1 mine t k)) ∙ held.out v g was.1;
      one = λ u v f g at_u at_v t k. held.one u v f g (theirs u f at_u).1 (theirs v g at_v).1 t k;
      all = λ u j work is. elim (both_or_not u h.tenant j h.piece.task) [
        | inl same ↦ absurd (none-some work (sym gone ∙ ap (λ t. out_at (job_of new t) h.piece.task) (sym same.0) ∙ ap (out_at (job_of new u)) (sym same.1) ∙ is))
        | inr not ↦
            let was_held : IsHeld hands u j = held.all u j work (sym (others u j not) ∙ is) in
            record {
              hand = was_held.hand;
              held = was_held.held;
              is =
                  hand-other hands w was_held.hand None
                  (λ e.
                  let same = same_Some was_held.held h (sym was_held.is ∙ ap (hand_of hands) e ∙ mine) in
                  not (sym was_held.tenant_is ∙ ap (λ (x : Held). x.tenant) same) (sym was_held.task_is ∙ ap (λ (x : Held). x.piece.task) same))
                  ∙ was_held.is;
              tenant_is = was_held.tenant_is;
              task_is = was_held.task_is;
            }
      ];
    }
