-- What the walk meets, as one relation; what it tells is the first of that.
use Rattle.std.proofs.Common.{◌≡◌, ◌<◌, ◌≤◌, ℕ, ◌+◌, Bool, true, false, refl, sym, subst, inl, inr, ◌∙◌, arith}
use Rattle.std.specs.Prelude.{◌⊎◌, Option, Some, None}
use Rattle.std.specs.Option.{option_or}
use Rattle.ot_model.specs.Tree.{S, Set, Fold, If, Task, Wait, Group, Body, End, Next, size, size_one}
use Rattle.ot_check.specs.Offences.{Declared, Openings, IsFirstOf, rank}
use Rattle.ot_check.specs.Discipline.{Children, nobody, nothing_open, behind_one, with_group, is_offence}
use Rattle.ot_check.specs.walk.Walk.{leading, offence_at, first, first_inside}
use Rattle.ot_check.specs.declared.fault.Offence.{Offence}
use Rattle.ot_check.specs.declared.fault.Offence.TheVariants.{NotDeclared, ChildBeyond, ReductionMisuse, ConflictsWithChild, EndsWithChildren}

-- an offence that the walk meets in a statement's bodies, in a body
abbrev mutual
  pub MeetsInside : Declared → Openings → Children → ℕ → S → ℕ → Offence → Type 0
  MeetsInside own opened children k (Set c e) place offence = ⊥
  MeetsInside own opened children k (Fold o c e) place offence = ⊥
  MeetsInside own opened children k (If e a b) place offence =
      Meets own opened children (k + 1) a place offence ⊎ Meets own opened children (k + 1 + size a) b place offence
  MeetsInside own opened children k (Task d b) place offence = Meets (Some d) nothing_open nobody (k + 1) b place offence
  MeetsInside own opened children k (Wait w) place offence = ⊥
  MeetsInside own opened children k (Group o cs b) place offence = Meets own (with_group opened o cs) children (k + 1) b place offence

  pub Meets : Declared → Openings → Children → ℕ → Body → ℕ → Offence → Type 0
  Meets own opened children k End place offence = ⊥
  Meets own opened children k (Next x rest) place offence =
      (((place ≡ k) × (is_offence own opened children x offence ≡ true)) ⊎ MeetsInside own opened children k x place offence)
      ⊎ Meets own opened (behind_one children x) (k + size_one x) rest place offence

-- the statement's own offences, and those in its bodies
abbrev pub MeetsOne : Declared → Openings → Children → ℕ → S → ℕ → Offence → Type 0
MeetsOne own opened children k x place offence =
    ((place ≡ k) × (is_offence own opened children x offence ≡ true)) ⊎ MeetsInside own opened children k x place offence

-- ---- places

size_one-positive : (x : S) → 0 < size_one x
size_one-positive (Set c e) = omega arith
size_one-positive (Fold o c e) = omega arith
size_one-positive (If e a b) = omega arith
size_one-positive (Task d b) = omega arith
size_one-positive (Wait w) = omega arith
size_one-positive (Group o cs b) = omega arith

mutual
  inside-places : (own : Declared) (opened : Openings) (children : Children) (k : ℕ) (x : S) (place : ℕ) (offence : Offence)
      → MeetsInside own opened children k x place offence → (k < place) × (place < k + size_one x)
  inside-places own opened children k (Set c e) place offence h = absurd h
  inside-places own opened children k (Fold o c e) place offence h = absurd h
  inside-places own opened children k (If e a b) place offence (inl h) =
      let p = meets-places own opened children (k + 1) a place offence h in (omega (arith, p.0), omega (arith, p.1))
  inside-places own opened children k (If e a b) place offence (inr h) =
      let p = meets-places own opened children (k + 1 + size a) b place offence h in (omega (arith, p.0), omega (arith, p.1))
  inside-places own opened children k (Task d b) place offence h =
      let p = meets-places (Some d) nothing_open nobody (k + 1) b place offence h in (omega (arith, p.0), omega (arith, p.1))
  inside-places own opened children k (Wait w) place offence h = absurd h
  inside-places own opened children k (Group o cs b) place offence h =
      let p = meets-places own (with_group opened o cs) children (k + 1) b place offence h in (omega (arith, p.0), omega (arith, p.1))

  meets-places : (own : Declared) (opened : Openings) (children : Children) (k : ℕ) (b : Body) (place : ℕ) (offence : Offence)
      → Meets own opened children k b place offence → (k ≤ place) × (place < k + size b)
  meets-places own opened children k End place offence h = absurd h
  meets-places own opened children k (Next x rest) place offence (inl (inl h)) =
      let p = size_one-positive x in (omega (arith, h.0), omega (arith, h.0, p))
  meets-places own opened children k (Next x rest) place offence (inl (inr h)) =
      let p = inside-places own opened children k x place offence h in (omega (arith, p.0), omega (arith, p.1))
  meets-places own opened children k (Next x rest) place offence (inr h) =
      let p = meets-places own opened (behind_one children x) (k + size_one x) rest place offence h in (omega (arith, p.0), omega (arith, p.1))

-- ---- the first of two kinds, where the one stands before the other

or_first : (A B : ℕ → Offence → Type 0) (f g : Option (ℕ × Offence)) → IsFirstOf A f → IsFirstOf B g
    → ((p : ℕ) (c : Offence) (q : ℕ) (d : Offence) → A p c → B q d → p < q) → IsFirstOf (λ p c. A p c ⊎ B p c) (option_or f g)
or_first A B None None hf hg apart = λ p c h. elim h [ inl a ↦ hf p c a | inr b ↦ hg p c b ]
or_first A B None (Some two) hf hg apart =
    (inr hg.0, λ p c h. elim h [ inl a ↦ absurd (hf p c a) | inr b ↦ hg.1 p c b ])
or_first A B (Some one) g hf hg apart =
    (inl hf.0, λ p c h. elim h [ inl a ↦ hf.1 p c a | inr b ↦ inl (apart one.0 one.1 p c hf.0 b) ])

none_first : IsFirstOf (λ p c. ⊥) None
none_first = λ p c h. h

-- ---- the first of the order

abbrev told : ℕ → Bool → Bool → Bool → Bool → Bool → Option (ℕ × Offence)
told k true b c d e = Some (k, NotDeclared)
told k false true c d e = Some (k, ChildBeyond)
told k false false true d e = Some (k, ReductionMisuse)
told k false false false true e = Some (k, ConflictsWithChild)
told k false false false false true = Some (k, EndsWithChildren)
told k false false false false false = None

told-is : (k : ℕ) (holds : Offence → Bool) (a b c d e : Bool) → holds NotDeclared ≡ a → holds ChildBeyond ≡ b → holds ReductionMisuse ≡ c
    → holds ConflictsWithChild ≡ d → holds EndsWithChildren ≡ e → offence_at k (leading holds) ≡ told k a b c d e
told-is k holds true b c d e ha hb hc hd he = rw ha refl
told-is k holds false true c d e ha hb hc hd he = rw (ha, hb) refl
told-is k holds false false true d e ha hb hc hd he = rw (ha, hb, hc) refl
told-is k holds false false false true e ha hb hc hd he = rw (ha, hb, hc, hd) refl
told-is k holds false false false false true ha hb hc hd he = rw (ha, hb, hc, hd, he) refl
told-is k holds false false false false false ha hb hc hd he = rw (ha, hb, hc, hd, he) refl

abbrev Here : ℕ → (Offence → Bool) → ℕ → Offence → Type 0
Here k holds place offence = (place ≡ k) × (holds offence ≡ true)

told-first : (k : ℕ) (holds : Offence → Bool) (a b c d e : Bool) → holds NotDeclared ≡ a → holds ChildBeyond ≡ b → holds ReductionMisuse ≡ c
    → holds ConflictsWithChild ≡ d → holds EndsWithChildren ≡ e → IsFirstOf (Here k holds) (told k a b c d e)
told-first k holds true b c d e ha hb hc hd he = ((refl, ha), λ p x h. inr (sym h.0, omega arith))
told-first k holds false true c d e ha hb hc hd he = ((refl, hb), λ p x h. inr (sym h.0, least p x h))
  where
    least : (p : ℕ) (x : Offence) → Here k holds p x → rank ChildBeyond ≤ rank x
    least p NotDeclared h = let q : false ≡ true = sym ha ∙ h.1 in cc
    least p ChildBeyond h = omega arith
    least p ReductionMisuse h = omega arith
    least p ConflictsWithChild h = omega arith
    least p EndsWithChildren h = omega arith
told-first k holds false false true d e ha hb hc hd he = ((refl, hc), λ p x h. inr (sym h.0, least p x h))
  where
    least : (p : ℕ) (x : Offence) → Here k holds p x → rank ReductionMisuse ≤ rank x
    least p NotDeclared h = let q : false ≡ true = sym ha ∙ h.1 in cc
    least p ChildBeyond h = let q : false ≡ true = sym hb ∙ h.1 in cc
    least p ReductionMisuse h = omega arith
    least p ConflictsWithChild h = omega arith
    least p EndsWithChildren h = omega arith
told-first k holds false false false true e ha hb hc hd he = ((refl, hd), λ p x h. inr (sym h.0, least p x h))
  where
    least : (p : ℕ) (x : Offence) → Here k holds p x → rank ConflictsWithChild ≤ rank x
    least p NotDeclared h = let q : false ≡ true = sym ha ∙ h.1 in cc
    least p ChildBeyond h = let q : false ≡ true = sym hb ∙ h.1 in cc
    least p ReductionMisuse h = let q : false ≡ true = sym hc ∙ h.1 in cc
    least p ConflictsWithChild h = omega arith
    least p EndsWithChildren h = omega arith
told-first k holds false false false false true ha hb hc hd he = ((refl, he), λ p x h. inr (sym h.0, least p x h))
  where
    least : (p : ℕ) (x : Offence) → Here k holds p x → rank EndsWithChildren ≤ rank x
    least p NotDeclared h = let q : false ≡ true = sym ha ∙ h.1 in cc
    least p ChildBeyond h = let q : false ≡ true = sym hb ∙ h.1 in cc
    least p ReductionMisuse h = let q : false ≡ true = sym hc ∙ h.1 in cc
    least p ConflictsWithChild h = let q : false ≡ true = sym hd ∙ h.1 in cc
    least p EndsWithChildren h = omega arith
told-first k holds false false false false false ha hb hc hd he = none
  where
    none : (p : ℕ) (x : Offence) → Here k holds p x → ⊥
    none p NotDeclared h = let q : false ≡ true = sym ha ∙ h.1 in cc
    none p ChildBeyond h = let q : false ≡ true = sym hb ∙ h.1 in cc
    none p ReductionMisuse h = let q : false ≡ true = sym hc ∙ h.1 in cc
    none p ConflictsWithChild h = let q : false ≡ true = sym hd ∙ h.1 in cc
    none p EndsWithChildren h = let q : false ≡ true = sym he ∙ h.1 in cc

here-first : (k : ℕ) (holds : Offence → Bool) → IsFirstOf (Here k holds) (offence_at k (leading holds))
here-first k holds =
    subst (IsFirstOf (Here k holds)) (sym (told-is k holds _ _ _ _ _ refl refl refl refl refl))
    (told-first k holds (holds NotDeclared) (holds ChildBeyond) (holds ReductionMisuse) (holds ConflictsWithChild) (holds EndsWithChildren) refl refl refl refl refl)

-- ---- what the walk tells is the first of what it meets

mutual
  inside-first : (own : Declared) (opened : Openings) (children : Children) (k : ℕ) (x : S)
      → IsFirstOf (MeetsInside own opened children k x) (first_inside own opened children k x)
  inside-first own opened children k (Set c e) = none_first
  inside-first own opened children k (Fold o c e) = none_first
  inside-first own opened children k (If e a b) =
      or_first (Meets own opened children (k + 1) a) (Meets own opened children (k + 1 + size a) b)
      (first own opened children (k + 1) a) (first own opened children (k + 1 + size a) b)
      (meets-first own opened children (k + 1) a) (meets-first own opened children (k + 1 + size a) b)
      (λ p c q d h g. let l = meets-places own opened children (k + 1) a p c h in
      let r = meets-places own opened children (k + 1 + size a) b q d g in omega (arith, l.1, r.0))
  inside-first own opened children k (Task d b) = meets-first (Some d) nothing_open nobody (k + 1) b
  inside-first own opened children k (Wait w) = none_first
  inside-first own opened children k (Group o cs b) = meets-first own (with_group opened o cs) children (k + 1) b

  pub meets-first : (own : Declared) (opened : Openings) (children : Children) (k : ℕ) (b : Body)
      → IsFirstOf (Meets own opened children k b) (first own opened children k b)
  meets-first own opened children k End = none_first
  meets-first own opened children k (Next x rest) =
      or_first (MeetsOne own opened children k x) (Meets own opened (behind_one children x) (k + size_one x) rest)
      (option_or (offence_at k (leading (is_offence own opened children x))) (first_inside own opened children k x))
      (first own opened (behind_one children x) (k + size_one x) rest)
      (or_first (Here k (is_offence own opened children x)) (MeetsInside own opened children k x)
      (offence_at k (leading (is_offence own opened children x))) (first_inside own opened children k x)
      (here-first k (is_offence own opened children x)) (inside-first own opened children k x)
      (λ p c q d h g. let r = inside-places own opened children k x q d g in omega (arith, h.0, r.0)))
      (meets-first own opened (behind_one children x) (k + size_one x) rest)
      (λ p c q d h g. let r = meets-places own opened (behind_one children x) (k + size_one x) rest q d g in
      let s = size_one-positive x in
      elim h [
        | inl here ↦ omega (arith, here.0, r.0, s)
        | inr inside ↦ let l = inside-places own opened children k x p c inside in omega (arith, l.1, r.0)
      ])
