-- What stays ready as children are added and finish.
use Rattle.std.proofs.Common.{◌≡◌, ℕ, zero, suc, ◌<◌, List, [], ◌∷◌, ◌++◌, length, take, true, false, true≢false, get_or, IsTrue, Some, ◌⊎◌, inl, inr, refl, sym, ◌∙◌, ap, subst, arith}
use Rattle.std.specs.List.{All, slice_get}
use Rattle.std.proofs.lemmas.Option.{slice_get_within, slice_get-get_or, get_or_from_slice_get, same_Some}
use Rattle.std.proofs.lemmas.List.{get_or-take, length-take}
use Rattle.ot_model.specs.Cells.{DependsOn}
use Rattle.ot_model.specs.declared.stmt.Use.{Use}
use Rattle.ot_depend.specs.Siblings.{Sibling, IsReady, FinishedAreReady, with_finished}

-- what is put behind a list moves nothing in it
pub slice_get-push : {A : Type 0} (xs : List A) (y : A) (i : ℕ) → i < length xs → slice_get (xs ++ y ∷ []) i ≡ slice_get xs i
slice_get-push [] y i within = absurd (omega arith)
slice_get-push (x ∷ xs) y zero within = refl
slice_get-push (x ∷ xs) y (suc i) within = slice_get-push xs y i (omega arith)

-- what is found once an element was put behind was there, or is that element
slice_get-push_cases : {A : Type 0} (xs : List A) (y : A) (i : ℕ) (x : A) → slice_get (xs ++ y ∷ []) i ≡ Some x → (slice_get xs i ≡ Some x) ⊎ (x ≡ y)
slice_get-push_cases [] y zero x there = inr (cc)
slice_get-push_cases [] y (suc i) x there = cc
slice_get-push_cases (z ∷ xs) y zero x there = inl there
slice_get-push_cases (z ∷ xs) y (suc i) x there = slice_get-push_cases xs y i x there

-- a child stays ready when one is created behind it
pub IsReady-push : (siblings : List Sibling) (s : Sibling) (child : ℕ) → IsReady siblings child → IsReady (siblings ++ s ∷ []) child
IsReady-push siblings s child ready =
    let within : child < length siblings = slice_get_within siblings child ready.itself ready.known in
    record {
      itself = ready.itself;
      known = slice_get-push siblings s child within ∙ ready.known;
      awaited = λ place earlier before there. ready.awaited place earlier before (sym (slice_get-push siblings s place (omega arith)) ∙ there);
    }

-- with an unfinished child behind, each that has finished is ready as before
pub FinishedAreReady-push : (siblings : List Sibling) (s : Sibling) → s.finished ≡ false → FinishedAreReady siblings → FinishedAreReady (siblings ++ s ∷ [])
FinishedAreReady-push siblings s unfinished all = λ child itself there finished.
    elim (slice_get-push_cases siblings s child itself there) [
      | inl old ↦ IsReady-push siblings s child (all child itself old finished)
      | inr last ↦ let is : itself.finished ≡ false = ap (λ t. t.finished) last ∙ unfinished in absurd (true≢false (sym finished ∙ is))
    ]

-- a child that was known still is, with its declaration
known_after : (siblings : List Sibling) (child place : ℕ) (s : Sibling) → slice_get siblings place ≡ Some s →
    (t : Sibling) × (slice_get (with_finished siblings child) place ≡ Some t) × (t.uses ≡ s.uses)
known_after [] child place s there = cc
known_after (x ∷ xs) zero zero s there = (record x { finished = true }, refl, cc)
known_after (x ∷ xs) zero (suc place) s there = (s, there, refl)
known_after (x ∷ xs) (suc child) zero s there = (s, there, refl)
known_after (x ∷ xs) (suc child) (suc place) s there = known_after xs child place s there

-- a child that is known was, with its declaration; it has finished where it had, and if another child finished, only there
known_before : (siblings : List Sibling) (child place : ℕ) (t : Sibling) → slice_get (with_finished siblings child) place ≡ Some t →
    (s : Sibling) × (slice_get siblings place ≡ Some s) × (s.uses ≡ t.uses) × (IsTrue s.finished → IsTrue t.finished)
    × ((child ≡ place) ⊎ (IsTrue t.finished → IsTrue s.finished))
known_before [] child place t there = cc
known_before (x ∷ xs) zero zero t there =
    let is : record x { finished = true } ≡ t = cc in
    (x, refl, ap (λ s. s.uses) is, λ _. subst (λ (s : Sibling). IsTrue s.finished) is refl, inl refl)
known_before (x ∷ xs) zero (suc place) t there = (t, there, refl, λ h. h, inr (λ h. h))
known_before (x ∷ xs) (suc child) zero t there = (t, there, refl, λ h. h, inr (λ h. h))
known_before (x ∷ xs) (suc child) (suc place) t there =
    let old = known_before xs child place t there in
    (old.0, old.1, old.2, old.3, elim old.4 [ inl same ↦ inl (ap suc same) | inr kept ↦ inr kept ])

-- a child stays ready when one finishes
pub IsReady-finished : (siblings : List Sibling) (child other : ℕ) → IsReady siblings other → IsReady (with_finished siblings child) other
IsReady-finished siblings child other ready =
    let after = known_after siblings child other ready.itself ready.known in
    record {
      itself = after.0;
      known = after.1;
      awaited = λ place earlier before there depends.
          let old = known_before siblings child place earlier there in
          let on : DependsOn old.0.uses ready.itself.uses = subst (λ (us : List Use). DependsOn us ready.itself.uses) (sym old.2) (subst (λ (us : List Use). DependsOn earlier.uses us) after.2 depends) in
          old.3 (ready.awaited place old.0 before old.1 on);
    }

-- once a ready child has finished, each that has finished is ready
pub FinishedAreReady-finished : (siblings : List Sibling) (child : ℕ) → IsReady siblings child → FinishedAreReady siblings → FinishedAreReady (with_finished siblings child)
FinishedAreReady-finished siblings child ready all = λ place itself there finished.
    let old = known_before siblings child place itself there in
    IsReady-finished siblings child place (elim old.4 [
      | inl same ↦ subst (λ (n : ℕ). IsReady siblings n) same ready
      | inr kept ↦ all place old.0 old.1 (kept finished)
    ])

-- what holds of all before a child holds at each earlier place
earlier_from_All : (P : Sibling → Type 0) (siblings : List Sibling) (child place : ℕ) (earlier : Sibling) → All P (take child siblings) →
    place < child → slice_get siblings place ≡ Some earlier → P earlier
earlier_from_All P siblings child place earlier all before there =
    let there_is : place < length siblings = slice_get_within siblings place earlier there in
    let within : place < length (take child siblings) = grind (arith, length-take {A = Sibling}) in
    let is : get_or (take child siblings) place earlier ≡ earlier =
    get_or-take child siblings place earlier before ∙ get_or_from_slice_get siblings place earlier earlier there in
    subst P is (all place earlier within)

-- a later sibling with these uses need not wait for it
abbrev pub LetsRun : List Use → Sibling → Type 0
LetsRun later earlier = DependsOn earlier.uses later → IsTrue earlier.finished

-- a known child is ready where no sibling before it makes it wait
pub IsReady-from_All : (siblings : List Sibling) (child : ℕ) (itself : Sibling) → slice_get siblings child ≡ Some itself →
    All (LetsRun itself.uses) (take child siblings) → IsReady siblings child
IsReady-from_All siblings child itself known all = record {
  itself = itself;
  known = known;
  awaited = λ place earlier before there. earlier_from_All (LetsRun itself.uses) siblings child place earlier all before there;
}

-- no sibling before a ready child makes it wait
pub All-from_IsReady : (siblings : List Sibling) (child : ℕ) (itself : Sibling) → slice_get siblings child ≡ Some itself → IsReady siblings child →
    All (LetsRun itself.uses) (take child siblings)
All-from_IsReady siblings child itself known ready = λ place d within.
    let before : place < child = grind (arith, length-take {A = Sibling}) in
    let there_is : place < length siblings = grind (arith, length-take {A = Sibling}) in
    let same : itself ≡ ready.itself = same_Some itself ready.itself (sym known ∙ ready.known) in
    let found : LetsRun itself.uses (get_or siblings place d) = λ depends.
    ready.awaited place (get_or siblings place d) before (slice_get-get_or siblings place d there_is)
    (subst (λ (t : Sibling). DependsOn (get_or siblings place d).uses t.uses) same depends) in
    subst (LetsRun itself.uses) (sym (get_or-take child siblings place d before)) found
