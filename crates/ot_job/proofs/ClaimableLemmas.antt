-- Who is claimable, as the code finds it, and whose claimability a change leaves.
use Rattle.std.proofs.Common.{◌≡◌, ◌≢◌, ◌<◌, ℕ, zero, suc, Bool, true, false, not, ◌||◌, ◌&&◌, ◌==◌, List, [], ◌∷◌, ◌++◌, length, take, refl, sym, ap, ◌∙◌, inl, inr, arith, Option, is_some, slice_get, option_map, unwrap_or, get_or, subst, true≢false, ◌%◌, Some, None}
use Rattle.ot_job.proofs.Common.{list_all, cases_eq, updated, length-updated, Use, Sibling, is_ready, with_finished, depends_on, Region, with_child, without, at, is_claimable, is_let_go, slice_get-push, nat_tests, IsReady, claimable_of, picked_at}
use Rattle.std.proofs.lemmas.List.{take-append-le}
use Rattle.ot_check.proofs.Cited.{and_false}
use Rattle.ot_depend.proofs.ReadyLemmas.{depends_on-from_DependsOn}
use Rattle.ot_depend.proofs.SiblingsLemmas.{IsReady-from_All}
use Rattle.std.proofs.lemmas.List.Sums.{AllPass-from_list_all}
use Rattle.ot_job_roster.proofs.ListedLemmas.{passing-found}
use Rattle.ot_job.proofs.KeptLemmas.{at-updated, at-updated-other, at-more}
use Rattle.ot_job.proofs.EachLemmas.{field-kept, field-more}

-- ---- whose claimability a change of the regions leaves as it was

-- ---- what a claim looks at

abbrev claim_at : ℕ → Region → Bool → Bool
claim_at i r begun = (not r.ended && not (is_some r.running)) && (((i == 0) || begun) && is_let_go r)

same-claim : (old new : List Region) (k : ℕ) → at new k ≡ at old k
    → is_ready (at new (at old k).parent).children (at old k).child ≡ is_ready (at old (at old k).parent).children (at old k).child → is_claimable new k ≡ is_claimable old k
same-claim old new k here ready =
    ap (λ (r : Region). claim_at k r (is_ready (at new r.parent).children r.child)) here ∙ ap (claim_at k (at old k)) ready

same-root : (old new : List Region) → at new 0 ≡ at old 0 → is_claimable new 0 ≡ is_claimable old 0
same-root old new here = ap (λ (r : Region). claim_at 0 r true) here

-- none is claimable whose piece is out
pub claimable-busy : (rs : List Region) (i : ℕ) → is_some (at rs i).running ≡ true → is_claimable rs i ≡ false
claimable-busy rs i out = ap (λ b. (not (at rs i).ended && not b) && others) out ∙ ap (λ b. b && others) (and_false (not (at rs i).ended))
  where
    others : Bool
    others = ((i == 0) || is_ready (at rs (at rs i).parent).children (at rs i).child) && is_let_go (at rs i)

-- ---- one region changes

pub claimable-other : (f : Region → Region) → ((r : Region) → (f r).children ≡ r.children) → (rs : List Region) (i k : ℕ) → k ≢ i → is_claimable (updated rs i f) k ≡ is_claimable rs k
claimable-other f same rs i k apart =
    same-claim rs (updated rs i f) k (at-updated-other rs i k f apart)
    (ap (λ (cs : List Sibling). is_ready cs (at rs k).child) (field-kept (λ r. r.children) f same rs i (at rs k).parent))

-- ---- a child finishes

children-without : (c : ℕ) (rs : List Region) (p : ℕ) → (at (updated rs p (without c)) p).children ≡ with_finished (at rs p).children c
children-without c [] p = refl
children-without c (r ∷ rs) zero = refl
children-without c (r ∷ rs) (suc p) = children-without c rs p

pub claimable-told : (rs : List Region) (p c k : ℕ) → k ≢ p
    → ((at rs k).parent ≡ p → is_ready (with_finished (at rs p).children c) (at rs k).child ≡ is_ready (at rs p).children (at rs k).child) → is_claimable (updated rs p (without c)) k ≡ is_claimable rs k
claimable-told rs p c k apart same = same-claim rs (updated rs p (without c)) k (at-updated-other rs p k (without c) apart) (elim (cases_eq (at rs k).parent p) [
  | inl is ↦ ap (λ q. is_ready (at (updated rs p (without c)) q).children (at rs k).child) is ∙ ap (λ (cs : List Sibling). is_ready cs (at rs k).child) (children-without c rs p)
      ∙ same is ∙ sym (ap (λ q. is_ready (at rs q).children (at rs k).child) is)
  | inr other ↦ ap (λ (r : Region). is_ready r.children (at rs k).child) (at-updated-other rs p (at rs k).parent (without c) other)
])

-- ---- a child is created

abbrev ready_among : List Sibling → Option Sibling → Bool
ready_among before found = unwrap_or (option_map (λ (itself : Sibling). list_all (λ earlier. earlier.finished || not (depends_on earlier.uses itself.uses)) before) found) false

is_ready-behind : (cs : List Sibling) (s : Sibling) (c : ℕ) → c < length cs → is_ready (cs ++ s ∷ []) c ≡ is_ready cs c
is_ready-behind cs s c h =
    ap (λ l. ready_among l (slice_get (cs ++ s ∷ []) c)) (take-append-le c cs (s ∷ []) (omega (arith, h))) ∙ ap (ready_among (take c cs)) (slice_get-push cs s c h)

pub claimable-created : (rs : List Region) (i : ℕ) (uses : List Use) (new : Region) → i < length rs → new.children ≡ [] → (k : ℕ) → k < length rs → k ≢ i
    → (0 < k → (at rs k).child < length (at rs (at rs k).parent).children) → is_claimable (updated rs i (with_child uses) ++ new ∷ []) k ≡ is_claimable rs k
claimable-created rs i uses new within none k h apart known = by k refl
  where
    now : List Region
    now = updated rs i (with_child uses)

    here : at (now ++ new ∷ []) k ≡ at rs k
    here = at-more now new k (omega (arith, h, length-updated rs i (with_child uses))) ∙ at-updated-other rs i k (with_child uses) apart

    ready : (at rs k).child < length (at rs (at rs k).parent).children
        → is_ready (at (now ++ new ∷ []) (at rs k).parent).children (at rs k).child ≡ is_ready (at rs (at rs k).parent).children (at rs k).child
    ready before = ap (λ (cs : List Sibling). is_ready cs (at rs k).child) (field-more (λ r. r.children) now new none (at rs k).parent) ∙ elim (cases_eq (at rs k).parent i) [
      | inl is ↦ ap (λ q. is_ready (at now q).children (at rs k).child) is ∙ ap (λ (r : Region). is_ready r.children (at rs k).child) (at-updated rs i (with_child uses) within)
          ∙ is_ready-behind (at rs i).children _ (at rs k).child (omega (arith, before, ap (λ q. length (at rs q).children) is)) ∙ sym (ap (λ q. is_ready (at rs q).children (at rs k).child) is)
      | inr other ↦ ap (λ (r : Region). is_ready r.children (at rs k).child) (at-updated-other rs i (at rs k).parent (with_child uses) other)
    ]

    by : (n : ℕ) → k ≡ n → is_claimable (now ++ new ∷ []) k ≡ is_claimable rs k
    by zero e =
        ap (λ n. is_claimable (now ++ new ∷ []) n) e ∙ same-root rs (now ++ new ∷ []) (ap (at (now ++ new ∷ [])) (sym e) ∙ here ∙ ap (at rs) e) ∙ sym (ap (is_claimable rs) e)
    by (suc n) e = same-claim rs (now ++ new ∷ []) k here (ready (known (omega (arith, e))))

-- the root's task asks no table
pub claimable-root : (rs : List Region) (p c k : ℕ) → k ≢ p → k ≡ 0 → is_claimable (updated rs p (without c)) k ≡ is_claimable rs k
claimable-root rs p c k apart is =
    ap (is_claimable (updated rs p (without c))) is
    ∙ same-root rs (updated rs p (without c)) (at-updated-other rs p 0 (without c) (λ e. apart (is ∙ e)))
    ∙ sym (ap (is_claimable rs) is)

-- ---- who is claimable, as the code finds it

-- ---- regions by their numbers

pub at-here : (tasks : List Region) (i : ℕ) (t : Region) → i < length tasks → t ≡ get_or tasks i t → at tasks i ≡ t
at-here [] i t within is = absurd (omega (arith, within))
at-here (x ∷ tasks) zero t within is = sym is
at-here (x ∷ tasks) (suc i) t within is = at-here tasks i t (omega (arith, within)) is

-- the place that a record tells is its task's
pub place-told : (tasks : List Region) (i : ℕ) (t : Region) → i < length tasks → t ≡ get_or tasks i t → (place : ℕ × ℕ) → place ≡ (t.parent, t.child) → (place.0 ≡ (at tasks i).parent) × (place.1 ≡ (at tasks i).child)
place-told tasks i t within here place is = subst (λ (r : Region). (place.0 ≡ r.parent) × (place.1 ≡ r.child)) (sym (at-here tasks i t within here)) (ap (λ (q : ℕ × ℕ). q.0) is, ap (λ (q : ℕ × ℕ). q.1) is)

-- ---- ready

-- whether an earlier sibling lets one with these uses run
abbrev lets_run : List Use → Sibling → Bool
lets_run later earlier = earlier.finished || not (depends_on earlier.uses later)

-- the test tells that a child is ready
pub ready-from : (siblings : List Sibling) (child : ℕ) → is_ready siblings child ≡ true → IsReady siblings child
ready-from siblings child passed = by (slice_get siblings child) refl
  where
    told : (finished on : Bool) → (finished || not on) ≡ true → on ≡ true → finished ≡ true
    told true on passed here = refl
    told false true passed here = passed
    told false false passed here = here

    by : (found : Option Sibling) → slice_get siblings child ≡ found → IsReady siblings child
    by None none = absurd (true≢false (sym passed ∙ rw none refl))
    by (Some itself) known =
        let same : is_ready siblings child ≡ list_all (lets_run itself.uses) (take child siblings) = rw known refl in
        let all = AllPass-from_list_all (lets_run itself.uses) (take child siblings) (sym same ∙ passed) in
        IsReady-from_All siblings child itself known (λ k d within depends.
        let earlier = get_or (take child siblings) k d in
        told earlier.finished (depends_on earlier.uses itself.uses) (all k d within) (depends_on-from_DependsOn earlier.uses itself.uses depends))

-- three tests in a row
pub all-three : (idle begun free : Bool) → idle ≡ true → begun ≡ true → free ≡ (idle && (begun && free))
all-three true true free a b = refl
all-three true false free a b = absurd (true≢false (sym b))
all-three false begun free a b = absurd (true≢false (sym a))

pub zero-or : (i : ℕ) (b : Bool) → i ≡ 0 → ((i == 0) || b) ≡ true
zero-or i b h = ap (λ n. (n == 0) || b) h

pub other-or : (i : ℕ) (b : Bool) → (i ≡ 0 → ⊥) → ((i == 0) || b) ≡ b
other-or i b h = let none : (i == 0) ≡ false = grind (arith, nat_tests) in ap (λ t. t || b) none

-- ---- who is picked is claimable

pub picked-claimable : (rs : List Region) (pick i : ℕ) → picked_at (claimable_of rs) pick ≡ Some i → (i < length rs) × (is_claimable rs i ≡ true)
picked-claimable rs pick i h = by (claimable_of rs) refl h
  where
    by : (xs : List ℕ) → claimable_of rs ≡ xs → picked_at xs pick ≡ Some i → (i < length rs) × (is_claimable rs i ≡ true)
    by [] e h = cc
    by (x ∷ xs) e h = passing-found (is_claimable rs) (length rs) (pick % length (x ∷ xs)) i (ap (λ l. slice_get l (pick % length (x ∷ xs))) e ∙ h)
