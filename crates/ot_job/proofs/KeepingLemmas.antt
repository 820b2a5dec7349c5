-- The roster tells of the tasks rightly, through each change of the regions.
use Rattle.std.proofs.Common.{◌≡◌, ◌≢◌, ◌<◌, ◌+◌, ℕ, zero, suc, Bool, true, false, List, [], ◌∷◌, ◌++◌, length, refl, sym, ap, subst, ◌∙◌, inl, inr, arith, is_some}
use Rattle.ot_job.proofs.Common.{cases_eq, cases_lt, cases_Bool, length-append, updated, length-updated, Use, has, with_finished, LetsTheSame, Body, End, Next, Region, root_region, with_child, new_region, children_at, region_stepped, control_executed, without, tasks_next, at, is_claimable, IsRefreshed, AreKept, member, members, Kept, Tells, told_put, with_kid, with_member, put-here, put-other, tells-same}
use Rattle.ot_job_roster.specs.Members.{IsAlone}
use Rattle.ot_job.proofs.StepLemmas.{stepped-field, stepped-children, stepped-running, executed-some, children-here}
use Rattle.ot_job.proofs.ClaimableLemmas.{claimable-busy, claimable-other, claimable-told, claimable-created, claimable-root}
use Rattle.ot_job.proofs.KeptLemmas.{at-updated, at-updated-other, at-more, at-new}
use Rattle.ot_job.proofs.SoundLemmas.{at-past}
use Rattle.ot_job.proofs.EachLemmas.{field-kept}

-- what is put in one place is what stands there, and elsewhere nothing changed
put-is : {A : Type 0} (f g : ℕ → A) (i : ℕ) (x : A) → x ≡ g i → ((k : ℕ) → k ≢ i → f k ≡ g k) → (k : ℕ) → told_put f i x k ≡ g k
put-is f g i x here others k = elim (cases_eq k i) [
  | inl is ↦ subst (λ j. told_put f i x j ≡ g j) (sym is) (put-here f i x ∙ here)
  | inr apart ↦ put-other f i x k apart ∙ others k apart
]

-- ---- one region changes

member-put : (f : Region → Region) (rs : List Region) (i : ℕ) → i < length rs → (k : ℕ) → told_put (members rs) i (member (f (at rs i))) k ≡ members (updated rs i f) k
member-put f rs i within =
    put-is (members rs) (members (updated rs i f)) i (member (f (at rs i))) (sym (ap member (at-updated rs i f within))) (λ k apart. sym (ap member (at-updated-other rs i k f apart)))

module _ (f : Region → Region) (many : (r : Region) → (f r).children ≡ r.children) (rs : List Region) (i : ℕ) (within : i < length rs) (r : Kept) where
  -- its member does as it did, and whether it is claimable is told
  pub kept-updated : (b : Bool) → b ≡ is_claimable (updated rs i f) i → Tells (length rs) (told_put (members rs) i (member (f (at rs i)))) (told_put (is_claimable rs) i b) r → AreKept (updated rs i f) r
  kept-updated b is tells =
      subst (λ n. Tells n (members (updated rs i f)) (is_claimable (updated rs i f)) r) (sym (length-updated rs i f))
      (tells-same (length rs) (told_put (members rs) i (member (f (at rs i)))) (members (updated rs i f)) (told_put (is_claimable rs) i b) (is_claimable (updated rs i f)) r (member-put f rs i within)
      (λ k h. put-is (is_claimable rs) (is_claimable (updated rs i f)) i b is (λ k apart. sym (claimable-other f many rs i k apart)) k) tells)

  pub now-busy : is_some (f (at rs i)).running ≡ true → is_claimable (updated rs i f) i ≡ false
  now-busy busy = claimable-busy (updated rs i f) i (ap (λ (r : Region). is_some r.running) (at-updated rs i f within) ∙ busy)

  -- its piece is out before and after
  pub kept-still : is_some (at rs i).running ≡ true → is_some (f (at rs i)).running ≡ true → Tells (length rs) (told_put (members rs) i (member (f (at rs i)))) (is_claimable rs) r → AreKept (updated rs i f) r
  kept-still was busy tells =
      kept-updated false (sym (now-busy busy)) (tells-same (length rs) (told_put (members rs) i (member (f (at rs i)))) (told_put (members rs) i (member (f (at rs i)))) (is_claimable rs) (told_put (is_claimable rs) i false) r (λ k. refl)
      (λ k h. sym (put-is (is_claimable rs) (is_claimable rs) i false (sym (claimable-busy rs i was)) (λ k apart. refl) k)) tells)

-- a control statement is executed, and no task is created
pub kept-stepped : (taken : Bool) (g : ℕ) (rs : List Region) (i : ℕ) (r : Kept) → i < length rs → is_some (at rs i).running ≡ true → AreKept rs r → AreKept (updated rs i (region_stepped taken g)) r
kept-stepped taken g rs i r within out old =
    kept-still (region_stepped taken g) (stepped-children taken g) rs i within r out (ap is_some (stepped-running taken g (at rs i)) ∙ out)
    (tells-same (length rs) (members rs) (told_put (members rs) i (member (region_stepped taken g (at rs i)))) (is_claimable rs) (is_claimable rs) r
    (λ k. sym (put-is (members rs) (members rs) i (member (region_stepped taken g (at rs i))) (stepped-field member (λ r rest groups waiting. refl) taken g (at rs i)) (λ k apart. refl) k)) (λ k h. refl) old)

-- ---- a child finishes, and whether its parent's task and those that waited for it are claimable is looked at

module _ (rs : List Region) (p c : ℕ) (r : Kept) (old : AreKept rs r) (tasks : List Region) (is : tasks ≡ updated rs p (without c)) where
  pub long-told : length tasks ≡ length rs
  long-told = ap length is ∙ length-updated rs p (without c)

  pub member-told : (k : ℕ) → members rs k ≡ members tasks k
  member-told k = sym (ap (λ (l : List Region). members l k) is ∙ field-kept member (without c) (λ r. ap (λ n. record (member r) { kids = n }) (length-updated r.children c (λ s. record s { finished = true }))) rs p k)

  pub tells-told : Tells (length tasks) (members tasks) (is_claimable rs) r
  tells-told = subst (λ n. Tells n (members tasks) (is_claimable rs) r) (sym long-told) (tells-same (length rs) (members rs) (members tasks) (is_claimable rs) (is_claimable rs) r member-told (λ k h. refl) old)

  module _ (waiters : List ℕ) (others : LetsTheSame waiters (at rs p).children (with_finished (at rs p).children c)) (b : Bool) (parent : b ≡ is_claimable tasks p) (new : Kept) (now : IsRefreshed tasks p waiters (told_put (is_claimable rs) p b) new) where
    same : (k : ℕ) → k ≢ p → is_claimable tasks k ≡ is_claimable rs k → now.test k ≡ is_claimable tasks k
    same k apart kept = now.others k (put-other (is_claimable rs) p b k apart ∙ sym kept)

    before : (k : ℕ) → k ≢ p → ((at rs k).parent ≡ p → has (at rs k).child waiters ≡ false) → now.test k ≡ is_claimable tasks k
    before k apart none = same k apart (ap (λ (l : List Region). is_claimable l k) is ∙ claimable-told rs p c k apart (λ up. others (at rs k).child (none up)))

    right : (k : ℕ) → k < length tasks → now.test k ≡ is_claimable tasks k
    right k h = elim (cases_eq k p) [
      | inl here ↦ now.others k (ap (told_put (is_claimable rs) p b) here ∙ put-here (is_claimable rs) p b ∙ parent ∙ sym (ap (is_claimable tasks) here))
      | inr apart ↦ elim (cases_eq (at rs k).parent p) [
        | inl up ↦ elim (cases_eq k 0) [
          | inl root ↦ same k apart (ap (λ (l : List Region). is_claimable l k) is ∙ claimable-root rs p c k apart root)
          | inr child ↦ elim (cases_Bool (has (at rs k).child waiters)) [
            | inl waits ↦ now.told k (omega (arith, child)) h (sym (ap (λ m. m.parent) (member-told k)) ∙ up) (ap (λ m. has m.child waiters) (sym (member-told k)) ∙ waits)
            | inr none ↦ before k apart (λ e. none)
          ]
        ]
        | inr away ↦ before k apart (λ up. absurd (away up))
      ]
    ]

    pub kept-told : AreKept tasks new
    kept-told = tells-same (length tasks) (members tasks) (members tasks) now.test (is_claimable tasks) new (λ k. refl) right now.tells

-- ---- a child is created, and whether its task is claimable is looked at

module _ (taken : Bool) (g i : ℕ) (rs : List Region) (within : i < length rs) (some : tasks_next (at rs i).rest ≡ 0 → ⊥) (out : is_some (at rs i).running ≡ true) (tasks : List Region) (is : tasks ≡ control_executed taken g i rs) where
  abbrev n : ℕ
  n = length rs

  abbrev rs1 : List Region
  rs1 = updated rs i (region_stepped taken g)

  abbrev noted : List Use × Body → List Region
  noted d = updated rs1 i (with_child d.0)

  abbrev new : List Use × Body → Region
  new d = new_region i (children_at rs1 i) d.0 d.1

  child : (d : List Use × Body) × (tasks ≡ noted d ++ new d ∷ [])
  child = let (d, made) = executed-some taken g i rs some in (d, is ∙ made)

  long-noted : (d : List Use × Body) → length (noted d) ≡ n
  long-noted d = length-updated rs1 i (with_child d.0) ∙ length-updated rs i (region_stepped taken g)

  pub long-tasks : length tasks ≡ n + 1
  long-tasks = omega (arith, ap length child.1, length-append (noted child.0) (new child.0 ∷ []), long-noted child.0)

  stepped-is : member (region_stepped taken g (at rs i)) ≡ member (at rs i)
  stepped-is = stepped-field member (λ r rest groups waiting. refl) taken g (at rs i)

  at-noted : (d : List Use × Body) → at (noted d) i ≡ with_child d.0 (region_stepped taken g (at rs i))
  at-noted d = at-updated rs1 i (with_child d.0) (omega (arith, within, length-updated rs i (region_stepped taken g))) ∙ ap (with_child d.0) (at-updated rs i (region_stepped taken g) within)

  -- its parent, itself, and the others
  parent-now : (d : List Use × Body) → members (noted d ++ new d ∷ []) i ≡ with_kid (members rs i)
  parent-now d =
      ap member (at-more (noted d) (new d) i (omega (arith, within, long-noted d)) ∙ at-noted d)
      ∙ ap (λ m. record (member (region_stepped taken g (at rs i))) { kids = m }) (length-append (region_stepped taken g (at rs i)).children _)
      ∙ ap with_kid stepped-is

  fresh-now : (d : List Use × Body) → members (noted d ++ new d ∷ []) n ≡ record { parent = i; child = (members rs i).kids; kids = 0; out = false; ended = false }
  fresh-now d =
      ap (λ k. members (noted d ++ new d ∷ []) k) (sym (long-noted d)) ∙ ap member (at-new (noted d) (new d))
      ∙ ap (λ m. record { parent = i; child = m; kids = 0; out = false; ended = false }) (children-here rs1 i ∙ field-kept (λ r. length r.children) (region_stepped taken g) (λ r. ap length (stepped-children taken g r)) rs i i)

  other-now : (d : List Use × Body) (k : ℕ) → k ≢ n → k ≢ i → members (noted d ++ new d ∷ []) k ≡ members rs k
  other-now d k young apart = elim (cases_lt k n) [
    | inl below ↦ ap member (at-more (noted d) (new d) k (omega (arith, below, long-noted d)) ∙ at-updated-other rs1 i k (with_child d.0) apart ∙ at-updated-other rs i k (region_stepped taken g) apart)
    | inr past ↦ ap member (at-past (noted d ++ new d ∷ []) k (omega (arith, past, young, length-append (noted d) (new d ∷ []), long-noted d)) ∙ sym (at-past rs k past))
  ]

  members-now : (d : List Use × Body) (k : ℕ) → with_member n i (members rs) k ≡ members (noted d ++ new d ∷ []) k
  members-now d = put-is (told_put (members rs) i (with_kid (members rs i))) (members (noted d ++ new d ∷ [])) n _ (sym (fresh-now d)) (λ k young. elim (cases_eq k i) [
    | inl here ↦ subst (λ j. told_put (members rs) i (with_kid (members rs i)) j ≡ members (noted d ++ new d ∷ []) j) (sym here) (put-here (members rs) i (with_kid (members rs i)) ∙ sym (parent-now d))
    | inr apart ↦ put-other (members rs) i (with_kid (members rs i)) k apart ∙ sym (other-now d k young apart)
  ])

  -- who was claimable is, and no other of them
  claimable-now : (d : List Use × Body) (r : Kept) → AreKept rs r → (k : ℕ) → k < n → is_claimable rs k ≡ is_claimable (noted d ++ new d ∷ []) k
  claimable-now d r old k h = elim (cases_eq k i) [
    | inl here ↦ subst (λ j. is_claimable rs j ≡ is_claimable (noted d ++ new d ∷ []) j) (sym here)
        (claimable-busy rs i out ∙ sym (claimable-busy (noted d ++ new d ∷ []) i (ap (λ m. m.out) (parent-now d) ∙ out)))
    | inr apart ↦ sym (claimable-created rs1 i d.0 (new d) (omega (arith, within, long1)) refl k (omega (arith, h, long1)) apart (λ pos.
        omega (arith, old.numbered.placed k pos h, ap (λ m. m.child) (same k), ap (λ m. m.kids) (same (at rs1 k).parent), ap (λ p. (members rs p).kids) (ap (λ m. m.parent) (same k))))
        ∙ claimable-other (region_stepped taken g) (stepped-children taken g) rs i k apart)
  ]
    where
      long1 : length rs1 ≡ n
      long1 = length-updated rs i (region_stepped taken g)

      same : (k : ℕ) → members rs1 k ≡ members rs k
      same = field-kept member (region_stepped taken g) (stepped-field member (λ r rest groups waiting. refl) taken g) rs i

  pub kept-created : (r now : Kept) → AreKept rs r → (b : Bool) → b ≡ is_claimable tasks n → Tells (n + 1) (with_member n i (members rs)) (told_put (is_claimable rs) n b) now → AreKept tasks now
  kept-created r now old b fresh tells =
      let (d, made) = child in
      subst (λ (l : List Region). AreKept l now) (sym made) (subst (λ m. Tells m (members (noted d ++ new d ∷ [])) (is_claimable (noted d ++ new d ∷ [])) now) (sym (sym (ap length made) ∙ long-tasks))
      (tells-same (n + 1) (with_member n i (members rs)) (members (noted d ++ new d ∷ [])) (told_put (is_claimable rs) n b) (is_claimable (noted d ++ new d ∷ [])) now (members-now d) (λ k h. elim (cases_eq k n) [
        | inl last ↦ subst (λ j. told_put (is_claimable rs) n b j ≡ is_claimable (noted d ++ new d ∷ []) j) (sym last) (put-here (is_claimable rs) n b ∙ fresh ∙ ap (λ (l : List Region). is_claimable l n) made)
        | inr young ↦ put-other (is_claimable rs) n b k young ∙ claimable-now d r old k (omega (arith, h, young))
      ]) tells))

-- ---- the root alone

pub root-alone : (body : Body) → IsAlone (members (root_region body ∷ [])) (is_claimable (root_region body ∷ []))
root-alone body = record { kids = kids; idle = refl; alive = refl; free = free body }
  where
    kids : (p : ℕ) → (members (root_region body ∷ []) p).kids ≡ 0
    kids zero = refl
    kids (suc p) = refl

    free : (body : Body) → is_claimable (root_region body ∷ []) 0 ≡ true
    free End = refl
    free (Next x rest) = refl
