-- A task goes on where neither a wait nor a group's end holds it.
use Rattle.std.proofs.Common.{◌≡◌, ℕ, ◌<◌, Bool, true, false, not, ◌&&◌, ◌||◌, List, [], ◌∷◌, length, refl, sym, ap, subst, ◌∙◌, arith, true≢false, None, Some, slice_get, count_by, ◌==◌}
use Rattle.ot_job.proofs.Common.{list_any, nat_tests, Body, End, Next, updated, Sibling, is_unfinished, is_unfinished_in, is_in, and_left, and_right, Open, IsFineAt, AwaitsAll, unfinished_unawaited, Region, at, IsRootOrReady, IsSoundRegion, IsSoundRegions, groups_passed, awake, is_held, is_let_go, end_lets_go, not_true}
use Rattle.ot_job.proofs.CountingLemmas.{any-counted}
use Rattle.ot_job.proofs.PlaceLemmas.{at-fewer, at-leave, placed-leave, kid-none}
use Rattle.ot_job.proofs.AwaitsLemmas.{awaits-fewer, awaits-leave, let-go}
use Rattle.ot_job.proofs.ChangedLemmas.{sound-changed, placed-as}

-- none passes where none is counted
pub none-counted : (p : Sibling → Bool) (kids : List Sibling) → count_by p kids ≡ 0 → list_any p kids ≡ false
none-counted p kids h = sym (any-counted p kids) ∙ ap (λ n. not (n == 0)) h

pub is-zero : (n : ℕ) → (n == 0) ≡ true → n ≡ 0
is-zero n h = grind (arith, nat_tests)

module _ (r : Region) (p : IsSoundRegion r) where
  pub placed-calm : is_held r.waiting r.children ≡ false → IsSoundRegion (record r { waiting = None })
  placed-calm none =
      placed-as r p r.rest None r.ended
      (at-fewer r.own (unfinished_unawaited None r.children) (unfinished_unawaited r.waiting r.children) r.rest r.groups (λ test h. let-go r.waiting r.children test none h) p.fine) p.inside p.tasks
      (λ uses own. awaits-fewer (unfinished_unawaited None r.children) (unfinished_unawaited r.waiting r.children) r.rest r.groups (λ test h. let-go r.waiting r.children test none h) (p.awaits uses own)) p.over p.shut

-- none that has not finished was created in the group
not-in : (g : ℕ) (kids : List Sibling) → list_any (is_unfinished_in g) kids ≡ false → (k : ℕ) (s : Sibling) → slice_get kids k ≡ Some s → s.finished ≡ false → is_in g s ≡ false
not-in g kids none k s there alive = kid-none kids (is_in g) k s none there alive

-- they are all created elsewhere
elsewhere : (g : ℕ) (kids : List Sibling) → list_any (is_unfinished_in g) kids ≡ false → (test : Sibling → Bool)
    → list_any (λ s. is_unfinished s && test s) kids ≡ true → list_any (λ s. is_unfinished s && (not (is_in g s) && test s)) kids ≡ true
elsewhere g [] none test h = h
elsewhere g (x ∷ kids) none test h =
    bits (is_unfinished x) (is_in g x) (test x) _ _ _ none h (λ n l. elsewhere g kids n test l)
  where
    bits : (u i t n l m : Bool) → ((u && i) || n) ≡ false → ((u && t) || l) ≡ true → (n ≡ false → l ≡ true → m ≡ true) → ((u && (not i && t)) || m) ≡ true
    bits true true t n l m a b f = absurd (true≢false a)
    bits true false true n l m a b f = refl
    bits true false false n l m a b f = f a b
    bits false i t n l m a b f = f a b

-- at a group's end that lets the task go on, none of its unfinished children was created in the group
pub none-in-group : (r : Region) (o : Open) (os : List Open) → is_let_go r ≡ true → r.rest ≡ End → r.groups ≡ o ∷ os
    → (k : ℕ) (s : Sibling) → slice_get r.children k ≡ Some s → s.finished ≡ false → is_in o.group s ≡ false
none-in-group r o os go was here = not-in o.group r.children (none-counted (is_unfinished_in o.group) r.children (is-zero _ ends))
  where
    ends : (count_by (is_unfinished_in o.group) r.children == 0) ≡ true
    ends = sym (ap (λ b. end_lets_go b r.groups r.children) was ∙ ap (λ gs. end_lets_go End gs r.children) here)
        ∙ and_right (not (is_held r.waiting r.children)) (end_lets_go r.rest r.groups r.children) go

module _ (r : Region) (p : IsSoundRegion r) (calm : r.waiting ≡ None) where
  pub placed-passed : (rest : Body) (gs : List Open) → r.rest ≡ rest → r.groups ≡ gs → end_lets_go rest gs r.children ≡ true
      → IsSoundRegion (record r { rest = (groups_passed rest gs).rest; groups = (groups_passed rest gs).groups })
  placed-passed (Next x b) gs was here go = subst IsSoundRegion (ap (λ b. record r { rest = b }) was ∙ ap (λ g. record r { rest = Next x b; groups = g }) here) p
  placed-passed End [] was here go = subst IsSoundRegion (ap (λ b. record r { rest = b }) was ∙ ap (λ g. record r { rest = End; groups = g }) here) p
  placed-passed End (o ∷ os) was here go =
      let none = none-counted (is_unfinished_in o.group) r.children (is-zero _ go) in
      placed-leave r p o os was here (not-in o.group r.children none)
      (subst (λ w. IsFineAt r.own (unfinished_unawaited w r.children) o.behind os) (sym calm)
      (at-leave r.own (unfinished_unawaited None r.children) o os (λ test h. elsewhere o.group r.children none test h)
      (subst (λ gs. IsFineAt r.own (unfinished_unawaited None r.children) End gs) here
      (subst (λ b. IsFineAt r.own (unfinished_unawaited None r.children) b r.groups) was
      (subst (λ w. IsFineAt r.own (unfinished_unawaited w r.children) r.rest r.groups) calm p.fine)))))
      (λ uses own.
      subst (λ w. AwaitsAll (unfinished_unawaited w r.children) o.behind os) (sym calm)
      (awaits-leave (unfinished_unawaited None r.children) o os (λ test h. elsewhere o.group r.children none test h)
      (subst (λ gs. AwaitsAll (unfinished_unawaited None r.children) End gs) here
      (subst (λ b. AwaitsAll (unfinished_unawaited None r.children) b r.groups) was
      (subst (λ w. AwaitsAll (unfinished_unawaited w r.children) r.rest r.groups) calm (p.awaits uses own))))))

pub placed-awake : (r : Region) → IsSoundRegion r → is_let_go r ≡ true → IsSoundRegion (awake r)
placed-awake r p go =
    placed-passed (record r { waiting = None })
    (placed-calm r p (not_true (is_held r.waiting r.children) (and_left (not (is_held r.waiting r.children)) (end_lets_go r.rest r.groups r.children) go)))
    refl r.rest r.groups refl refl (and_right (not (is_held r.waiting r.children)) (end_lets_go r.rest r.groups r.children) go)

-- who has a group open behind the end of another had one open before it
open-before : (P : Type 0) (rest : Body) (gs : List Open) → ((o : Open) (os : List Open) → gs ≡ o ∷ os → P) → (o : Open) (os : List Open) → (groups_passed rest gs).groups ≡ o ∷ os → P
open-before P End [] f o os is = f o os is
open-before P End (p ∷ ps) f o os is = f p ps refl
open-before P (Next x b) gs f o os is = f o os is

-- a claim leaves a job sound
pub sound-awake : (rs : List Region) (i : ℕ) → i < length rs → IsSoundRegions rs → is_let_go (at rs i) ≡ true → IsSoundRegions (updated rs i awake)
sound-awake rs i h s go =
    sound-changed rs i awake h (record { parent = λ r. refl; child = λ r. refl; own = λ r. refl; children = λ r. refl; ended = λ r. refl }) s (placed-awake (at rs i) (s.placed i) go)
    (open-before (IsRootOrReady rs i) (at rs i).rest (at rs i).groups (s.entered i))
