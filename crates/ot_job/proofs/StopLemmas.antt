-- A piece comes back: a settle is first the piece and then the control statement.
use Rattle.std.proofs.Common.{◌≡◌, ℕ, ◌<◌, ◌≤◌, true, false, List, length, refl, sym, ap, subst, ◌∙◌, ◌⊎◌, inl, inr, true≢false, None, Some, slice_get, zero, suc, Bool, [], ◌∷◌, ◌++◌, arith, Option}
use Rattle.ot_job.proofs.Common.{cases_lt, E, Set, Fold, If, Body, End, Next, append, NamedIn, updated, Use, Sibling, Declared, allows, clashes, EachTouch, EachTask, Agree, ConflictsWithChild, touch-weaker, harmless, harmless_if, clash_free, Open, todo, openings_of, children_of, IsFineAt, AwaitsAll, unfinished_unawaited, Kids, IsHarmless, AreAssigns, Region, with_rest, at, parent_of, ended_at, may_at, IsRootOrReady, LetsAll, IsSoundRegion, IsSoundRegions, map-append, length-map, length-updated, updated-updated, with_child, new_region, with_created, region_stepped, stepped_from, control_executed, next_task, rest_at, children_at, region_stopped, whole_region, wholes}
use Rattle.ot_job.proofs.PlaceLemmas.{at-set, at-fold, kid-none}
use Rattle.ot_job.proofs.AwaitsLemmas.{awaits-piece}
use Rattle.ot_job.proofs.Kept.{MayRun}
use Rattle.ot_job.proofs.KeptLemmas.{todo-append, todo-next, at-updated}
use Rattle.ot_job.proofs.SoundLemmas.{at-past}
use Rattle.ot_job.proofs.ChangedLemmas.{sound-changed, placed-as}
use Rattle.ot_job.proofs.RightsLemmas.{fine-innermost, named-half}
use Rattle.ot_job.proofs.StepLemmas.{rest-here}

-- ---- a piece comes back: its assigns are behind the place

fine-piece : (own : Declared) (kids : Kids) (piece rest : Body) (gs : List Open) → AreAssigns piece → IsFineAt own kids (append piece rest) gs → IsFineAt own kids rest gs
fine-piece own kids End rest gs only f = f
fine-piece own kids (Next (Set c e) more) rest gs only f = fine-piece own kids more rest gs only (at-set own kids c e (append more rest) gs f)
fine-piece own kids (Next (Fold op c e) more) rest gs only f = fine-piece own kids more rest gs only (at-fold own kids op c e (append more rest) gs f)
fine-piece own kids (Next x more) rest gs only f = absurd only

touch-front : (P : Use → Type 0) (a b : Body) → EachTouch P (append a b) → EachTouch P a
touch-front P End b t = tt
touch-front P (Next x a) b t = (t.0, touch-front P a b t.1)

touch-back : (P : Use → Type 0) (a b : Body) → EachTouch P (append a b) → EachTouch P b
touch-back P End b t = t
touch-back P (Next x a) b t = touch-back P a b t.1

task-back : (P : List Use → Body → Type 0) (a b : Body) → EachTask P (append a b) → EachTask P b
task-back P End b t = t
task-back P (Next x a) b t = task-back P a b t.1

module _ (r : Region) (p : IsSoundRegion r) (piece rest : Body) (was : r.rest ≡ append piece rest) (only : AreAssigns piece) (alive : r.ended ≡ false) where
  touches-all : EachTouch (λ u. allows r.own u ≡ true) (append piece (todo rest r.groups))
  touches-all = subst (EachTouch (λ u. allows r.own u ≡ true)) (ap (λ b. todo b r.groups) was ∙ todo-append piece rest r.groups) p.inside

  pub placed-piece : IsSoundRegion (with_rest rest r)
  placed-piece =
      placed-as r p rest r.waiting r.ended
      (fine-piece r.own (unfinished_unawaited r.waiting r.children) piece rest r.groups only (subst (λ b. IsFineAt r.own (unfinished_unawaited r.waiting r.children) b r.groups) was p.fine))
      (touch-back (λ u. allows r.own u ≡ true) piece (todo rest r.groups) touches-all)
      (task-back LetsAll piece (todo rest r.groups) (subst (EachTask LetsAll) (ap (λ b. todo b r.groups) was ∙ todo-append piece rest r.groups) p.tasks))
      (λ uses own. awaits-piece (unfinished_unawaited r.waiting r.children) piece rest r.groups only (subst (λ b. AwaitsAll (unfinished_unawaited r.waiting r.children) b r.groups) was (p.awaits uses own)))
      (λ e. absurd (true≢false (sym e ∙ alive))) p.shut

  -- it touches only what the body may, and nothing that a child uses otherwise
  pub piece-own : EachTouch (λ u. allows r.own u ≡ true) piece
  piece-own = touch-front (λ u. allows r.own u ≡ true) piece (todo rest r.groups) touches-all

  pub piece-harmless : (lens : List ℕ) → NamedIn lens r.rest → EachTouch (IsHarmless r.own (openings_of r.groups) (children_of (unfinished_unawaited r.waiting r.children))) piece
  piece-harmless lens named =
      harmless lens r.own (openings_of r.groups) (children_of (unfinished_unawaited r.waiting r.children)) piece rest only (named-half lens piece rest (subst (NamedIn lens) was named))
      (fine-innermost r.own (unfinished_unawaited r.waiting r.children) (append piece rest) r.groups (subst (λ b. IsFineAt r.own (unfinished_unawaited r.waiting r.children) b r.groups) was p.fine))

-- touches that are no offence agree with all that an unfinished child may do
harmless-free : (r : Region) (piece : Body) → r.waiting ≡ None → EachTouch (IsHarmless r.own (openings_of r.groups) (children_of (unfinished_unawaited r.waiting r.children))) piece
    → (k : ℕ) (s : Sibling) → slice_get r.children k ≡ Some s → s.finished ≡ false → EachTouch (λ u. (v : Use) → allows (Some s.uses) v ≡ true → Agree u v) piece
harmless-free r piece calm safe k s there alive =
    touch-weaker (IsHarmless r.own (openings_of r.groups) (children_of (unfinished_unawaited r.waiting r.children))) (λ u. (v : Use) → allows (Some s.uses) v ≡ true → Agree u v) piece
    (λ u safe v may. clash_free u v s.uses
    (kid-none r.children (λ x. clashes u x.uses) k s (subst (λ w. unfinished_unawaited w r.children (λ x. clashes u x.uses) ≡ false) calm (safe ConflictsWithChild)) there alive) may) safe

-- a piece whose touches are no offence may run
module _ (ws : List Region) (s : IsSoundRegions ws) (i : ℕ) (piece : Body) (alive : (at ws i).ended ≡ false) (own : EachTouch (λ u. allows (at ws i).own u ≡ true) piece)
    (safe : EachTouch (IsHarmless (at ws i).own (openings_of (at ws i).groups) (children_of (unfinished_unawaited (at ws i).waiting (at ws i).children))) piece)
    (calm : (at ws i).waiting ≡ None) (begun : IsRootOrReady ws i) where
  pub may-run-by : MayRun (parent_of ws) (may_at ws) (ended_at ws) (IsRootOrReady ws) i piece
  may-run-by = record {
    started = begun;
    alive = alive;
    own = own;
    free = λ c up pos unended. by c up pos unended (cases_lt c (length ws));
  }
    where
      by : (c : ℕ) → parent_of ws c ≡ i → 0 < c → ended_at ws c ≡ false → (c < length ws) ⊎ (length ws ≤ c) → EachTouch (λ u. (v : Use) → may_at ws c v → Agree u v) piece
      by c up pos unended (inr past) = absurd (true≢false (sym (ap (λ (r : Region). r.ended) (at-past ws c past)) ∙ unended))
      by c up pos unended (inl below) =
          let kin = s.kin c pos below in
          let there : slice_get (at ws i).children (at ws c).child ≡ Some kin.entry = sym (ap (λ n. slice_get (at ws n).children (at ws c).child) up) ∙ kin.there in
          touch-weaker (λ u. (v : Use) → allows (Some kin.entry.uses) v ≡ true → Agree u v) (λ u. (v : Use) → may_at ws c v → Agree u v) piece
          (λ u f v may. f v (ap (λ (o : Declared). allows o v) (sym kin.uses) ∙ may))
          (harmless-free (at ws i) piece calm safe (at ws c).child kin.entry there (kin.finished ∙ unended))

module _ (ws : List Region) (s : IsSoundRegions ws) (i : ℕ) (h : i < length ws) (piece rest : Body) (was : (at ws i).rest ≡ append piece rest) (only : AreAssigns piece) (alive : (at ws i).ended ≡ false) where
  -- the regions once the piece is behind
  pub sound-piece : IsSoundRegions (updated ws i (with_rest rest))
  sound-piece = sound-changed ws i (with_rest rest) h (record { parent = λ r. refl; child = λ r. refl; own = λ r. refl; children = λ r. refl; ended = λ r. refl }) s
      (placed-piece (at ws i) (s.placed i) piece rest was only alive) (s.entered i)

  -- the piece may run out of order
  pub may-run : (lens : List ℕ) → NamedIn lens (at ws i).rest → (at ws i).waiting ≡ None → IsRootOrReady ws i → MayRun (parent_of ws) (may_at ws) (ended_at ws) (IsRootOrReady ws) i piece
  may-run lens named calm begun =
      may-run-by ws s i piece alive (piece-own (at ws i) (s.placed i) piece rest was only alive) (piece-harmless (at ws i) (s.placed i) piece rest was only alive lens named) calm begun

-- a condition may be evaluated out of order
module _ (ws : List Region) (s : IsSoundRegions ws) (i : ℕ) (e : E) (a b rest : Body) (was : (at ws i).rest ≡ Next (If e a b) rest) (alive : (at ws i).ended ≡ false) where
  pub may-test : (lens : List ℕ) → NamedIn lens (at ws i).rest → (at ws i).waiting ≡ None → IsRootOrReady ws i
      → MayRun (parent_of ws) (may_at ws) (ended_at ws) (IsRootOrReady ws) i (Next (If e End End) End)
  may-test lens named calm begun = may-run-by ws s i (Next (If e End End) End) alive own safe calm begun
    where
      own : EachTouch (λ u. allows (at ws i).own u ≡ true) (Next (If e End End) End)
      own =
          let t = subst (EachTouch (λ u. allows (at ws i).own u ≡ true)) (ap (λ x. todo x (at ws i).groups) was ∙ todo-next (If e a b) rest (at ws i).groups) (s.placed i).inside in
          ((t.0.0, tt, tt), tt)

      safe : EachTouch (IsHarmless (at ws i).own (openings_of (at ws i).groups) (children_of (unfinished_unawaited (at ws i).waiting (at ws i).children))) (Next (If e End End) End)
      safe =
          harmless_if lens (at ws i).own (openings_of (at ws i).groups) (children_of (unfinished_unawaited (at ws i).waiting (at ws i).children)) e a b rest (subst (NamedIn lens) was named).0.0
          (fine-innermost (at ws i).own (unfinished_unawaited (at ws i).waiting (at ws i).children) (Next (If e a b) rest) (at ws i).groups
          (subst (λ x. IsFineAt (at ws i).own (unfinished_unawaited (at ws i).waiting (at ws i).children) x (at ws i).groups) was (s.placed i).fine))

-- ---- a settle is, where pieces that are out count as not begun, first the piece and then the control statement

-- a step sees no piece that is out
step-stopped : (taken : Bool) (g : ℕ) (b : Body) (r : Region) → r.rest ≡ b → region_stopped (stepped_from taken g b r) ≡ stepped_from taken g b (region_stopped r)
step-stopped taken g (Next (Set c e) rest) r is = refl
step-stopped taken g b r is = refl

pub changed : (rs : List Region) (i : ℕ) (f F : Region → Region) → whole_region (f (at rs i)) ≡ F (whole_region (at rs i)) → wholes (updated rs i f) ≡ updated (wholes rs) i F
changed [] i f F same = refl
changed (r ∷ rs) zero f F same = ap (λ x. x ∷ wholes rs) same
changed (r ∷ rs) (suc i) f F same = ap (λ xs. whole_region r ∷ xs) (changed rs i f F same)

pub front : (rs : List Region) (n : Region) (i : ℕ) (f : Region → Region) → i < length rs → updated (rs ++ n ∷ []) i f ≡ updated rs i f ++ n ∷ []
front [] n i f h = absurd (omega (arith, h))
front (r ∷ rs) n zero f h = refl
front (r ∷ rs) n (suc i) f h = ap (λ xs. r ∷ xs) (front rs n i f (omega (arith, h)))

children-same : (rs : List Region) (i : ℕ) (f F : Region → Region) → length (f (at rs i)).children ≡ length (F (whole_region (at rs i))).children → i < length rs
    → children_at (updated rs i f) i ≡ children_at (updated (wholes rs) i F) i
children-same [] i f F same h = absurd (omega (arith, h))
children-same (r ∷ rs) zero f F same h = same
children-same (r ∷ rs) (suc i) f F same h = children-same rs i f F same (omega (arith, h))

created-stopped : (rs : List Region) (i : ℕ) (child : Option (List Use × Body)) (f F : Region → Region) → i < length rs → region_stopped (f (at rs i)) ≡ F (whole_region (at rs i))
    → wholes (updated (with_created i child (updated rs i f)) i region_stopped) ≡ with_created i child (updated (wholes rs) i F)
created-stopped rs i None f F h same = ap wholes (updated-updated rs i f region_stopped) ∙ changed rs i (λ r. region_stopped (f r)) F same
created-stopped rs i (Some child) f F h same =
    let n = children_at (updated rs i f) i in
    let new = new_region i n child.0 child.1 in
    let with : Region → Region = with_child child.0 in
    let short : i < length (updated (updated rs i f) i with) = omega (arith, h, length-updated rs i f, length-updated (updated rs i f) i with) in
    ap wholes (front (updated (updated rs i f) i with) new i region_stopped short)
    ∙ map-append whole_region (updated (updated (updated rs i f) i with) i region_stopped) (new ∷ [])
    ∙ ap (λ l. l ++ new ∷ []) (ap wholes (ap (λ l. updated l i region_stopped) (updated-updated rs i f with) ∙ updated-updated rs i (λ r. with (f r)) region_stopped)
    ∙ changed rs i (λ r. region_stopped (with (f r))) (λ r. with (F r)) (ap with same) ∙ sym (updated-updated (wholes rs) i F with))
    ∙ ap (λ m. updated (updated (wholes rs) i F) i with ++ new_region i m child.0 child.1 ∷ []) (children-same rs i f F (ap (λ r. length r.children) same) h)

-- the piece is behind the place, and then the control statement is executed
pub wholes-executed : (taken : Bool) (g i : ℕ) (rs : List Region) → i < length rs
    → wholes (updated (control_executed taken g i rs) i region_stopped) ≡ control_executed taken g i (updated (wholes rs) i (with_rest (at rs i).rest))
wholes-executed taken g i rs h =
    let rest = (at rs i).rest in
    let F : Region → Region = λ w. region_stepped taken g (with_rest rest w) in
    let long : i < length (wholes rs) = omega (arith, h, length-map rs whole_region) in
    created-stopped rs i (next_task (rest_at rs i)) (region_stepped taken g) F h (step-stopped taken g rest (at rs i) refl)
    ∙ ap (λ o. with_created i o (updated (wholes rs) i F)) (ap next_task (rest-here rs i ∙ sym (rest-here (updated (wholes rs) i (with_rest rest)) i ∙ ap (λ (r : Region). r.rest) (at-updated (wholes rs) i (with_rest rest) long))))
    ∙ ap (with_created i (next_task (rest_at (updated (wholes rs) i (with_rest rest)) i))) (sym (updated-updated (wholes rs) i (with_rest rest) (region_stepped taken g)))
