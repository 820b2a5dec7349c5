-- A world stays right when one tenant's account, job and units change.
use Rattle.std.proofs.Common.{◌≡◌, ◌≢◌, ◌<◌, ◌≤◌, ◌+◌, inl, inr, ℕ, List, length, get_or, set, refl, sym, ap, ◌∙◌, subst, arith}
use Rattle.std.specs.Prelude.{Option, Some, None, is_some, slice_get, unwrap_or, Bool, true, ◌↔◌}
use Rattle.std.proofs.lemmas.Bool.{cases_eq}
use Rattle.std.proofs.lemmas.Option.{none-some, same_Some, slice_get_within, unwrap_or-slice_get}
use Rattle.std.proofs.lemmas.List.{get_or-set_same, length-set}
use Rattle.ot_check.specs.Jobs.{Spec}
use Rattle.ot_check.proofs.GridLemmas.{slice_get-set_same, slice_get-set_other}
use Rattle.ot_job.specs.Dealings.{Live, IsFresh, SameSpec, NoneOut, settled_units}
use Rattle.ot_job.proofs.DealingsLemmas.{starts-fresh}
use Rattle.ot_core.specs.Accounts.{Account, IsSoundAccount, answered_count, IsAnswered, IsUnopened, Waits, with_reply}
use Rattle.ot_hall.specs.Floors.{job_of, Floor, with_job, tenant_units, SubmitsFor}
use Rattle.ot_core.specs.Scenes.{Scene, Pairs, Agrees, AreInHands, IsScene, out_at, with_account, HasTenant, Moves, CanOpen, StartsJob}
use Rattle.ot_core.specs.declared.held.Held.{Held}
use Rattle.ot_core.proofs.AccountLemmas.{answered-replied, never-waits}

-- ---- two lists that differ at one place at most

pub record SameBut {X : Type 0} (xs : List X) (t : ℕ) (ys : List X) : Type 0 where
  pub many : length ys ≡ length xs
  pub others : (u : ℕ) → u ≢ t → slice_get ys u ≡ slice_get xs u

pub but-none : {X : Type 0} (xs : List X) (t : ℕ) → SameBut xs t xs
but-none xs t = record { many = refl; others = λ u other. refl }

pub but-set : {X : Type 0} (xs : List X) (t : ℕ) (x : X) → SameBut xs t (set xs t x)
but-set xs t x = record { many = length-set xs t x; others = λ u other. slice_get-set_other xs t u x (λ e. other (sym e)) }

pub but-read : {X : Type 0} (xs ys : List X) (t : ℕ) (d : X) (u : ℕ) → SameBut xs t ys → u ≢ t → get_or ys u d ≡ get_or xs u d
but-read xs ys t d u but other = sym (unwrap_or-slice_get ys u d) ∙ ap (λ o. unwrap_or o d) (but.others u other) ∙ unwrap_or-slice_get xs u d

-- ---- what goes together of one tenant

-- the next line has its reply, and no job is left
pub agrees-replied : (a : Account) (job : Option Live) (units : ℕ) (lost : Bool) → Agrees a job units → IsSoundAccount (with_reply a lost) → Agrees (with_reply a lost) None units
agrees-replied a job units lost agrees sound = record {
  sound = sound;
  pairs = tt;
  paid = omega (arith, agrees.paid, agrees.bounded, answered-replied a lost);
  bounded = omega arith;
}

-- another account of the same log, for the same request
pub agrees-account : (a b : Account) (job : Option Live) (units : ℕ) → Agrees a job units → IsSoundAccount b → b.spec ≡ a.spec → answered_count b ≡ answered_count a → Agrees b job units
agrees-account a b job units agrees sound spec same = record {
  sound = sound;
  pairs = subst (λ o. Pairs o job) (sym spec) agrees.pairs;
  paid = omega (arith, agrees.paid, same);
  bounded = agrees.bounded;
}

-- a request is open and its job begins
pub agrees-opened : (a b : Account) (spec : Spec) (j : Live) (units : ℕ) → Agrees a None units → IsSoundAccount b → Waits a spec b → IsFresh spec j → Agrees b (Some j) units
agrees-opened a b spec j units agrees sound waits begun = record {
  sound = sound;
  pairs = subst (λ o. Pairs o (Some j)) (sym (ap (λ (o : Account). o.spec) waits.new_is)) (record {
    program = sym waits.same.program ∙ begun.of.program;
    before = sym waits.same.before ∙ begun.of.before;
  });
  paid = omega (arith, agrees.paid, ap answered_count waits.new_is);
  bounded = omega (arith, begun.units);
}

pairs-same : (o : Option Spec) (j k : Live) → SameSpec j k → Pairs o (Some j) → Pairs o (Some k)
pairs-same None j k same pairs = pairs
pairs-same (Some x) j k same pairs = record { program = pairs.program ∙ sym same.program; before = pairs.before ∙ sym same.before }

-- the same job later, with as many more units
pub agrees-job : (a : Account) (j k : Live) (units now : ℕ) → Agrees a (Some j) units → SameSpec j k
    → now + settled_units j ≡ units + settled_units k → settled_units k ≤ 20000 → Agrees a (Some k) now
agrees-job a j k units now agrees same settled few = record {
  sound = agrees.sound;
  pairs = pairs-same a.spec j k same agrees.pairs;
  paid = omega (arith, agrees.paid, settled);
  bounded = few;
}

-- and with none
pub agrees-same : (a : Account) (j k : Live) (units : ℕ) → Agrees a (Some j) units → SameSpec j k → settled_units k ≡ settled_units j → Agrees a (Some k) units
agrees-same a j k units agrees same settled = agrees-job a j k units units agrees same (omega (arith, settled)) (omega (arith, agrees.bounded, settled))

-- ---- worlds

-- the same pieces are out
abbrev pub SameOut : List (Option Live) → List (Option Live) → Type 0
SameOut old new = (t k : ℕ) → out_at (job_of new t) k ≡ out_at (job_of old t) k

pub held-same : (old new : List (Option Live)) (hands : List (Option Held)) → SameOut old new → AreInHands old hands → AreInHands new hands
held-same old new hands same held = record {
  out = λ w h is. same h.tenant h.piece.task ∙ held.out w h is;
  one = held.one;
  all = λ t k work out. held.all t k work (sym (same t k) ∙ out);
}

-- of one tenant the same pieces are out, and the others' jobs are the same
pub out-but : (old new : List (Option Live)) (t : ℕ) → SameBut old t new → ((k : ℕ) → out_at (job_of new t) k ≡ out_at (job_of old t) k) → SameOut old new
out-but old new t but same u k = elim (cases_eq u t) [
  | inl is ↦ ap (λ v. out_at (job_of new v) k) is ∙ same k ∙ ap (λ v. out_at (job_of old v) k) (sym is)
  | inr other ↦ ap (λ o. out_at o k) (but-read old new t None u but other)
]

-- one tenant's account, job and units change
scene-changed : (s new : Scene) (t : ℕ) → IsScene s → SameBut s.accounts t new.accounts → SameBut s.floor.jobs t new.floor.jobs → SameBut s.floor.units t new.floor.units
    → ((a : Account) → slice_get new.accounts t ≡ Some a → Agrees a (job_of new.floor.jobs t) (tenant_units new.floor t))
    → length new.hands ≡ 16 → AreInHands new.floor.jobs new.hands → IsScene new
scene-changed s new t scene accounts jobs units mine hands held = record {
  each = λ u a at. elim (cases_eq u t) [
    | inl here ↦ subst (λ v. Agrees a (job_of new.floor.jobs v) (tenant_units new.floor v)) (sym here) (mine a (ap (slice_get new.accounts) (sym here) ∙ at))
    | inr other ↦
        subst (λ j. Agrees a j (tenant_units new.floor u)) (sym (but-read s.floor.jobs new.floor.jobs t None u jobs other))
        (subst (Agrees a (job_of s.floor.jobs u)) (sym (but-read s.floor.units new.floor.units t 0 u units other)) (scene.each u a (sym (accounts.others u other) ∙ at)))
  ];
  jobs_many = jobs.many ∙ scene.jobs_many ∙ sym accounts.many;
  units_many = units.many ∙ scene.units_many ∙ sym accounts.many;
  few = omega (arith, scene.few, accounts.many);
  hands_many = hands;
  held = held;
}

-- a tenant moves
pub scene-moved : (s : Scene) (t : ℕ) (a b : Account) (floor : Floor) → IsScene s → slice_get s.accounts t ≡ Some a → SameBut s.floor.jobs t floor.jobs → SameBut s.floor.units t floor.units
    → Agrees b (job_of floor.jobs t) (tenant_units floor t) → ((k : ℕ) → out_at (job_of floor.jobs t) k ≡ out_at (job_of s.floor.jobs t) k) → IsScene (with_account s t b floor)
scene-moved s t a b floor scene is jobs units agrees same =
    let here = slice_get-set_same s.accounts t b (ap is_some is) in
    scene-changed s (with_account s t b floor) t scene (but-set s.accounts t b) jobs units
    (λ c at. subst (λ (o : Account). Agrees o (job_of floor.jobs t) (tenant_units floor t)) (same_Some b c (sym here ∙ at)) agrees)
    scene.hands_many (held-same s.floor.jobs floor.jobs s.hands (out-but s.floor.jobs floor.jobs t jobs same) scene.held)

-- a tenant's job goes on, and hands change
pub scene-handed : (s : Scene) (t : ℕ) (floor : Floor) (hands : List (Option Held)) → IsScene s → SameBut s.floor.jobs t floor.jobs → SameBut s.floor.units t floor.units
    → ((a : Account) → slice_get s.accounts t ≡ Some a → Agrees a (job_of floor.jobs t) (tenant_units floor t))
    → length hands ≡ 16 → AreInHands floor.jobs hands → IsScene (record { accounts = s.accounts; floor = floor; hands = hands })
scene-handed s t floor hands scene jobs units mine many held =
    scene-changed s (record { accounts = s.accounts; floor = floor; hands = hands }) t scene (but-none s.accounts t) jobs units mine many held

-- a tenant's account alone changes, and stays of one spec
pub scene-account : (s : Scene) (t : ℕ) (a b : Account) → IsScene s → slice_get s.accounts t ≡ Some a → IsSoundAccount b → b.spec ≡ a.spec → answered_count b ≡ answered_count a
    → IsScene (with_account s t b s.floor)
scene-account s t a b scene at sound spec same =
    scene-moved s t a b s.floor scene at (but-none s.floor.jobs t) (but-none s.floor.units t)
    (agrees-account a b (job_of s.floor.jobs t) (tenant_units s.floor t) (scene.each t a at) sound spec same) (λ k. refl)

-- a tenant has a job just where a request is open
pub both-none : (spec : Option Spec) (job : Option Live) → Pairs spec job → (spec ≡ None) ↔ (job ≡ None)
both-none None None pairs = ((λ e. refl), (λ e. refl))
both-none None (Some j) pairs = absurd pairs
both-none (Some x) None pairs = absurd pairs
both-none (Some x) (Some j) pairs = ((λ e. absurd (none-some x (sym e))), (λ e. absurd (none-some j (sym e))))

pub jobless : (s : Scene) (t : ℕ) (a : Account) → IsScene s → slice_get s.accounts t ≡ Some a → a.spec ≡ None → job_of s.floor.jobs t ≡ None
jobless s t a scene at = (both-none a.spec (job_of s.floor.jobs t) (scene.each t a at).pairs).0

pub there : (s : Scene) (t : ℕ) (a : Account) → IsScene s → slice_get s.accounts t ≡ Some a → t < length s.floor.jobs
there s t a scene at = omega (arith, slice_get_within s.accounts t a at, scene.jobs_many)

-- a line is answered at once
pub scene-answered : (s : Scene) (t : ℕ) (a b : Account) → IsScene s → slice_get s.accounts t ≡ Some a → a.spec ≡ None → IsSoundAccount b → IsAnswered a b
    → IsScene (with_account s t b s.floor)
scene-answered s t a b scene at free sound answers =
    let none = jobless s t a scene at free in
    let was : Agrees a None (tenant_units s.floor t) = subst (λ o. Agrees a o (tenant_units s.floor t)) none (scene.each t a at) in
    let now : Agrees b None (tenant_units s.floor t) = subst (λ (o : Account). Agrees o None (tenant_units s.floor t)) (sym answers.new_is)
    (agrees-replied a None (tenant_units s.floor t) answers.lost was (subst IsSoundAccount answers.new_is sound)) in
    scene-moved s t a b s.floor scene at (but-none s.floor.jobs t) (but-none s.floor.units t)
    (subst (λ o. Agrees b o (tenant_units s.floor t)) (sym none) now) (λ k. refl)

pub job-set : (jobs : List (Option Live)) (t : ℕ) (job : Option Live) → t < length jobs → job_of (set jobs t job) t ≡ job
job-set jobs t job below = get_or-set_same jobs t job None below

-- a tenant's request is open and its job begins
pub scene-opened : (s : Scene) (t : ℕ) (a b : Account) (spec : Spec) (floor : Floor) → IsScene s → slice_get s.accounts t ≡ Some a → a.spec ≡ None → IsSoundAccount b
    → Waits a spec b → SubmitsFor s.floor t spec floor → IsScene (with_account s t b floor)
scene-opened s t a b spec floor scene at free sound waits submits =
    let j = submits.job in
    let fresh = starts-fresh spec j submits.starts in
    let none = jobless s t a scene at free in
    let mine = job-set s.floor.jobs t (Some j) (there s t a scene at) in
    let was : Agrees a None (tenant_units s.floor t) = subst (λ o. Agrees a o (tenant_units s.floor t)) none (scene.each t a at) in
    subst (λ f. IsScene (with_account s t b f)) (sym submits.new_is)
    (scene-moved s t a b (with_job s.floor t (Some j)) scene at (but-set s.floor.jobs t (Some j)) (but-none s.floor.units t)
    (subst (λ o. Agrees b o (tenant_units s.floor t)) (sym mine) (agrees-opened a b spec j (tenant_units s.floor t) was sound waits fresh))
    (λ k. ap (λ o. out_at o k) mine ∙ fresh.none k ∙ sym (ap (λ o. out_at o k) none)))

-- opened, and answered for want of memory
pub answered-lost : (a b now : Account) (spec : Spec) → Waits a spec b → now ≡ with_reply b true → IsAnswered a now
answered-lost a b now spec waits is =
    record { lost = true; new_is = is ∙ ap (λ o. with_reply o true) waits.new_is; never = never-waits a b spec true waits; at_once = inl refl }

-- a tenant is told what its job came to
pub scene-replied : (s : Scene) (t : ℕ) (a : Account) (j : Live) (lost : Bool) → IsScene s → slice_get s.accounts t ≡ Some a → IsSoundAccount (with_reply a lost)
    → job_of s.floor.jobs t ≡ Some j → NoneOut j → IsScene (with_account s t (with_reply a lost) (with_job s.floor t None))
scene-replied s t a j lost scene at sound job calm =
    let mine = job-set s.floor.jobs t None (there s t a scene at) in
    scene-moved s t a (with_reply a lost) (with_job s.floor t None) scene at (but-set s.floor.jobs t None) (but-none s.floor.units t)
    (subst (λ o. Agrees (with_reply a lost) o (tenant_units s.floor t)) (sym mine) (agrees-replied a (job_of s.floor.jobs t) (tenant_units s.floor t) lost (scene.each t a at) sound))
    (λ k. ap (λ o. out_at o k) mine ∙ sym (ap (λ o. out_at o k) job ∙ calm k))

-- ---- what is read of a world

-- one tenant's account alone changes
pub moves-at : (P : Account → Account → Type 0) (s now : Scene) (t : ℕ) (a b : Account) → s ≡ now → slice_get s.accounts t ≡ Some a → P a b → Moves P now t (with_account s t b s.floor)
moves-at P s now t a b is at does = subst (λ o. Moves P o t (with_account s t b s.floor)) is (record { account = a; is = at; next = b; does = does; new_is = refl })

-- there is such a tenant
pub has-tenant : (P : Account → Type 0) (s now : Scene) (t : ℕ) (a : Account) → s ≡ now → slice_get s.accounts t ≡ Some a → P a → HasTenant P now t
has-tenant P s now t a is at has = subst (λ o. HasTenant P o t) is (a, at, has)

-- a request can be opened
pub can-open : (s now : Scene) (t : ℕ) (a : Account) → s ≡ now → slice_get s.accounts t ≡ Some a → IsUnopened a → CanOpen now t
can-open = has-tenant IsUnopened

pub cannot-open : (s now : Scene) (t : ℕ) (a : Account) → s ≡ now → slice_get s.accounts t ≡ Some a → (IsUnopened a → ⊥) → CanOpen now t → ⊥
cannot-open s now t a is at not can =
    let back = subst (λ o. CanOpen o t) (sym is) can in
    not (subst IsUnopened (same_Some back.0 a (sym back.1 ∙ at)) back.2)

pub starts-job : (s now : Scene) (t : ℕ) (a b : Account) (spec : Spec) (floor : Floor) → s ≡ now → slice_get s.accounts t ≡ Some a
    → Waits a spec b → SubmitsFor s.floor t spec floor → StartsJob now t (with_account s t b floor)
starts-job s now t a b spec floor is at waits submits =
    subst (λ o. StartsJob o t (with_account s t b floor)) is (record { account = a; is = at; spec = spec; next = b; waits = waits; floor = floor; submits = submits; new_is = refl })
