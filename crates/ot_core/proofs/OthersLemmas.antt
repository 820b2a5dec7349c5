-- An event of one tenant leaves the others as they were.
use Rattle.std.proofs.Common.{◌≡◌, ◌≢◌, ◌+◌, inl, inr, ℕ, List, length, set, refl, sym, ap, ◌∙◌, subst, arith}
use Rattle.std.proofs.lemmas.Bool.{cases_eq, cases_lt}
use Rattle.std.proofs.lemmas.Bool.Decides.{nat_tests}
use Rattle.std.specs.Prelude.{◌==◌, Option, Some, None, Result, Ok, Err, IfOk, OnOk, slice_get, option_map, if◌then◌else◌, false}
use Rattle.std.proofs.lemmas.List.{get_or-set_same, get_or-set_other, get_or_past, length-set}
use Rattle.ot_job.specs.Dealings.{Live, job_aborted}
use Rattle.ot_job.specs.Taken.{Came as Done}
use Rattle.ot_core.specs.Accounts.{Account}
use Rattle.ot_hall.specs.Floors.{job_of, Floor, with_job, with_settled, tenant_units, SettlesFor}
use Rattle.ot_core.specs.Scenes.{Scene, hand_of, seat_of, with_account, with_hand, AdmitsFor, OpensFor, StartsFor, Finishes, RepliesTo, AbortsFor, GivesBack, BreaksJob, Steps, IsAsItWas, LeavesOthers, of_tenant, holder}
use Rattle.ot_core.specs.declared.held.Held.{Held}
use Rattle.ot_core.specs.declared.event.Event.{Event}
use Rattle.ot_core.specs.declared.event.Event.TheVariants as event
use Rattle.ot_core.specs.declared.event.Stepped.{Stepped}
use Rattle.ot_core.specs.declared.event.Stepped.TheVariants.{Asked, Full, Answered, Job, Replied, Started, Finished, FinishedFailed, Aborted, NotNow}
use Rattle.ot_core.proofs.SceneLemmas.{SameBut, but-none, but-set, but-read}

-- two floors that differ at one tenant at most
pub record FloorBut (f : Floor) (t : ℕ) (g : Floor) : Type 0 where
  pub jobs : SameBut f.jobs t g.jobs
  pub units : SameBut f.units t g.units

same-floor : (f : Floor) (t : ℕ) → FloorBut f t f
same-floor f t = record { jobs = but-none f.jobs t; units = but-none f.units t }

job-floor : (f g : Floor) (t : ℕ) (job : Option Live) → g ≡ with_job f t job → FloorBut f t g
job-floor f g t job is = subst (FloorBut f t) (sym is) (record { jobs = but-set f.jobs t job; units = but-none f.units t })

settled-floor : (f g : Floor) (t : ℕ) (job : Live) (n : ℕ) → g ≡ with_settled f t job n → FloorBut f t g
settled-floor f g t job n is = subst (FloorBut f t) (sym is) (record { jobs = but-set f.jobs t (Some job); units = but-set f.units t (tenant_units f t + n) })

same : (u : ℕ) (old new : Scene) → new ≡ old → IsAsItWas u old new
same u old new is = record {
  account = ap (λ (s : Scene). slice_get s.accounts u) is;
  job = ap (λ (s : Scene). job_of s.floor.jobs u) is;
  units = ap (λ (s : Scene). tenant_units s.floor u) is;
  hands = λ w. ap (λ (s : Scene). of_tenant u (hand_of s.hands w)) is;
}

-- one tenant's account, job, units and hands change
by-one : (u t : ℕ) (old new is : Scene) → u ≢ t → SameBut old.accounts t is.accounts → FloorBut old.floor t is.floor → ((w : ℕ) → of_tenant u (hand_of is.hands w) ≡ of_tenant u (hand_of old.hands w))
    → new ≡ is → IsAsItWas u old new
by-one u t old new is other accounts but hands new_is = subst (IsAsItWas u old) (sym new_is) (record {
  account = accounts.others u other;
  job = but-read old.floor.jobs is.floor.jobs t None u but.jobs other;
  units = but-read old.floor.units is.floor.units t 0 u but.units other;
  hands = hands;
})

by-moved : (u t : ℕ) (old new : Scene) (b : Account) (floor : Floor) → u ≢ t → FloorBut old.floor t floor → new ≡ with_account old t b floor → IsAsItWas u old new
by-moved u t old new b floor other but = by-one u t old new (with_account old t b floor) other (but-set old.accounts t b) but (λ w. refl)

-- a piece of another tenant
not_own : (u : ℕ) (h : Held) → u ≢ h.tenant → of_tenant u (Some h) ≡ None
not_own u h other =
    let t : (h.tenant == u) ≡ false = grind (arith, nat_tests, other) in
    ap (λ b. if b then Some h else None) t

hand-other : (u w v : ℕ) (hands : List (Option Held)) (hand : Option Held) → of_tenant u (hand_of hands w) ≡ None → of_tenant u hand ≡ None
    → of_tenant u (hand_of (set hands w hand) v) ≡ of_tenant u (hand_of hands v)
hand-other u w v hands hand was now = elim (cases_eq v w) [
  | inr other ↦ ap (of_tenant u) (get_or-set_other hands w v hand None other)
  | inl here ↦ elim (cases_lt w (length hands)) [
    | inl within ↦ ap (λ x. of_tenant u (hand_of (set hands w hand) x)) here ∙ ap (of_tenant u) (get_or-set_same hands w hand None within) ∙ now ∙ sym was ∙ ap (λ x. of_tenant u (hand_of hands x)) (sym here)
    | inr past ↦
        ap (λ x. of_tenant u (hand_of (set hands w hand) x)) here ∙ ap (of_tenant u) (get_or_past (set hands w hand) w None (omega (arith, past, length-set hands w hand)))
        ∙ sym was ∙ ap (λ x. of_tenant u (hand_of hands x)) (sym here)
  ]
]

by-handed : (u t w : ℕ) (old new : Scene) (floor : Floor) (hand : Option Held) → u ≢ t → FloorBut old.floor t floor → of_tenant u (hand_of old.hands w) ≡ None → of_tenant u hand ≡ None
    → new ≡ with_hand old floor w hand → IsAsItWas u old new
by-handed u t w old new floor hand other but was now = by-one u t old new (with_hand old floor w hand) other (but-none old.accounts t) but (λ v. hand-other u w v old.hands hand was now)

some-other : (u t : ℕ) → Some u ≢ Some t → u ≢ t
some-other u t not is = not (ap Some is)

-- the piece that is given back is another tenant's
by-back : (u w : ℕ) (old new : Scene) (does : Floor → ℕ → Done → Floor → Type 0) (back : GivesBack old w does new) → FloorBut old.floor back.held.tenant back.floor
    → Some u ≢ holder (Some w) old.hands → IsAsItWas u old new
by-back u w old new does back but not =
    let other : u ≢ back.held.tenant = λ is. not (ap Some is ∙ ap (option_map (λ (h : Held). h.tenant)) (sym back.is)) in
    by-handed u back.held.tenant w old new back.floor None other but (ap (of_tenant u) back.is ∙ not_own u back.held other) refl back.new_is

others-admit : (t : ℕ) (line : List ℕ) (old new : Scene) (stepped : Stepped) → AdmitsFor old t line stepped new → (u : ℕ) → u ≢ t → IsAsItWas u old new
others-admit t line old new NotNow did = λ u not. same u old new did.1
others-admit t line old new Full did = λ u not. same u old new did.1
others-admit t line old new Asked did = λ u not. by-moved u t old new did.next old.floor not (same-floor old.floor t) did.new_is
others-admit t line old new other did = absurd did

others-open : (t : ℕ) (old new : Scene) (stepped : Stepped) → OpensFor old t stepped new → (u : ℕ) → u ≢ t → IsAsItWas u old new
others-open t old new NotNow did = λ u not. same u old new did.1
others-open t old new Answered did = λ u not. by-moved u t old new did.1.next old.floor not (same-floor old.floor t) did.1.new_is
others-open t old new Job did = λ u not.
    by-moved u t old new did.1.next did.1.floor not (job-floor old.floor did.1.floor t (Some did.1.submits.job) did.1.submits.new_is) did.1.new_is
others-open t old new other did = absurd did

others-start : (w : Option ℕ) (t pick : ℕ) (old new : Scene) (stepped : Stepped) → StartsFor old w t pick stepped new → (u : ℕ) → u ≢ t → IsAsItWas u old new
others-start None t pick old new stepped did = λ u not. same u old new did.1
others-start (Some w) t pick old new (Started k) did = λ u not.
    by-handed u t w old new did.floor _ not (job-floor old.floor did.floor t (Some did.claims.next) did.claims.new_is) (ap (of_tenant u) did.free) (not_own u _ not) did.new_is
others-start (Some w) t pick old new NotNow did = λ u not. same u old new did.1
others-start (Some w) t pick old new other did = absurd did

others-finish : (w : Option ℕ) (old new : Scene) (stepped : Stepped) → Finishes old w stepped new → (u : ℕ) → Some u ≢ holder w old.hands → IsAsItWas u old new
others-finish None old new stepped did = λ u not. same u old new did.1
others-finish (Some w) old new (Finished n) did = λ u not.
    by-back u w old new (λ f t d g. SettlesFor f t d n g) did (settled-floor old.floor did.floor did.held.tenant did.does_so.next n did.does_so.new_is) not
others-finish (Some w) old new FinishedFailed did = λ u not.
    by-back u w old new BreaksJob did (job-floor old.floor did.floor did.held.tenant (Some did.does_so.next) did.does_so.new_is) not
others-finish (Some w) old new NotNow did = λ u not. same u old new did.1
others-finish (Some w) old new other did = absurd did

others-reply : (t : ℕ) (old new : Scene) (stepped : Stepped) → RepliesTo old t stepped new → (u : ℕ) → u ≢ t → IsAsItWas u old new
others-reply t old new NotNow did = λ u not. same u old new did.1
others-reply t old new Replied did = λ u not. by-moved u t old new _ (with_job old.floor t None) not (job-floor old.floor (with_job old.floor t None) t None refl) did.new_is
others-reply t old new other did = absurd did

others-abort : (t : ℕ) (old new : Scene) (stepped : Stepped) → AbortsFor old t stepped new → (u : ℕ) → u ≢ t → IsAsItWas u old new
others-abort t old new NotNow did = λ u not. same u old new did.1
others-abort t old new Aborted did = λ u not. by-one u t old new (record old { floor = did.floor }) not (but-none old.accounts t) (job-floor old.floor did.floor t (Some (job_aborted did.aborts.job)) did.aborts.new_is) (λ v. refl) did.new_is
others-abort t old new other did = absurd did

pub others : (e : Event) (old new : Scene) (stepped : Stepped) → Steps old e stepped new → LeavesOthers e old new
others (event.Admit t line) old new stepped did = λ u not. others-admit t line.now old new stepped did u (some-other u t not)
others (event.Open t) old new stepped did = λ u not. others-open t old new stepped did u (some-other u t not)
others (event.Start w t pick) old new stepped did = λ u not. others-start (seat_of w) t pick old new stepped did u (some-other u t not)
others (event.Finish w) old new stepped did = λ u not. others-finish (seat_of w) old new stepped did u not
others (event.Reply t) old new stepped did = λ u not. others-reply t old new stepped did u (some-other u t not)
others (event.Abort t) old new stepped did = λ u not. others-abort t old new stepped did u (some-other u t not)

pub others-on : {E : Type 0} (e : Event) (old new : Scene) (r : Result Stepped E) → IfOk r (λ stepped. Steps old e stepped new) → OnOk r (LeavesOthers e old new)
others-on e old new (Ok stepped) did = others e old new stepped did
others-on e old new (Err x) did = tt
