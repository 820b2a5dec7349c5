-- Each event that drain takes leaves less to do, and where none is left every line is answered.
use Rattle.std.proofs.Common.{◌≡◌, ◌<◌, ◌≤◌, ◌+◌, ◌-◌, ◌*◌, ◌⊎◌, inl, inr, ℕ, zero, suc, List, [], ◌∷◌, length, set, refl, sym, ap, ◌∙◌, subst, arith, true≢false, Bool, true, false}
use Rattle.std.specs.Prelude.{Option, Some, None, is_some, slice_get, nat_lt, ◌==◌, ◌&&◌, if◌then◌else◌}
use Rattle.std.specs.List.{sum_by}
use Rattle.std.proofs.lemmas.Nat.{mul-le}
use Rattle.std.proofs.lemmas.Bool.{cases_lt, cases_eq}
use Rattle.std.proofs.lemmas.Bool.Decides.{nat_tests}
use Rattle.std.proofs.lemmas.List.Sums.{sum_by-set, sum_by-cons}
use Rattle.std.proofs.lemmas.Option.{slice_get_within, get_or_from_slice_get, none-some, same_Some}
use Rattle.ot_check.specs.Jobs.{Spec}
use Rattle.ot_job.specs.Dealings.{Live, claimable_in, NoneOut, after_failure, live_state, settles_left, out_of, work_at}
use Rattle.ot_job.specs.declared.state.State.{State}
use Rattle.ot_job.specs.declared.state.State.TheVariants.{Working, Failing, Ended, Failed}
use Rattle.ot_job.proofs.DealingsLemmas.{starts-fresh, claimed-gives, settles-pays, fails-breaks}
use Rattle.ot_core.specs.Accounts.{Account, answered_count, IsUnopened, with_reply}
use Rattle.ot_hall.specs.Floors.{job_of, tenant_units}
use Rattle.ot_core.specs.Scenes.{Scene, IsScene, IsHeld, hand_of, out_at, seat_of, with_account, with_hand, OpensFor, RepliesTo, StartsFor, Finishes, CanOpen, CannotReply, Steps}
use Rattle.ot_hall.specs.Lively.{IsLively, LivelyAt}
use Rattle.ot_core.specs.Toil.{toil, toil_of, toil_by, unopened_count, one_if, free_hand, opens_of, closed_by, moves_at, full_hand, sum_below, moves_left}
use Rattle.ot_hall.specs.Lively.{over_of, over_by, claimable_count}
use Rattle.ot_core.specs.Draining.{IsMove, MayStart, MayFinishHand, AllAnswered}
use Rattle.ot_core.specs.declared.held.Held.{Held}
use Rattle.ot_core.specs.declared.event.Event.{Event}
use Rattle.ot_core.specs.declared.event.Event.TheVariants as event
use Rattle.ot_core.specs.declared.event.Stepped.{Stepped}
use Rattle.ot_core.specs.declared.event.Stepped.TheVariants.{Answered, Job, Replied, Started, Finished, FinishedFailed, NotNow}
use Rattle.ot_core.proofs.AccountLemmas.{answered-≤, answered-replied, none-from, the_some}
use Rattle.ot_hall.proofs.FloorLemmas.{job-within}
use Rattle.ot_core.proofs.SceneLemmas.{there, both-none}

-- ---- less to do

unopened-set : (s : Scene) (t : ℕ) (a b : Account) → slice_get s.accounts t ≡ Some a → sum_by unopened_count (set s.accounts t b) + unopened_count a ≡ sum_by unopened_count s.accounts + unopened_count b
unopened-set s t a b at =
    ap (λ x. sum_by unopened_count (set s.accounts t b) + unopened_count x) (sym (get_or_from_slice_get s.accounts t a a at))
    ∙ sum_by-set unopened_count s.accounts t b a (slice_get_within s.accounts t a at)

-- one tenant moves
falls-moved : (s : Scene) (t : ℕ) (a b : Account) (job : Option Live) (units : List ℕ) → slice_get s.accounts t ≡ Some a → t < length s.floor.jobs
    → 200000 * unopened_count b + toil_of job < 200000 * unopened_count a + toil_of (job_of s.floor.jobs t) → toil (with_account s t b (record { jobs = set s.floor.jobs t job; units = units })) < toil s
falls-moved s t a b job units at within less =
    omega (arith, less, unopened-set s t a b at, sum_by-set toil_of s.floor.jobs t job None within)

-- a tenant's account alone moves
falls-account : (s : Scene) (t : ℕ) (a b : Account) → slice_get s.accounts t ≡ Some a → unopened_count b < unopened_count a → toil (with_account s t b s.floor) < toil s
falls-account s t a b at less = omega (arith, less, unopened-set s t a b at)

-- one worker takes a piece or gives it back
falls-handed : (s : Scene) (t w : ℕ) (job : Option Live) (units : List ℕ) (hand : Option Held) → t < length s.floor.jobs → w < length s.hands
    → toil_of job + free_hand hand < toil_of (job_of s.floor.jobs t) + free_hand (hand_of s.hands w) → toil (with_hand s (record { jobs = set s.floor.jobs t job; units = units }) w hand) < toil s
falls-handed s t w job units hand within below less =
    omega (arith, less, sum_by-set toil_of s.floor.jobs t job None within, sum_by-set free_hand s.hands w hand None below)

-- a piece settles
settled-less : (j k : Live) → live_state j ≡ Working → settles_left k < settles_left j → (live_state k ≡ Working) ⊎ (live_state k ≡ Ended) → toil_by (live_state k) k + 1 < toil_by (live_state j) j
settled-less j k working less after = elim after [
  | inl still ↦ rw (still, working) (omega (arith, less))
  | inr ended ↦ rw (ended, working) (omega (arith, less))
]

-- a piece fails
failed-less : (j k : Live) → ((live_state j ≡ Working) × (out_of j ≤ settles_left j)) ⊎ (live_state j ≡ Failing) → out_of k + 1 ≡ out_of j → (live_state k ≡ Failing) ⊎ (live_state k ≡ Failed)
    → toil_by (live_state k) k + 1 < toil_by (live_state j) j
failed-less j k before out after = elim before [
  | inl working ↦ rw working.0 (omega (arith, working.1, out, most))
  | inr was ↦ rw was (omega (arith, out, most))
]
  where
    most : toil_by (live_state k) k ≤ 1 + 2 * out_of k
    most = elim after [ inl failing ↦ rw failing (omega arith) | inr over ↦ rw over (omega arith) ]

after-failing : (n : ℕ) → (after_failure n ≡ Failing) ⊎ (after_failure n ≡ Failed)
after-failing n = elim (cases_eq n 0) [
  | inl none ↦ inr (ap after_failure none)
  | inr some ↦ let t : (n == 0) ≡ false = grind (arith, nat_tests, some) in inl (ap (λ b. if b then Failed else Failing) t)
]

-- ---- sums

none-below : (f : ℕ → ℕ) (n : ℕ) → sum_below f n ≡ 0 → (t : ℕ) → t < n → f t ≡ 0
none-below f zero zero_is t below = absurd (omega (arith, below))
none-below f (suc n) zero_is t below = elim (cases_lt t n) [
  | inl less ↦ none-below f n (omega (arith, zero_is)) t less
  | inr past ↦
      let here : t ≡ n = omega (arith, past, below) in
      let none : f n ≡ 0 = omega (arith, zero_is) in
      ap f here ∙ none
]

-- a hand is free or full
pub free-full : (hands : List (Option Held)) → sum_by free_hand hands + sum_by full_hand hands ≡ length hands
free-full [] = refl
free-full (None ∷ hands) = omega (arith, sum_by-cons free_hand None hands, sum_by-cons full_hand None hands, free-full hands)
free-full (Some h ∷ hands) = omega (arith, sum_by-cons free_hand (Some h) hands, sum_by-cons full_hand (Some h) hands, free-full hands)

all-free : (hands : List (Option Held)) → sum_by full_hand hands ≡ 0 → (w : ℕ) → hand_of hands w ≡ None
all-free [] none w = refl
all-free (None ∷ hands) none zero = refl
all-free (None ∷ hands) none (suc w) = all-free hands (omega (arith, sum_by-cons full_hand None hands, none)) w
all-free (Some h ∷ hands) none w = absurd (omega (arith, sum_by-cons full_hand (Some h) hands, none))

-- ---- each move leaves less to do

-- the hand of a worker is one of sixteen
seated : (b : Bool) (n w : ℕ) → (b ≡ true → n < 16) → (if b then Some n else None) ≡ Some w → w < 16
seated true n w below is = subst (λ m. m < 16) (same_Some n w is) (below refl)
seated false n w below is = absurd (true≢false (sym (ap is_some is)))

pub seat-within : (x w : ℕ) → seat_of x ≡ Some w → w < 16
seat-within x w is = seated (nat_lt 0 x && nat_lt x 17) (x - 1) w (λ t. grind (arith, nat_tests, t)) is

less-replied : (a b : Account) (lost : Bool) → b ≡ with_reply a lost → a.spec ≡ None → answered_count a < length a.asked → unopened_count b < unopened_count a
less-replied a b lost is free below = omega (arith, below, ap unopened_count is, answered-replied a lost, ap one_if free)

few-open : (o : Option Spec) → one_if o ≤ 1
few-open None = omega arith
few-open (Some s) = omega arith

same-replied : (a b : Account) (lost : Bool) → b ≡ with_reply a lost → unopened_count b ≤ unopened_count a
same-replied a b lost is = omega (arith, ap unopened_count is, answered-replied a lost, few-open a.spec)

falls-open : (old new : Scene) (t : ℕ) (stepped : Stepped) → IsScene old → CanOpen old t → OpensFor old t stepped new → toil new < toil old
falls-open old new t NotNow scene can did = absurd (did.0 can)
falls-open old new t Answered scene can did =
    let m = did.1 in
    let same : can.0 ≡ m.account = same_Some can.0 m.account (sym can.1 ∙ m.is) in
    let free : IsUnopened m.account = subst IsUnopened same can.2 in
    subst (λ s. toil s < toil old) (sym m.new_is) (falls-account old t m.account m.next m.is (less-replied m.account m.next m.does.lost m.does.new_is free.1 free.0))
falls-open old new t Job scene can did =
    let m = did.1 in
    let j = m.submits.job in
    let fresh = starts-fresh m.spec j m.submits.starts in
    let same : can.0 ≡ m.account = same_Some can.0 m.account (sym can.1 ∙ m.is) in
    let free : IsUnopened m.account = subst IsUnopened same can.2 in
    let fewer : unopened_count m.next + 1 ≡ unopened_count m.account = omega (arith, free.0, ap unopened_count m.waits.new_is, ap one_if free.1) in
    let most : toil_of (Some m.submits.job) ≡ 2 + 2 * settles_left j = ap (λ st. toil_by st j) fresh.working in
    subst (λ s. toil s < toil old) (sym (m.new_is ∙ ap (with_account old t m.next) m.submits.new_is))
    (falls-moved old t m.account m.next (Some m.submits.job) old.floor.units m.is (there old t m.account scene m.is) (omega (arith, fewer, most, fresh.weight)))
falls-open old new t other scene can did = absurd did

over-not : (o : Option Live) → 0 < over_of o → CannotReply o → ⊥
over-not None more not = absurd (omega (arith, more))
over-not (Some j) more not = elim not [
  | inl working ↦ absurd (omega (arith, more, ap over_by working))
  | inr failing ↦ absurd (omega (arith, more, ap over_by failing))
]

falls-reply : (old new : Scene) (t : ℕ) (stepped : Stepped) → IsScene old → 0 < over_of (job_of old.floor.jobs t) → RepliesTo old t stepped new → toil new < toil old
falls-reply old new t NotNow scene more did = absurd (over-not (job_of old.floor.jobs t) more did.0)
falls-reply old new t Replied scene more did =
    let j = did.job in
    let one : toil_of (job_of old.floor.jobs t) ≡ 1 = ap toil_of did.job_is ∙ elim did.over [
      | inl done ↦ ap (λ st. toil_by st j) done.1
      | inr failed ↦ ap (λ st. toil_by st j) failed.1
    ] in
    let b = with_reply did.account did.lost in
    subst (λ s. toil s < toil old) (sym did.new_is)
    (falls-moved old t did.account b None old.floor.units did.is (there old t did.account scene did.is) (omega (arith, one, same-replied did.account b did.lost refl)))
falls-reply old new t other scene more did = absurd did

none-left : (o : Option Live) (jobs : List (Option Live)) (t : ℕ) → job_of jobs t ≡ o → 0 < claimable_count o → ((j : Live) → job_of jobs t ≡ Some j → claimable_in j ≡ []) → ⊥
none-left None jobs t is more none = absurd (omega (arith, more))
none-left (Some j) jobs t is more none = absurd (omega (arith, more, ap length (none j is)))

falls-start : (old new : Scene) (x : ℕ) (o : Option ℕ) (t pick : ℕ) (stepped : Stepped) → seat_of x ≡ o → IsScene old → MayStart old o t → StartsFor old o t pick stepped new → toil new < toil old
falls-start old new x None t pick stepped seat scene may did = absurd may.0
falls-start old new x (Some w) t pick (Started k) seat scene may did =
    let takes = (claimed-gives did.claims.job _ _ (Some did.piece) did.claims.next did.claims.claimed).1 in
    let j = did.claims.job in
    let n = did.claims.next in
    let same : toil_of (Some did.claims.next) ≡ toil_of (job_of old.floor.jobs t) =
    ap (λ st. toil_by st n) (takes.state ∙ takes.working) ∙ ap (λ x. 2 + 2 * x) takes.weight ∙ sym (ap toil_of did.claims.is ∙ ap (λ st. toil_by st j) takes.working) in
    subst (λ s. toil s < toil old) (sym (did.new_is ∙ ap (λ f. with_hand old f w (Some (record { tenant = t; piece = did.piece }))) did.claims.new_is))
    (falls-handed old t w (Some did.claims.next) old.floor.units _ (job-within old.floor.jobs t did.claims.job did.claims.is) (omega (arith, seat-within x w seat, scene.hands_many))
    (omega (arith, same, ap free_hand may.0)))
falls-start old new x (Some w) t pick NotNow seat scene may did = elim did.0 [
  | inl full ↦ absurd (true≢false (sym full ∙ ap is_some may.0))
  | inr none ↦ absurd (none-left (job_of old.floor.jobs t) old.floor.jobs t refl may.1 none)
]
falls-start old new x (Some w) t pick other seat scene may did = absurd did

falls-finish : (old new : Scene) (x : ℕ) (o : Option ℕ) (stepped : Stepped) → seat_of x ≡ o → IsScene old → MayFinishHand old o → Finishes old o stepped new → toil new < toil old
falls-finish old new x None stepped seat scene may did = absurd may
falls-finish old new x (Some w) (Finished n) seat scene may did =
    let t = did.held.tenant in
    let d = did.does_so in
    let pays = settles-pays d.job _ _ d.next d.settled in
    let less = settled-less d.job d.next pays.working pays.weight pays.after in
    subst (λ s. toil s < toil old) (sym (did.new_is ∙ ap (λ f. with_hand old f w None) d.new_is))
    (falls-handed old t w (Some d.next) (set old.floor.units t (tenant_units old.floor t + n)) None (job-within old.floor.jobs t d.job d.is) (omega (arith, seat-within x w seat, scene.hands_many))
    (omega (arith, less, ap toil_of d.is, ap free_hand did.is)))
falls-finish old new x (Some w) FinishedFailed seat scene may did =
    let t = did.held.tenant in
    let d = did.does_so in
    let breaks = fails-breaks d.job _ d.next d.failed in
    let after : (live_state d.next ≡ Failing) ⊎ (live_state d.next ≡ Failed) = subst (λ st. (st ≡ Failing) ⊎ (st ≡ Failed)) (sym breaks.state) (after-failing (out_of d.next)) in
    let less = failed-less d.job d.next breaks.going breaks.returns.out after in
    subst (λ s. toil s < toil old) (sym (did.new_is ∙ ap (λ f. with_hand old f w None) d.new_is))
    (falls-handed old t w (Some d.next) old.floor.units None (job-within old.floor.jobs t d.job d.is) (omega (arith, seat-within x w seat, scene.hands_many))
    (omega (arith, less, ap toil_of d.is, ap free_hand did.is)))
falls-finish old new x (Some w) NotNow seat scene may did = absurd (true≢false (sym may ∙ ap is_some did.0))
falls-finish old new x (Some w) other seat scene may did = absurd did

pub toil-falls : (old new : Scene) (e : Event) (stepped : Stepped) → IsScene old → IsMove old e → Steps old e stepped new → toil new < toil old
toil-falls old new (event.Admit t line) stepped scene move did = absurd move
toil-falls old new (event.Open t) stepped scene move did = falls-open old new t stepped scene move did
toil-falls old new (event.Start x t pick) stepped scene move did = falls-start old new x (seat_of x) t pick stepped refl scene move did
toil-falls old new (event.Finish x) stepped scene move did = falls-finish old new x (seat_of x) stepped refl scene move did
toil-falls old new (event.Reply t) stepped scene move did = falls-reply old new t stepped scene move did
toil-falls old new (event.Abort t) stepped scene move did = absurd move

-- ---- where no move is left

-- no piece is out
calm : (s : Scene) → IsScene s → ((w : ℕ) → hand_of s.hands w ≡ None) → (t : ℕ) (j : Live) → job_of s.floor.jobs t ≡ Some j → NoneOut j
calm s scene free t j job = λ k. none-from (work_at j k) (λ some.
    let out = the_some (work_at j k) some in
    let held : IsHeld s.hands t k = scene.held.all t k out.0 (ap (λ o. out_at o k) job ∙ out.1) in
    none-some held.held (sym (free held.hand) ∙ held.is))

-- a job with no piece out has a move
state-of : (j : Live) → IsLively j → NoneOut j → (st : State) → live_state j ≡ st → 0 < over_by (live_state j) + length (claimable_in j)
state-of j lively none Working is = omega (arith, lively.works is none)
state-of j lively none Failing is = absurd (lively.fails is none)
state-of j lively none over is = omega (arith, ap over_by is)

no-job : (s : Scene) (t : ℕ) (o : Option Live) → IsScene s → ((w : ℕ) → hand_of s.hands w ≡ None) → job_of s.floor.jobs t ≡ o → LivelyAt o → over_of o ≡ 0 → claimable_count o ≡ 0 → o ≡ None
no-job s t None scene free is lively over none = refl
no-job s t (Some j) scene free is lively over none =
    absurd (omega (arith, state-of j lively (calm s scene free t j is) (live_state j) refl, over, none))

opens-one : (a : Account) → a.spec ≡ None → answered_count a < length a.asked → opens_of (Some a) ≡ 1
opens-one a free below =
    let less : nat_lt (answered_count a) (length a.asked) ≡ true = grind (arith, nat_tests, below) in
    ap (λ b. if b then closed_by a.spec else 0) less ∙ ap closed_by free

pub all-answered : (s : Scene) → IsScene s → ((t : ℕ) → t < length s.accounts → LivelyAt (job_of s.floor.jobs t)) → moves_left s ≡ 0 → AllAnswered s
all-answered s scene lively none t a at =
    let within = slice_get_within s.accounts t a at in
    let full : sum_by full_hand s.hands ≡ 0 = omega (arith, none) in
    let moves : moves_at s t ≡ 0 = none-below (moves_at s) (length s.accounts) (omega (arith, none)) t within in
    let hands : sum_by free_hand s.hands ≡ 16 = omega (arith, free-full s.hands, full, scene.hands_many) in
    let starts : 16 * claimable_count (job_of s.floor.jobs t) ≡ sum_by free_hand s.hands * claimable_count (job_of s.floor.jobs t) = ap (λ n. n * claimable_count (job_of s.floor.jobs t)) (sym hands) in
    let gone : job_of s.floor.jobs t ≡ None = no-job s t (job_of s.floor.jobs t) scene (all-free s.hands full) refl (lively t within) (omega (arith, moves)) (omega (arith, moves, starts)) in
    let free : a.spec ≡ None = (both-none a.spec (job_of s.floor.jobs t) (scene.each t a at).pairs).1 gone in
    elim (cases_lt (answered_count a) (length a.asked)) [
      | inl more ↦ absurd (omega (arith, moves, ap opens_of at, opens-one a free more))
      | inr all ↦ omega (arith, all, answered-≤ a (scene.each t a at).sound)
    ]

-- ---- what is counted

-- a tenant has not many moves
pub moves-few : (opens over free claimable : ℕ) → opens ≤ 1 → over ≤ 1 → free ≤ 16 → claimable ≤ 20001 → opens + over + free * claimable ≤ 400000
moves-few opens over free claimable one two few some = omega (arith, one, two, mul-le free claimable 16 20001 few some)

pub free-few : (s now : Scene) (free : ℕ) → s ≡ now → length s.hands ≡ 16 → free ≡ sum_by free_hand now.hands → free ≤ 16
free-few s now free is many free_is = omega (arith, free-full now.hands, subst (λ (x : Scene). length x.hands ≡ 16) is many, free_is)

pub count-is : (s now : Scene) (count tenant free : ℕ) → s ≡ now → IsScene s → tenant ≡ length s.accounts → count ≡ sum_below (moves_at now) tenant → free ≡ sum_by free_hand now.hands
    → count + (16 - free) ≡ moves_left now
count-is s now count tenant free same scene all is free_is =
    let counted : count ≡ sum_below (moves_at now) (length now.accounts) = is ∙ ap (sum_below (moves_at now)) (all ∙ ap (λ (x : Scene). length x.accounts) same) in
    omega (arith, counted, free_is, free-full now.hands, subst (λ (x : Scene). length x.hands ≡ 16) same scene.hands_many)
