-- A world: its tenants, their jobs, and the pieces in the hands of workers.
use Rattle.std.specs.Prelude.{◌≡◌, ◌≢◌, ◌+◌, ◌==◌, if◌then◌else◌, ◌⊎◌, ℕ, List, option_map, IsSome, Bool, true, false, Option, Some, None, slice_get, slice_set, ◌≤◌, ◌*◌, ◌-◌, ◌&&◌, nat_lt, length, slice_index_or, [], ◌∷◌, take}
use Rattle.ot_check.specs.Jobs.{Spec}
use Rattle.ot_job.specs.Dealings.{Live, FailsBy, work_brought, live_state, IsOf, Work, work_of, work_at, settled_units}
use Rattle.ot_job.specs.Taken.{Taken as Piece, Came as Done}
use Rattle.ot_job.specs.declared.state.State.TheVariants as state
use Rattle.ot_core.specs.Accounts.{Account, IsSoundAccount, answered_count, LacksRoom, MayAsk, IsUnopened, IsAnswered, Waits, with_reply}
use Rattle.ot_core.specs.Accounts as asking
use Rattle.ot_hall.specs.Floors.{job_of, Floor, tenant_units, with_job, SubmitsFor, NothingAt, ClaimsFor, IsWorking, SettlesFor, AbortsJob}
use Rattle.ot_core.specs.declared.held.Held.{Held}
use Rattle.ot_core.specs.declared.event.Stepped.{Stepped}
use Rattle.ot_core.specs.declared.event.Event.{Event}
use Rattle.ot_core.specs.declared.event.Event.TheVariants as event
use Rattle.ot_core.specs.declared.event.Stepped.TheVariants.{Asked, Full, Answered, Job, Replied, Started, Finished, FinishedFailed, Aborted, NotNow}

pub record Scene : Type 0 where
  pub accounts : List Account
  pub floor : Floor
  pub hands : List (Option Held)

-- what a hand holds
abbrev pub hand_of : List (Option Held) → ℕ → Option Held
hand_of hands w = slice_index_or hands w None

-- the hand of a worker: workers have numbers from 1 to 16, and hands from 0 on
abbrev pub seat_of : ℕ → Option ℕ
seat_of worker = if nat_lt 0 worker && nat_lt worker 17 then Some (worker - 1) else None

-- a tenant has a job exactly where a request of it is open, and it is that request's
abbrev pub Pairs : Option Spec → Option Live → Type 0
Pairs None None = Unit {0}
Pairs None (Some j) = ⊥
Pairs (Some s) None = ⊥
Pairs (Some s) (Some j) = IsOf s j

-- the units that were settled of a job
abbrev pub units_in : Option Live → ℕ
units_in None = 0
units_in (Some j) = settled_units j

-- a tenant's account, its job and its units go together
pub record Agrees (a : Account) (job : Option Live) (units : ℕ) : Type 0 where
  pub sound : IsSoundAccount a
  pub pairs : Pairs a.spec job
  pub paid : units ≤ 20000 * answered_count a + units_in job
  pub bounded : units_in job ≤ 20000

-- the piece of a task of this job that is out
abbrev pub out_at : Option Live → ℕ → Option Work
out_at None k = None
out_at (Some j) k = work_at j k

-- what the piece in a hand is of its job
abbrev pub held_work : Held → Work
held_work h = work_of h.piece

-- some hand has the piece of this task
pub record IsHeld (hands : List (Option Held)) (tenant task : ℕ) : Type 0 where
  pub hand : ℕ
  pub held : Held
  pub is : hand_of hands hand ≡ Some held
  pub tenant_is : held.tenant ≡ tenant
  pub task_is : held.piece.task ≡ task

-- the pieces in hands are those that are out
pub record AreInHands (jobs : List (Option Live)) (hands : List (Option Held)) : Type 0 where
  pub out : (w : ℕ) (h : Held) → hand_of hands w ≡ Some h → out_at (job_of jobs h.tenant) h.piece.task ≡ Some (held_work h)
  pub one : (v w : ℕ) (g h : Held) → hand_of hands v ≡ Some g → hand_of hands w ≡ Some h → g.tenant ≡ h.tenant → g.piece.task ≡ h.piece.task → v ≡ w
  pub all : (t k : ℕ) (work : Work) → out_at (job_of jobs t) k ≡ Some work → IsHeld hands t k

pub record IsScene (s : Scene) : Type 0 where
  pub each : (t : ℕ) (a : Account) → slice_get s.accounts t ≡ Some a → Agrees a (job_of s.floor.jobs t) (tenant_units s.floor t)
  pub jobs_many : length s.floor.jobs ≡ length s.accounts
  pub units_many : length s.floor.units ≡ length s.accounts
  pub few : length s.accounts ≤ 64
  pub hands_many : length s.hands ≡ 16
  pub held : AreInHands s.floor.jobs s.hands

-- What each event does.

-- the world with another account of one tenant, and this floor
abbrev pub with_account : Scene → ℕ → Account → Floor → Scene
with_account s t a floor = record { accounts = slice_set s.accounts t a; floor = floor; hands = s.hands }

-- the world with another thing in one hand, and this floor
abbrev pub with_hand : Scene → Floor → ℕ → Option Held → Scene
with_hand s floor w hand = record { accounts = s.accounts; floor = floor; hands = slice_set s.hands w hand }

-- ---- a tenant asks a line

-- the tenant's account alone becomes another
pub record Moves (P : Account → Account → Type 0) (old : Scene) (t : ℕ) (new : Scene) : Type 0 where
  pub account : Account
  pub is : slice_get old.accounts t ≡ Some account
  pub next : Account
  pub does : P account next
  pub new_is : new ≡ with_account old t next old.floor

-- there is such a tenant, and this holds of it
abbrev pub HasTenant : (Account → Type 0) → Scene → ℕ → Type 0
HasTenant P s t = (a : Account) × (slice_get s.accounts t ≡ Some a) × P a

abbrev pub AdmitsFor : Scene → ℕ → List ℕ → Stepped → Scene → Type 0
AdmitsFor old t line NotNow new = (slice_get old.accounts t ≡ None) × (new ≡ old)
AdmitsFor old t line Full new = HasTenant (λ a. LacksRoom a line) old t × (new ≡ old)
AdmitsFor old t line Asked new = Moves (λ a b. asking.AdmitsLine a line true b) old t new
AdmitsFor old t line other new = ⊥

-- ---- a tenant's next line is opened

abbrev pub CanOpen : Scene → ℕ → Type 0
CanOpen s t = HasTenant IsUnopened s t

-- the tenant's next line runs a job
pub record StartsJob (old : Scene) (t : ℕ) (new : Scene) : Type 0 where
  pub account : Account
  pub is : slice_get old.accounts t ≡ Some account
  pub spec : Spec
  pub next : Account
  pub waits : Waits account spec next
  pub floor : Floor
  pub submits : SubmitsFor old.floor t spec floor
  pub new_is : new ≡ with_account old t next floor

abbrev pub OpensFor : Scene → ℕ → Stepped → Scene → Type 0
OpensFor old t NotNow new = (¬ (CanOpen old t)) × (new ≡ old)
OpensFor old t Answered new = CanOpen old t × Moves IsAnswered old t new
OpensFor old t Job new = CanOpen old t × StartsJob old t new
OpensFor old t other new = ⊥

-- ---- a worker takes a piece

-- the hand takes the piece that the job's claim gives
pub record HandTakes (old : Scene) (w t pick task : ℕ) (new : Scene) : Type 0 where
  pub free : hand_of old.hands w ≡ None
  pub piece : Piece
  pub floor : Floor
  pub claims : ClaimsFor old.floor t pick (w + 1) piece floor
  pub task_is : task ≡ piece.task
  pub new_is : new ≡ with_hand old floor w (Some (record { tenant = t; piece = piece }))

-- the hand is full, or the tenant has no claimable task
abbrev pub CannotStart : Scene → ℕ → ℕ → Type 0
CannotStart s w t = IsSome (hand_of s.hands w) ⊎ NothingAt s.floor.jobs t

abbrev pub StartsFor : Scene → Option ℕ → ℕ → ℕ → Stepped → Scene → Type 0
StartsFor old None t pick stepped new = (stepped ≡ NotNow) × (new ≡ old)
StartsFor old (Some w) t pick (Started k) new = HandTakes old w t pick k new
StartsFor old (Some w) t pick NotNow new = CannotStart old w t × (new ≡ old)
StartsFor old (Some w) t pick other new = ⊥

-- ---- a worker has run its piece

-- the hand's piece fails its job
pub record BreaksJob (old : Floor) (t : ℕ) (done : Done) (new : Floor) : Type 0 where
  pub job : Live
  pub is : job_of old.jobs t ≡ Some job
  pub next : Live
  pub failed : FailsBy job done next
  pub new_is : new ≡ with_job old t (Some next)

-- the hand gives its piece back, which was run: it is settled, or the job fails
pub record GivesBack (old : Scene) (w : ℕ) (does : Floor → ℕ → Done → Floor → Type 0) (new : Scene) : Type 0 where
  pub held : Held
  pub is : hand_of old.hands w ≡ Some held
  pub done : Done
  pub task_is : done.task ≡ held.piece.task
  pub ran : work_brought done ≡ held_work held
  pub floor : Floor
  pub does_so : does old.floor held.tenant done floor
  pub new_is : new ≡ with_hand old floor w None

abbrev pub Finishes : Scene → Option ℕ → Stepped → Scene → Type 0
Finishes old None stepped new = (stepped ≡ NotNow) × (new ≡ old)
Finishes old (Some w) (Finished n) new = GivesBack old w (λ f t d g. SettlesFor f t d n g) new
Finishes old (Some w) FinishedFailed new = GivesBack old w BreaksJob new
Finishes old (Some w) NotNow new = (hand_of old.hands w ≡ None) × (new ≡ old)
Finishes old (Some w) other new = ⊥

-- ---- a tenant is told what its job came to

-- the job is over: it is done, or failed for want of memory
pub record EndsJob (old : Scene) (t : ℕ) (new : Scene) : Type 0 where
  pub account : Account
  pub is : slice_get old.accounts t ≡ Some account
  pub job : Live
  pub job_is : job_of old.floor.jobs t ≡ Some job
  pub lost : Bool
  pub over : ((lost ≡ false) × (live_state job ≡ state.Ended)) ⊎ ((lost ≡ true) × (live_state job ≡ state.Failed))
  pub new_is : new ≡ with_account old t (with_reply account lost) (with_job old.floor t None)

-- no job of the tenant is over
abbrev pub CannotReply : Option Live → Type 0
CannotReply None = Unit {0}
CannotReply (Some j) = (live_state j ≡ state.Working) ⊎ (live_state j ≡ state.Failing)

abbrev pub RepliesTo : Scene → ℕ → Stepped → Scene → Type 0
RepliesTo old t NotNow new = CannotReply (job_of old.floor.jobs t) × (new ≡ old)
RepliesTo old t Replied new = EndsJob old t new
RepliesTo old t other new = ⊥

-- ---- a tenant's job fails, for want of memory at a claim

pub record StopsJob (old : Scene) (t : ℕ) (new : Scene) : Type 0 where
  pub working : IsWorking old.floor t
  pub floor : Floor
  pub aborts : AbortsJob old.floor t floor
  pub new_is : new ≡ record old { floor = floor }

abbrev pub AbortsFor : Scene → ℕ → Stepped → Scene → Type 0
AbortsFor old t NotNow new = (¬ (IsWorking old.floor t)) × (new ≡ old)
AbortsFor old t Aborted new = StopsJob old t new
AbortsFor old t other new = ⊥

-- ---- events

abbrev pub Steps : Scene → Event → Stepped → Scene → Type 0
Steps old (event.Admit t line) stepped new = AdmitsFor old t line.now stepped new
Steps old (event.Open t) stepped new = OpensFor old t stepped new
Steps old (event.Start w t pick) stepped new = StartsFor old (seat_of w) t pick stepped new
Steps old (event.Finish w) stepped new = Finishes old (seat_of w) stepped new
Steps old (event.Reply t) stepped new = RepliesTo old t stepped new
Steps old (event.Abort t) stepped new = AbortsFor old t stepped new

-- ---- want of memory

-- the worker's hand is free, and the tenant's job works and has a claimable task
abbrev pub MayTake : Scene → Option ℕ → ℕ → Type 0
MayTake s None t = ⊥
MayTake s (Some w) t = (hand_of s.hands w ≡ None) × IsWorking s.floor t × ¬ (NothingAt s.floor.jobs t)

-- Memory may run out where a line is asked, opened, or a piece taken: where a number is left for the line, the line may
-- be opened, and the hand is free and the job works and has a claimable task. No other event takes memory that it could
-- be refused.
abbrev pub MayRunOut : Scene → Event → Type 0
MayRunOut s (event.Admit t line) = HasTenant MayAsk s t
MayRunOut s (event.Open t) = CanOpen s t
MayRunOut s (event.Start w t pick) = MayTake s (seat_of w) t
MayRunOut s other = ⊥

-- memory ran out at this event, and nothing has changed
pub record RunsOut (old : Scene) (e : Event) (new : Scene) : Type 0 where
  pub may : MayRunOut old e
  pub same : new ≡ old

-- ---- the other tenants

-- whose piece is in the hand
abbrev pub holder : Option ℕ → List (Option Held) → Option ℕ
holder None hands = None
holder (Some w) hands = option_map (λ h. h.tenant) (hand_of hands w)

-- whose event it is
abbrev pub tenant_of : Event → List (Option Held) → Option ℕ
tenant_of (event.Admit t line) hands = Some t
tenant_of (event.Open t) hands = Some t
tenant_of (event.Start w t pick) hands = Some t
tenant_of (event.Finish w) hands = holder (seat_of w) hands
tenant_of (event.Reply t) hands = Some t
tenant_of (event.Abort t) hands = Some t

-- a piece of this tenant
abbrev pub of_tenant : ℕ → Option Held → Option Held
of_tenant t None = None
of_tenant t (Some h) = if h.tenant == t then Some h else None

-- the tenant's book, lines, replies, job, units and pieces in hands are as they were
pub record IsAsItWas (t : ℕ) (old new : Scene) : Type 0 where
  pub account : slice_get new.accounts t ≡ slice_get old.accounts t
  pub job : job_of new.floor.jobs t ≡ job_of old.floor.jobs t
  pub units : tenant_units new.floor t ≡ tenant_units old.floor t
  pub hands : (w : ℕ) → of_tenant t (hand_of new.hands w) ≡ of_tenant t (hand_of old.hands w)

abbrev pub LeavesOthers : Event → Scene → Scene → Type 0
LeavesOthers e old new = (u : ℕ) → Some u ≢ tenant_of e old.hands → IsAsItWas u old new

-- One event after another.

abbrev pub RunsTo : Scene → List Event → Scene → Type 0
RunsTo old [] new = new ≡ old
RunsTo old (e ∷ es) new = (mid : Scene) × (stepped : Stepped) × Steps old e stepped mid × RunsTo mid es new

-- the first of these lead there, and at the next one memory ran out
pub record RunsPart (old : Scene) (events : List Event) (new : Scene) : Type 0 where
  pub done : ℕ
  pub next : Event
  pub is_next : slice_get events done ≡ Some next
  pub last : Scene
  pub runs : RunsTo old (take done events) last
  pub out : RunsOut last next new
