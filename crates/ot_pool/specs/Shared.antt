-- What all threads share, and what each turn under the lock does to it.
use Rattle.std.specs.Prelude.{◌≡◌, ◌+◌, ◌<◌, ◌^◌, ◌↔◌, ◌⊎◌, ℕ, List, length, replicate, Bool, true, false, Option, Some, None, option_map, Result, Ok, Err}
use Rattle.ot_check.specs.Jobs.{Spec}
use Rattle.ot_check.specs.declared.job.Outcome.{Outcome}
use Rattle.ot_job.specs.Dealings.{Live, live_state}
use Rattle.ot_job.specs.declared.state.State.{State}
use Rattle.ot_job.specs.declared.state.State.TheVariants.{Working, Failing}
use Rattle.ot_job.specs.Taken.{Came as Done}
use Rattle.ot_job.specs.declared.piece.Refused.{Refused}
use Rattle.ot_book.specs.declared.executor.NotDone.{NotDone}
use Rattle.ot_book.specs.declared.executor.NotDone.TheVariants.{Memory, Closed, Stranger}
use Rattle.ot_hall.specs.Floors.{job_of, Floor, new_floor, total_of, IsFree, IsWorking, NothingAt, RefusesIn, FailsIn, AbortsJob, ClaimsSome}
use Rattle.ot_hall.specs.Floors as floors
use Rattle.ot_hall.specs.declared.hall.Collected.TheVariants as collected
use Rattle.ot_pool.specs.Tickets.{one_ticket_more, HasTicket, next_ticket, IsNewest}
use Rattle.ot_pool.specs.declared.tickets.Ticket.{Ticket}
use Rattle.ot_pool.specs.declared.hub.Claimed.{Claimed}
use Rattle.ot_pool.specs.declared.hub.Claimed.TheVariants as claimed

-- the jobs and units of all tenants, the numbers of their newest jobs, and the mark of closing
pub record Shared : Type 0 where
  pub floor : Floor
  pub numbers : List ℕ
  pub closed : Bool

-- nobody has had a job, nothing was settled, and the mark isn't set
abbrev pub new_shared : ℕ → Shared
new_shared tenants = record { floor = new_floor tenants; numbers = replicate tenants 0; closed = false }

-- whether the total has room for the units of one more piece
abbrev pub HasRoomForUnits : Floor → Type 0
HasRoomForUnits f = total_of f + 20000 < 2 ^ 63

-- What the type carries, of so many units in the ledger's book and so many tenants: the book has the total; where the mark isn't
-- set there is room for one more piece; each tenant has its places.
pub record IsInvariant (s : Shared) (units tenants : ℕ) : Type 0 where
  pub counted : units ≡ total_of s.floor
  pub room : s.closed ≡ false → HasRoomForUnits s.floor
  pub jobs_many : length s.floor.jobs ≡ tenants
  pub units_many : length s.floor.units ≡ tenants

-- nothing has changed, for the mark is set
pub record FindsClosed (old new : Shared) : Type 0 where
  pub closed : old.closed ≡ true
  pub same : new ≡ old

-- the mark isn't set, and the floor alone changes
pub record Turns (P : Floor → Floor → Type 0) (old new : Shared) : Type 0 where
  pub is_open : old.closed ≡ false
  pub does : P old.floor new.floor
  pub numbered : new.numbers ≡ old.numbers
  pub still : new.closed ≡ false

-- the mark isn't set, and the floor changes by one job more of the tenant
pub record BeginsShared (P : Floor → Floor → Type 0) (t : ℕ) (old new : Shared) : Type 0 where
  pub is_open : old.closed ≡ false
  pub does : P old.floor new.floor
  pub numbered : new.numbers ≡ one_ticket_more old.numbers t
  pub still : new.closed ≡ false

-- ---- submit

-- the tenant has a job of this spec that begins
abbrev pub Submits : Shared → ℕ → Spec → Shared → Type 0
Submits old t spec new = BeginsShared (λ f g. floors.SubmitsFor f t spec g) t old new

-- why a spec isn't taken
abbrev pub RefusesSpec : Shared → ℕ → NotDone → Type 0
RefusesSpec old t Closed = old.closed ≡ true
RefusesSpec old t Stranger = (old.closed ≡ false) × ¬ (IsFree old.floor t)
RefusesSpec old t Memory = (old.closed ≡ false) × IsFree old.floor t

-- ---- a submit in two calls: the job begins before the turn, and the turn takes it in

-- the tenant has this job, and whoever brought it has a ticket, which no other job has
pub record Enters (old : Shared) (t : ℕ) (job : Live) (ticket : Ticket) (new : Shared) : Type 0 where
  pub begins : BeginsShared (λ f g. floors.EntersFor f t job g) t old new
  pub some : HasTicket old.numbers t
  pub ticket_is : ticket ≡ next_ticket old.numbers t

-- why a job isn't taken in
abbrev pub RefusesJob : Shared → ℕ → NotDone → Type 0
RefusesJob old t Closed = old.closed ≡ true
RefusesJob old t Stranger = (old.closed ≡ false) × (¬ (IsFree old.floor t) ⊎ ¬ (HasTicket old.numbers t))
RefusesJob old t Memory = (old.closed ≡ false) × IsFree old.floor t × HasTicket old.numbers t

-- ---- claim

-- memory ran out at a claim of the tenant's job, which works, and so it fails
pub record AbortsAtClaim (t : ℕ) (old new : Floor) : Type 0 where
  pub working : IsWorking old t
  pub some : ¬ (NothingAt old.jobs t)
  pub aborts : AbortsJob old t new

-- a piece of some tenant, where a tenant has a claimable task
abbrev pub ClaimsAny : Shared → ℕ → ℕ → Claimed → Shared → Type 0
ClaimsAny old turn worker (claimed.Got t piece) new = Turns (λ f g. ClaimsSome f turn worker (Some (t, piece)) g) old new
ClaimsAny old turn worker claimed.Idle new = Turns (λ f g. ClaimsSome f turn worker None g) old new
ClaimsAny old turn worker (claimed.Aborted t) new = Turns (AbortsAtClaim t) old new
ClaimsAny old turn worker claimed.Closed new = FindsClosed old new

-- ---- settle

-- A piece is settled, and its units are counted. The mark is set where there is no room for one more.
pub record SettlesAndMarks (old : Shared) (t : ℕ) (done : Done) (n : ℕ) (new : Shared) : Type 0 where
  pub is_open : old.closed ≡ false
  pub settles : floors.SettlesFor old.floor t done n new.floor
  pub numbered : new.numbers ≡ old.numbers
  pub bound : new.closed ≡ false ↔ HasRoomForUnits new.floor

-- a piece isn't settled, and fails the job that it is of
pub record BreaksItsJob (t : ℕ) (done : Done) (old new : Floor) : Type 0 where
  pub why : Refused
  pub refused : RefusesIn (job_of old.jobs t) done why
  pub fails : FailsIn old t done (job_of old.jobs t) new

-- in a closed pool a piece fails the job that it is of, whatever it is
pub record FailsClosed (old : Shared) (t : ℕ) (done : Done) (new : Shared) : Type 0 where
  pub closed : old.closed ≡ true
  pub fails : FailsIn old.floor t done (job_of old.floor.jobs t) new.floor
  pub numbered : new.numbers ≡ old.numbers
  pub still : new.closed ≡ true

-- a piece comes back with so many units counted, or with none
abbrev pub ReturnsPiece : Shared → ℕ → Done → Option ℕ → Shared → Type 0
ReturnsPiece old t done (Some n) new = SettlesAndMarks old t done n new
ReturnsPiece old t done None new = Turns (BreaksItsJob t done) old new ⊎ FailsClosed old t done new

-- ---- collect

-- whoever submitted this spec asks for its job
abbrev pub Collects : Shared → ℕ → Spec → Option (Result Outcome NotDone) → Shared → Type 0
Collects old t spec None new = Turns (λ f g. floors.CollectsFor f t spec collected.Pending g) old new
Collects old t spec (Some (Ok outcome)) new = Turns (λ f g. floors.CollectsFor f t spec (collected.Ended outcome) g) old new
Collects old t spec (Some (Err Memory)) new = Turns (λ f g. floors.CollectsFor f t spec collected.Failed g) old new
Collects old t spec (Some (Err Stranger)) new = Turns (λ f g. floors.CollectsFor f t spec collected.Stranger g) old new
Collects old t spec (Some (Err Closed)) new = FindsClosed old new

-- ---- looks, which are no turns

-- a job that isn't over
abbrev pub is_going : Option State → Bool
is_going (Some Working) = true
is_going (Some Failing) = true
is_going _ = false

-- ---- a collect in two calls: the turn takes out a job that is over, and behind it the client is told what it came to

-- the tenant has a job that isn't over
abbrev pub IsGoing : Floor → ℕ → Type 0
IsGoing f t = is_going (option_map (λ j. live_state j) (job_of f.jobs t)) ≡ true

-- the ticket's job isn't there: it isn't its tenant's newest, or the tenant has none
abbrev pub IsGone : Shared → Ticket → Type 0
IsGone s k = ¬ (IsNewest s.numbers k) ⊎ (job_of s.floor.jobs k.tenant ≡ None)

-- the ticket's job, if it is over; the job of no other ticket is taken out
abbrev pub Leaves : Shared → Ticket → Option (Result Live NotDone) → Shared → Type 0
Leaves old k None new = IsNewest old.numbers k × Turns (λ f g. IsGoing f k.tenant × (g ≡ f)) old new
Leaves old k (Some (Ok job)) new = IsNewest old.numbers k × Turns (λ f g. floors.LeavesFor f k.tenant job g) old new
Leaves old k (Some (Err Memory)) new = ⊥
Leaves old k (Some (Err Stranger)) new = IsGone old k × Turns (λ f g. g ≡ f) old new
Leaves old k (Some (Err Closed)) new = FindsClosed old new
