-- Which events drain may take, and what it does.
use Rattle.std.specs.Prelude.{◌≡◌, ◌<◌, ℕ, List, length, All, Option, Some, None, IsSome, slice_get}
use Rattle.ot_hall.specs.Lively.{claimable_count, over_of}
use Rattle.ot_core.specs.Accounts.{Account, answered_count}
use Rattle.ot_hall.specs.Floors.{job_of}
use Rattle.ot_core.specs.Scenes.{Scene, hand_of, seat_of, CanOpen, RunsOut, RunsTo}
use Rattle.ot_core.specs.declared.held.Held.{Held}
use Rattle.ot_core.specs.declared.event.Event.{Event}
use Rattle.ot_core.specs.declared.event.Event.TheVariants as event

-- the hand of this worker is free
abbrev pub IsFreeWorker : List (Option Held) → Option ℕ → Type 0
IsFreeWorker hands None = ⊥
IsFreeWorker hands (Some w) = hand_of hands w ≡ None

-- and the tenant has a claimable task
abbrev pub MayStart : Scene → Option ℕ → ℕ → Type 0
MayStart s w t = IsFreeWorker s.hands w × (0 < claimable_count (job_of s.floor.jobs t))

abbrev pub MayFinishHand : Scene → Option ℕ → Type 0
MayFinishHand s None = ⊥
MayFinishHand s (Some w) = IsSome (hand_of s.hands w)

-- an event other than Admit and Abort is enabled
abbrev pub IsMove : Scene → Event → Type 0
IsMove s (event.Admit t line) = ⊥
IsMove s (event.Open t) = CanOpen s t
IsMove s (event.Start w t pick) = MayStart s (seat_of w) t
IsMove s (event.Finish w) = MayFinishHand s (seat_of w)
IsMove s (event.Reply t) = 0 < over_of (job_of s.floor.jobs t)
IsMove s (event.Abort t) = ⊥

-- ---- what drain does

abbrev pub IsDrainable : Event → Type 0
IsDrainable (event.Admit t line) = ⊥
IsDrainable (event.Abort t) = ⊥
IsDrainable other = Unit {0}

-- some events lead there, none of them an Admit or an Abort
pub record Drains (old new : Scene) : Type 0 where
  pub events : List Event
  pub drainable : All IsDrainable events
  pub runs : RunsTo old events new

-- and at the next of them memory ran out
pub record DrainsPart (old new : Scene) : Type 0 where
  pub last : Scene
  pub drains : Drains old last
  pub next : Event
  pub move : IsMove last next
  pub out : RunsOut last next new

-- every line asked is answered
abbrev pub AllAnswered : Scene → Type 0
AllAnswered s = (t : ℕ) (a : Account) → slice_get s.accounts t ≡ Some a → answered_count a ≡ length a.asked
