-- What a judge keeps is that of the events so far.
use Rattle.std.specs.Prelude.{◌≡◌, ◌⊎◌, ℕ, false, List, Contains, Some, None}
use Rattle.ot_model.specs.declared.stmt.Use.{Use}
use Rattle.ot_race.specs.Ends.{AreEnds, goes_on}
use Rattle.ot_race.specs.Events.{Event, Begins, Awaits}
use Rattle.ot_race.specs.Order.{Does}
use Rattle.ot_race.specs.Siblings.{siblings_seen, IsLedTo, IsSeenBy, AreSiblings}
use Rattle.ot_race.specs.Standings.{pending_of, AreKept, ArePending}
use Rattle.ot_race.specs.declared.order.Standings.{Standings}
use Rattle.ot_race.specs.declared.siblings.Siblings.{Siblings}
use Rattle.ot_race.specs.declared.standing.Standing.{Standing}

-- what is kept is that of the first n events
pub record Stands (es : List Event) (n : ℕ) (s : Standings) : Type 0 where
  pub kept : AreKept es n s.tasks.items
  pub pending : ArePending es n s.tasks.items
  pub siblings : AreSiblings es n s.tasks.items s.siblings
  pub ends : AreEnds es s.ends.items

-- event n begins a child that has such a use and is seen, or is a wait of the parent that has one; the use sees child c
pub record IsPassedBy (es : List Event) (n parent : ℕ) (old new : Siblings) (u : Use) (c : ℕ) : Type 0 where
  pub uses : List Use
  pub sees : IsSeenBy old parent uses u.cell c
  pub by : ((t : ℕ) × Does es t (Begins parent uses) n × Contains (siblings_seen new parent u) t) ⊎ Does es parent (Awaits (Some uses)) n

-- event n is noted in the rows
pub record SiblingsNote (es : List Event) (n : ℕ) (ends : List ℕ) (old new : Siblings) : Type 0 where
  pub only : (p c : ℕ) (u : Use) → Contains (siblings_seen new p u) c → Contains (siblings_seen old p u) c ⊎ ((uses : List Use) × Does es c (Begins p uses) n × IsLedTo uses u)
  pub kept : (p c : ℕ) (u : Use) → Contains (siblings_seen old p u) c → Contains (siblings_seen new p u) c ⊎ ((goes_on ends n c ≡ false) × IsPassedBy es n p old new u c)
  pub entered : (p c : ℕ) (uses : List Use) (u : Use) → Does es c (Begins p uses) n → IsLedTo uses u → Contains (siblings_seen new p u) c

-- event n is noted among the children that are pending
pub record PendingNote (es : List Event) (n : ℕ) (ends : List ℕ) (old new : List Standing) : Type 0 where
  pub only : (p c : ℕ) → Contains (pending_of new p) c → Contains (pending_of old p) c ⊎ ((uses : List Use) × Does es c (Begins p uses) n)
  pub kept : (p c : ℕ) → Contains (pending_of old p) c → Contains (pending_of new p) c ⊎ ((goes_on ends n c ≡ false) × Does es p (Awaits None) n)
  pub entered : (p c : ℕ) (uses : List Use) → Does es c (Begins p uses) n → Contains (pending_of new p) c
