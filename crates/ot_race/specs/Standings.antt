-- What a judge keeps of tasks while it goes along a list of events.
use Rattle.std.specs.Prelude.{◌≡◌, ◌<◌, ◌≤◌, ◌⊎◌, ◌↔◌, ℕ, Bool, true, List, [], map, get_or, Contains, Option, Some, slice_get}
use Rattle.ot_model.specs.declared.stmt.Use.{Use}
use Rattle.ot_check.specs.Offences.{awaits}
use Rattle.ot_race.specs.Ends.{HasEnded}
use Rattle.ot_race.specs.Events.{Event, Begins}
use Rattle.ot_race.specs.Order.{IsBy, Does, IsBefore}
use Rattle.ot_sets.specs.Sets.{bit_in, has, words_of}
use Rattle.ot_sets.specs.declared.numbers.Numbers.{Numbers}
use Rattle.ot_race.specs.declared.standing.Standing.{Standing}

-- what is kept of a task: the words of the set of what it knows, the last of its events, and the children that no wait for all
-- has awaited
pub record Kept : Type 0 where
  pub known : List ℕ
  pub last : ℕ
  pub pending : List ℕ

abbrev pub kept_of : Standing → Kept
kept_of st = record { known = words_of st.known; last = st.last; pending = st.pending.items }

-- what is kept of a task that had no event
abbrev pub nothing : Kept
nothing = record { known = []; last = 0; pending = [] }

abbrev pub kept_at : List Standing → ℕ → Kept
kept_at tasks t = get_or (map kept_of tasks) t nothing

-- whether a task knows an event
abbrev pub knows : List Standing → ℕ → ℕ → Bool
knows tasks t i = bit_in (kept_at tasks t).known i

abbrev pub last_of : List Standing → ℕ → ℕ
last_of tasks t = (kept_at tasks t).last

abbrev pub pending_of : List Standing → ℕ → List ℕ
pending_of tasks t = (kept_at tasks t).pending

-- all that the one task knows the other knows
abbrev pub IsWithin : List Standing → ℕ → ℕ → Type 0
IsWithin tasks s t = (i : ℕ) → knows tasks s i ≡ true → knows tasks t i ≡ true

-- event i is k, or before it
abbrev pub IsUpTo : List Event → ℕ → ℕ → Type 0
IsUpTo es i k = (i ≡ k) ⊎ IsBefore es i k

-- event i is, or is before, one of the first n events that is the task's
pub record IsKnownTo (es : List Event) (n task i : ℕ) : Type 0 where
  pub own : ℕ
  pub early : own < n
  pub done : IsBy es task own
  pub reached : IsUpTo es i own

-- of the task's first n events this is the last, and not before k
pub record IsLastFrom (es : List Event) (n task k last : ℕ) : Type 0 where
  pub behind : k ≤ last
  pub early : last < n
  pub done : IsBy es task last

-- what is kept of tasks is that of the first n events
pub record AreKept (es : List Event) (n : ℕ) (tasks : List Standing) : Type 0 where
  pub known : (t i : ℕ) → (knows tasks t i ≡ true) ↔ IsKnownTo es n t i
  pub lasts : (t k : ℕ) → k < n → IsBy es t k → IsLastFrom es n t k (last_of tasks t)

-- among the first n events the child of the parent began
pub record HasBegun (es : List Event) (n parent child : ℕ) : Type 0 where
  pub begin : ℕ
  pub uses : List Use
  pub early : begin < n
  pub does : Does es child (Begins parent uses) begin

-- the children that are pending began among the first n events, and each other one has ended, and its parent knows all that it
-- knows
pub record ArePending (es : List Event) (n : ℕ) (tasks : List Standing) : Type 0 where
  pub sound : (p c : ℕ) → Contains (pending_of tasks p) c → HasBegun es n p c
  pub all : (p c : ℕ) → HasBegun es n p c → Contains (pending_of tasks p) c ⊎ (HasEnded es n c × IsWithin tasks c p)

-- where a set has the last event of a task, it has all that the task knows
abbrev pub IsWhole : List Standing → Numbers → Type 0
IsWhole tasks known = (t i : ℕ) → has known (last_of tasks t) ≡ true → knows tasks t i ≡ true → has known i ≡ true

-- so have the sets of the tasks themselves
abbrev pub AreNested : List Standing → Type 0
AreNested tasks = (s t i : ℕ) → knows tasks s (last_of tasks t) ≡ true → knows tasks t i ≡ true → knows tasks s i ≡ true

-- one of these tasks, from this place of their list on, knows event i
pub record IsOfListed (tasks : List Standing) (list : List ℕ) (from i : ℕ) : Type 0 where
  pub place : ℕ
  pub task : ℕ
  pub late : from ≤ place
  pub there : slice_get list place ≡ Some task
  pub known : knows tasks task i ≡ true

-- a child that began among the first n events and that such a wait would await knows event i
pub record IsOfChild (es : List Event) (n : ℕ) (tasks : List Standing) (parent : ℕ) (wait : Option (List Use)) (i : ℕ) : Type 0 where
  pub child : ℕ
  pub begin : ℕ
  pub uses : List Use
  pub early : begin < n
  pub does : Does es child (Begins parent uses) begin
  pub awaited : awaits wait uses ≡ true
  pub known : knows tasks child i ≡ true

-- a task with an event from this one on and before that one knows event i
pub record IsInside (es : List Event) (tasks : List Standing) (from until i : ℕ) : Type 0 where
  pub place : ℕ
  pub task : ℕ
  pub late : from ≤ place
  pub early : place < until
  pub done : IsBy es task place
  pub known : knows tasks task i ≡ true
