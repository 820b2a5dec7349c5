-- Ways by questions: what happens is told by the answers to the questions that are asked on the way, in their order.
use Rattle.std.specs.Prelude.{◌≡◌, ◌<◌, ◌+◌, ◌++◌, ◌⊎◌, nat_le, if◌then◌else◌, All, ℕ, zero, suc, Bool, true, false, List, [], ◌∷◌, length}
use Rattle.ot_race_order.specs.Orders.{ordered_by}
use Rattle.ot_race_order.specs.declared.order.Order.{Order}
use Rattle.ot_race.specs.Events.{Event}
use Rattle.ot_race.specs.Races.{NothingRaces, IsFirstRace}
use Rattle.ot_exec_outline.specs.Followed.{list_answer}
use Rattle.ot_exec_outline.specs.declared.ways.Told.{Told}
use Rattle.ot_exec_outline.specs.declared.ways.Told.TheVariants.{RacesNowhere, RacesOn, TooMany}

-- answers that are the same as far as questions are asked lead to the same events and questions
abbrev pub IsStable : ((ℕ → Bool) → List Event) → ((ℕ → Bool) → ℕ) → Type 0
IsStable events asked = (p q : ℕ → Bool) → ((k : ℕ) → k < asked p → p k ≡ q k) → (events p ≡ events q) × (asked p ≡ asked q)

-- answers that begin with these
abbrev pub Begins : List Bool → (ℕ → Bool) → Type 0
Begins given answers = (k : ℕ) → k < length given → answers k ≡ list_answer given k

-- how questions end: all that are asked have these answers, or more are asked than may be answered
pub data Ending : Type 0 where
  Settled : List Bool → Ending
  AsksMore : Ending

-- the ends behind these answers, where at most so many more questions may be answered: those behind a yes come first
abbrev pub endings : ((ℕ → Bool) → ℕ) → ℕ → List Bool → List Ending
endings asked zero given = if nat_le (asked (list_answer given)) (length given) then Settled given ∷ [] else AsksMore ∷ []
endings asked (suc more) given =
    if nat_le (asked (list_answer given)) (length given) then Settled given ∷ []
    else endings asked more (given ++ true ∷ []) ++ endings asked more (given ++ false ∷ [])

-- questions end there, and nothing races on that way
abbrev pub HasNoRace : Order → ((ℕ → Bool) → List Event) → Ending → Type 0
HasNoRace order events (Settled given) = NothingRaces (ordered_by order (events (list_answer given)))
HasNoRace order events AsksMore = ⊥

-- of the ends this is the first but for those without a race, each of which takes one from the budget
pub record ComesTo (order : Order) (events : (ℕ → Bool) → List Event) (ends : List Ending) (budget left : ℕ) (it : Ending) : Type 0 where
  pub before : List Ending
  pub behind : List Ending
  pub ends_are : ends ≡ before ++ it ∷ behind
  pub none : All (HasNoRace order events) before
  pub taken : budget ≡ left + length before

-- what is told of these ends with this budget, and what is left of it then
abbrev pub TellsOf : Order → ((ℕ → Bool) → List Event) → List Ending → (budget left : ℕ) → Told → Type 0
TellsOf order events ends budget left RacesNowhere = All (HasNoRace order events) ends × (budget ≡ left + length ends)
TellsOf order events ends budget left (RacesOn answers race) =
    ComesTo order events ends budget (left + 1) (Settled answers.items)
    × IsFirstRace (ordered_by order (events (list_answer answers.items))) race.cell race.place race.later
TellsOf order events ends budget left TooMany =
    ComesTo order events ends budget left AsksMore ⊎ ((given : List Bool) × ComesTo order events ends budget 0 (Settled given) × (left ≡ 0))

-- what is told of the way of these answers alone
abbrev pub TellsAlone : Order → ((ℕ → Bool) → List Event) → List Bool → Told → Type 0
TellsAlone order events given RacesNowhere = NothingRaces (ordered_by order (events (list_answer given)))
TellsAlone order events given (RacesOn answers race) =
    (answers.items ≡ given) × IsFirstRace (ordered_by order (events (list_answer given))) race.cell race.place race.later
TellsAlone order events given TooMany = ⊥

-- nothing races on any way that begins with these answers
abbrev pub RacesOnNone : Order → ((ℕ → Bool) → List Event) → List Bool → Type 0
RacesOnNone order events given = (answers : ℕ → Bool) → Begins given answers → NothingRaces (ordered_by order (events answers))
