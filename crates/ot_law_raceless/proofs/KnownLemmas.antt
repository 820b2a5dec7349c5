-- What a task's next event comes behind, and what its children hold that may be unawaited.
use Rattle.std.proofs.Common.{◌≡◌, ℕ, ◌<◌, ◌≤◌, true, List, ◌⊎◌, inl, inr, arith}
use Rattle.std.specs.Prelude.{Some}
use Rattle.std.proofs.lemmas.Bool.{cases_lt}
use Rattle.ot_model.specs.Cells.{conflicts}
use Rattle.ot_model.specs.declared.expr.Cell.{Cell}
use Rattle.ot_model.specs.declared.stmt.Mode.{Mode}
use Rattle.ot_model.specs.declared.stmt.Use.{Use}
use Rattle.ot_check.specs.Offences.{use_as, Declared, Openings, allows}
use Rattle.ot_check.specs.Discipline.{Children}
use Rattle.ot_race.specs.Events.{Event, Begins}
use Rattle.ot_race.specs.Order.{IsBy, Does, InTurn, IsBefore}
use Rattle.ot_race.specs.Races.{IsUsed}
use Rattle.ot_race.specs.Standings.{IsUpTo, IsKnownTo}
use Rattle.ot_race.proofs.OrderLemmas.{up_leads}
use Rattle.ot_law_raceless.proofs.FitLemmas.{Fits, IsAmong}

-- event i is by a child of the task that may be unawaited, or before one of its events, and the child declares what it uses
pub record IsHeld (es : List Event) (me : ℕ) (own : Declared) (opened : Openings) (children : Children) (n i : ℕ) : Type 0 where
  pub child : ℕ
  pub begin : ℕ
  pub last : ℕ
  pub uses : List Use
  pub early : begin < n
  pub does : Does es child (Begins me uses) begin
  pub late : last < n
  pub done : IsBy es child last
  pub reached : IsUpTo es i last
  pub among : IsAmong children uses
  pub fits : Fits own opened uses
  pub covered : (c : Cell) (mode : Mode) → IsUsed es c mode i → allows (Some uses) (use_as mode c) ≡ true

-- each event from this one on and before event n is one of the task's, or before one, or is held
abbrev pub AreGathered : List Event → ℕ → Declared → Openings → Children → ℕ → ℕ → Type 0
AreGathered es me own opened children from n = (i : ℕ) → from ≤ i → i < n → IsKnownTo es n me i ⊎ IsHeld es me own opened children n i

-- each event from this one on is before each that it conflicts with among events n to m
abbrev pub AreOrdered : List Event → ℕ → ℕ → ℕ → Type 0
AreOrdered es from n m =
    (i j : ℕ) → from ≤ i → i < j → n ≤ j → j < m → (c : Cell) (one other : Mode) → IsUsed es c one i → IsUsed es c other j → conflicts one other ≡ true
    → IsBefore es i j

-- the body declares what events n to m use
abbrev pub AreAllowed : List Event → Declared → ℕ → ℕ → Type 0
AreAllowed es own n m = (i : ℕ) → n ≤ i → i < m → (c : Cell) (mode : Mode) → IsUsed es c mode i → allows own (use_as mode c) ≡ true

-- so the task goes from event n to event m, behind which these children may be unawaited
pub record Goes (es : List Event) (me : ℕ) (own : Declared) (opened : Openings) (children : Children) (from n m : ℕ) : Type 0 where
  pub ordered : AreOrdered es from n m
  pub gathered : AreGathered es me own opened children from m
  pub allowed : AreAllowed es own n m

-- ---- later

pub known_later : (es : List Event) (me n m i : ℕ) → n ≤ m → IsKnownTo es n me i → IsKnownTo es m me i
known_later es me n m i le k = record { own = k.own; early = (let l = k.early in omega (arith, l, le)); done = k.done; reached = k.reached }

pub known_before : (es : List Event) (me n i j : ℕ) → n ≤ j → IsBy es me j → IsKnownTo es n me i → IsBefore es i j
known_before es me n i j le done k =
    up_leads es i k.own j k.reached (InTurn me k.own j k.done (let l = k.early in omega (arith, l, le)) done)

pub held_later : (es : List Event) (me : ℕ) (own : Declared) (opened : Openings) (few many : Children) (n m i : ℕ) → n ≤ m
    → (h : IsHeld es me own opened few n i) → IsAmong many h.uses → IsHeld es me own opened many m i
held_later es me own opened few many n m i le h among = record {
  child = h.child;
  begin = h.begin;
  last = h.last;
  uses = h.uses;
  early = (let l = h.early in omega (arith, l, le));
  does = h.does;
  late = (let l = h.late in omega (arith, l, le));
  done = h.done;
  reached = h.reached;
  among = among;
  fits = h.fits;
  covered = h.covered;
}

-- ---- on

pub goes_nowhere : (es : List Event) (me : ℕ) (own : Declared) (opened : Openings) (children : Children) (from n : ℕ)
    → AreGathered es me own opened children from n → Goes es me own opened children from n n
goes_nowhere es me own opened children from n gathered = record {
  ordered = λ i j low less above below c one other first second conflict. absurd (omega (arith, above, below));
  gathered = gathered;
  allowed = λ i above below c mode used. absurd (omega (arith, above, below));
}

pub goes_on : (es : List Event) (me : ℕ) (own : Declared) (opened : Openings) (few many : Children) (from n k m : ℕ)
    → Goes es me own opened few from n k → Goes es me own opened many from k m → Goes es me own opened many from n m
goes_on es me own opened few many from n k m a b = record {
  ordered = λ i j low less above below c one other first second conflict. elim (cases_lt j k) [
    | inl early ↦ a.ordered i j low less above early c one other first second conflict
    | inr late ↦ b.ordered i j low less late below c one other first second conflict
  ];
  gathered = b.gathered;
  allowed = λ i above below c mode used. elim (cases_lt i k) [
    | inl early ↦ a.allowed i above early c mode used
    | inr late ↦ b.allowed i late below c mode used
  ];
}

-- behind it more children may be unawaited
pub goes_with_more : (es : List Event) (me : ℕ) (own : Declared) (opened : Openings) (few many : Children) (from n m : ℕ)
    → ((uses : List Use) → IsAmong few uses → IsAmong many uses) → Goes es me own opened few from n m → Goes es me own opened many from n m
goes_with_more es me own opened few many from n m more g = record {
  ordered = g.ordered;
  gathered = λ i low below. elim (g.gathered i low below) [
    | inl known ↦ inl known
    | inr held ↦ inr (held_later es me own opened few many m m i (omega arith) held (more held.uses held.among))
  ];
  allowed = g.allowed;
}
