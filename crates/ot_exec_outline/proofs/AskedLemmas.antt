-- What is told of ways by questions.
use Rattle.std.proofs.Common.{◌≡◌, ◌∙◌, ◌+◌, ◌-◌, ◌<◌, ◌≤◌, ℕ, List, [], ◌∷◌, ◌++◌, length, refl, sym, ap, subst, arith, inl, inr, append_assoc}
use Rattle.std.specs.Prelude.{All, zero, suc, Bool, true, false, nat_le, unwrap_or}
use Rattle.std.proofs.lemmas.Bool.{cases_eq, cases_lt}
use Rattle.std.proofs.lemmas.Bool.Decides.{nat_tests}
use Rattle.std.proofs.lemmas.List.{length-append}
use Rattle.std.proofs.lemmas.List.Elements.{All-nil, All-cons, All-head, All-tail, All-append}
use Rattle.ot_check.proofs.Cited.{slice_get-last}
use Rattle.ot_race_order.specs.Orders.{ordered_by}
use Rattle.ot_race_order.specs.declared.order.Order.{Order}
use Rattle.ot_race.specs.Races.{NothingRaces, IsFirstRace}
use Rattle.ot_race.specs.Events.{Event}
use Rattle.ot_exec_outline.specs.Followed.{list_answer}
use Rattle.ot_exec_outline.specs.Ways.{IsStable, Begins, Ending, Settled, AsksMore, endings, HasNoRace, ComesTo, TellsOf, TellsAlone, RacesOnNone}
use Rattle.ot_exec_outline.specs.declared.ways.Told.{Told}
use Rattle.ot_exec_outline.specs.declared.ways.Told.TheVariants.{RacesNowhere, RacesOn, TooMany}

-- ---- lists of which each element has it

all-left : (P : Ending → Type 0) (xs ys : List Ending) → All P (xs ++ ys) → All P xs
all-left P [] ys all = All-nil P
all-left P (x ∷ xs) ys all = All-cons P x xs (All-head P x (xs ++ ys) all) (all-left P xs ys (All-tail P x (xs ++ ys) all))

all-right : (P : Ending → Type 0) (xs ys : List Ending) → All P (xs ++ ys) → All P ys
all-right P [] ys all = all
all-right P (x ∷ xs) ys all = all-right P xs ys (All-tail P x (xs ++ ys) all)

-- ---- how questions end

pub settled-end : (asked : (ℕ → Bool) → ℕ) (more : ℕ) (given : List Bool) → asked (list_answer given) ≤ length given → endings asked more given ≡ Settled given ∷ []
settled-end asked zero given few =
    let is : nat_le (asked (list_answer given)) (length given) ≡ true = grind (arith, nat_tests) in
    rw is refl
settled-end asked (suc more) given few =
    let is : nat_le (asked (list_answer given)) (length given) ≡ true = grind (arith, nat_tests) in
    rw is refl

pub more-end : (asked : (ℕ → Bool) → ℕ) (given : List Bool) → length given < asked (list_answer given) → endings asked 0 given ≡ AsksMore ∷ []
more-end asked given over =
    let is : nat_le (asked (list_answer given)) (length given) ≡ false = grind (arith, nat_tests) in
    rw is refl

pub both-ends : (asked : (ℕ → Bool) → ℕ) (more : ℕ) (given : List Bool) → length given < asked (list_answer given)
    → endings asked (suc more) given ≡ endings asked more (given ++ true ∷ []) ++ endings asked more (given ++ false ∷ [])
both-ends asked more given over =
    let is : nat_le (asked (list_answer given)) (length given) ≡ false = grind (arith, nat_tests) in
    rw is refl

pub ends-behind : (asked : (ℕ → Bool) → ℕ) (more : ℕ) (given ones twos : List Bool) → length given < asked (list_answer given) → 0 < more
    → ones ≡ given ++ true ∷ [] → twos ≡ given ++ false ∷ [] → endings asked more given ≡ endings asked (more - 1) ones ++ endings asked (more - 1) twos
ends-behind asked zero given ones twos over some one two = absurd (omega (arith, some))
ends-behind asked (suc more) given ones twos over some one two =
    let less : suc more - 1 ≡ more = omega arith in
    rw less (rw one (rw two (both-ends asked more given over)))

-- ---- nothing races on any way

-- the way that the answers settle is that of all answers that begin with them
settled : (order : Order) (events : (ℕ → Bool) → List Event) (asked : (ℕ → Bool) → ℕ) (given : List Bool) → IsStable events asked
    → asked (list_answer given) ≤ length given → NothingRaces (ordered_by order (events (list_answer given))) → RacesOnNone order events given
settled order events asked given stable few none answers begins =
    let same = stable (list_answer given) answers (λ k l. sym (begins k (omega (arith, l, few)))) in
    subst (λ xs. NothingRaces (ordered_by order xs)) same.0 none

-- ---- answers with one more

old : (given : List Bool) (b : Bool) (k : ℕ) → k < length given → list_answer (given ++ b ∷ []) k ≡ list_answer given k
old [] b k l = absurd (omega (arith, l))
old (a ∷ given) b zero l = refl
old (a ∷ given) b (suc k) l = old given b k (omega (arith, l))

new : (given : List Bool) (b : Bool) → list_answer (given ++ b ∷ []) (length given) ≡ b
new given b = ap (λ o. unwrap_or o false) (slice_get-last given b)

pub begins_more : (given : List Bool) (answers : ℕ → Bool) (b : Bool) → Begins given answers → answers (length given) ≡ b → Begins (given ++ b ∷ []) answers
begins_more given answers b begins here k l =
    let long : length (given ++ b ∷ []) ≡ length given + length (b ∷ []) = length-append given (b ∷ []) in
    elim (cases_eq k (length given)) [
      | inl is ↦ ap answers is ∙ here ∙ sym (new given b) ∙ ap (list_answer (given ++ b ∷ [])) (sym is)
      | inr apart ↦
          let less : k < length given = omega (arith, l, long, apart) in
          begins k less ∙ sym (old given b k less)
    ]

by_next : (order : Order) (events : (ℕ → Bool) → List Event) (given : List Bool) → RacesOnNone order events (given ++ true ∷ []) → RacesOnNone order events (given ++ false ∷ [])
    → (answers : ℕ → Bool) → Begins given answers → (b : Bool) → answers (length given) ≡ b → NothingRaces (ordered_by order (events answers))
by_next order events given first second answers begins true h = first answers (begins_more given answers true begins h)
by_next order events given first second answers begins false h = second answers (begins_more given answers false begins h)

-- where no end has a race, nothing races on any way that begins so
pub nowhere : (order : Order) (events : (ℕ → Bool) → List Event) (asked : (ℕ → Bool) → ℕ) → IsStable events asked → (more : ℕ) (given : List Bool)
    → All (HasNoRace order events) (endings asked more given) → RacesOnNone order events given
nowhere order events asked stable zero given none =
    elim (cases_lt (length given) (asked (list_answer given))) [
      | inl over ↦ absurd (All-head (HasNoRace order events) AsksMore [] (subst (All (HasNoRace order events)) (more-end asked given over) none))
      | inr few ↦ settled order events asked given stable few
          (All-head (HasNoRace order events) (Settled given) [] (subst (All (HasNoRace order events)) (settled-end asked 0 given few) none))
    ]
nowhere order events asked stable (suc more) given none =
    elim (cases_lt (length given) (asked (list_answer given))) [
      | inl over ↦
          let ones = endings asked more (given ++ true ∷ []) in
          let twos = endings asked more (given ++ false ∷ []) in
          let both : All (HasNoRace order events) (ones ++ twos) = subst (All (HasNoRace order events)) (both-ends asked more given over) none in
          let first = nowhere order events asked stable more (given ++ true ∷ []) (all-left (HasNoRace order events) ones twos both) in
          let second = nowhere order events asked stable more (given ++ false ∷ []) (all-right (HasNoRace order events) ones twos both) in
          λ answers begins. by_next order events given first second answers begins (answers (length given)) refl
      | inr few ↦ settled order events asked given stable few
          (All-head (HasNoRace order events) (Settled given) [] (subst (All (HasNoRace order events)) (settled-end asked (suc more) given few) none))
    ]

-- ---- what is told

-- of the one end where all questions have answers
pub alone : (order : Order) (events : (ℕ → Bool) → List Event) (given : List Bool) (budget left : ℕ) → budget ≡ left + 1 → (r : Told)
    → TellsAlone order events given r → TellsOf order events (Settled given ∷ []) budget left r
alone order events given budget left taken RacesNowhere none =
    (All-cons (HasNoRace order events) (Settled given) [] none (All-nil (HasNoRace order events)), taken)
alone order events given budget left taken (RacesOn answers race) told = (
  record {
    before = [];
    behind = [];
    ends_are = ap (λ (g : List Bool). Settled g ∷ []) (sym told.0);
    none = All-nil (HasNoRace order events);
    taken = omega (arith, taken);
  },
  subst (λ (g : List Bool). IsFirstRace (ordered_by order (events (list_answer g))) race.cell race.place race.later) (sym told.0) told.1,
)
alone order events given budget left taken TooMany told = absurd told

before_others : (order : Order) (events : (ℕ → Bool) → List Event) (ones twos : List Ending) (budget left : ℕ) (it : Ending) → ComesTo order events ones budget left it
    → ComesTo order events (ones ++ twos) budget left it
before_others order events ones twos budget left it c = record {
  before = c.before;
  behind = c.behind ++ twos;
  ends_are = ap (λ es. es ++ twos) c.ends_are ∙ append_assoc c.before (it ∷ c.behind) twos;
  none = c.none;
  taken = c.taken;
}

behind_others : (order : Order) (events : (ℕ → Bool) → List Event) (ones twos : List Ending) (budget mid left : ℕ) (it : Ending) → All (HasNoRace order events) ones
    → budget ≡ mid + length ones → ComesTo order events twos mid left it → ComesTo order events (ones ++ twos) budget left it
behind_others order events ones twos budget mid left it none taken c = record {
  before = ones ++ c.before;
  behind = c.behind;
  ends_are = ap (λ es. ones ++ es) c.ends_are ∙ sym (append_assoc ones c.before (it ∷ c.behind));
  none = All-append (HasNoRace order events) ones c.before none c.none;
  taken = let long = length-append ones c.before in let then = c.taken in omega (arith, taken);
}

-- of the ends behind a yes, where something is told of them that ends it
pub ends_it : (order : Order) (events : (ℕ → Bool) → List Event) (ones twos : List Ending) (budget left : ℕ) (r : Told) → (r ≡ RacesNowhere → ⊥)
    → TellsOf order events ones budget left r → TellsOf order events (ones ++ twos) budget left r
ends_it order events ones twos budget left RacesNowhere other told = absurd (other refl)
ends_it order events ones twos budget left (RacesOn answers race) other told =
    (before_others order events ones twos budget (left + 1) (Settled answers.items) told.0, told.1)
ends_it order events ones twos budget left TooMany other told =
    elim told [
      | inl more ↦ inl (before_others order events ones twos budget left AsksMore more)
      | inr out ↦ inr (out.0, before_others order events ones twos budget 0 (Settled out.0) out.1, out.2)
    ]

-- of the ends behind a no, where nothing races on those behind a yes
pub goes_on : (order : Order) (events : (ℕ → Bool) → List Event) (ones twos : List Ending) (budget mid left : ℕ) (r : Told) → TellsOf order events ones budget mid RacesNowhere
    → TellsOf order events twos mid left r → TellsOf order events (ones ++ twos) budget left r
goes_on order events ones twos budget mid left RacesNowhere first told =
    (All-append (HasNoRace order events) ones twos first.0 told.0, (let long = length-append ones twos in omega (arith, first.1, told.1)))
goes_on order events ones twos budget mid left (RacesOn answers race) first told =
    (behind_others order events ones twos budget mid (left + 1) (Settled answers.items) first.0 first.1 told.0, told.1)
goes_on order events ones twos budget mid left TooMany first told =
    elim told [
      | inl more ↦ inl (behind_others order events ones twos budget mid left AsksMore first.0 first.1 more)
      | inr out ↦ inr (out.0, behind_others order events ones twos budget mid 0 (Settled out.0) first.0 first.1 out.1, out.2)
    ]
