-- What is told of ways by their numbers.
use Rattle.std.proofs.Common.{◌≡◌, ◌<◌, ◌≤◌, ◌*◌, ℕ, Bool, true, false, ◌&&◌, List, refl, sym, subst, ◌∙◌, arith}
use Rattle.std.specs.Prelude.{None, min, nat_lt, nat_le}
use Rattle.std.proofs.lemmas.Bool.Decides.{nat_tests}
use Rattle.std.proofs.Math.Nat.{le-mul_of_pos_right}
use Rattle.ot_model.specs.Tree.{Body, size}
use Rattle.ot_race.specs.Events.{Event, beginning}
use Rattle.ot_race.specs.Races.{NothingRaces, IsFirstRace}
use Rattle.ot_race.specs.declared.race.Race.{Race}
use Rattle.ot_race_order.specs.Orders.{ordered_by}
use Rattle.ot_race_order.specs.declared.order.Order.{Order}
use Rattle.ot_race_ways.specs.Naming.{named_in}
use Rattle.ot_race_ways.specs.Ways.{ways}
use Rattle.ot_race_ways.specs.Verdicts.{AreFew, IsRaceOn, NoWayRaces}
use Rattle.ot_race_ways.specs.Numbered.{events_on, turns_on}
use Rattle.ot_race_ways.specs.declared.verdict.Turn.{Turn}
use Rattle.ot_race_ways.proofs.NumberLemmas.{number}
use Rattle.ot_race_ways.proofs.AlikeLemmas.{way_of}
use Rattle.ot_race_ways.proofs.WayLemmas.{some_way}

pub tells_race : (order : Order) (body : Body) (n : ℕ) (es : List Event) (taken : List Turn) (race : Race) → es ≡ events_on n None 0 1 body 0
    → taken ≡ turns_on n 1 body → IsFirstRace (ordered_by order es) race.cell race.place race.later → (cells : List (List ℕ)) → IsRaceOn order body taken race cells
tells_race order body n es taken race events_are turns_are first cells =
    let h = way_of n None 0 1 body (beginning cells) in
    record {
      condition = λ s e. h.numbers s.units;
      takes = h.turns_are ∙ sym turns_are;
      first = subst (λ (es : List Event). IsFirstRace (ordered_by order es) race.cell race.place race.later) (events_are ∙ sym h.events_are) first;
    }

pub tells_none : (order : Order) (body : Body) → ((n : ℕ) → n < ways body → NothingRaces (ordered_by order (events_on n None 0 1 body 0))) → NoWayRaces order body
tells_none order body none condition cells =
    let h = number condition None 0 1 body (beginning cells) in
    subst (λ (es : List Event). NothingRaces (ordered_by order es)) (sym h.events_are) (none h.n h.below)

-- ---- whether there are few

true_false : true ≡ false → ⊥
true_false h = cc

pub left_of : (a b : Bool) → (a && b) ≡ true → a ≡ true
left_of true b h = refl
left_of false b h = cc

pub right_of : (a b : Bool) → (a && b) ≡ true → b ≡ true
right_of true b h = h
right_of false b h = cc

both_of : (a b : Bool) → a ≡ true → b ≡ true → (a && b) ≡ true
both_of true b h k = k
both_of false b h k = cc

pub less_of : (x y : ℕ) → nat_lt x y ≡ true → x < y
less_of x y h = grind (arith, nat_tests)

less_to : (x y : ℕ) → x < y → nat_lt x y ≡ true
less_to x y h = grind (arith, nat_tests)

at_most_of : (x y : ℕ) → nat_le x y ≡ true → x ≤ y
at_most_of x y h = grind (arith, nat_tests)

at_most_to : (x y : ℕ) → x ≤ y → nat_le x y ≡ true
at_most_to x y h = grind (arith, nat_tests)

-- cells that are counted up to the bound are few where they are few on all ways
counted_all : (w m n : ℕ) → 0 < w → m ≡ min n 20000001 → w * m ≤ 20000000 → m ≡ n
counted_all w m n some counted all =
    let le : m ≤ m * w = le-mul_of_pos_right m some in
    let turned : m * w ≡ w * m = omega arith in
    omega (arith, counted, le, turned, all)

all_counted : (w m n : ℕ) → 0 < w → m ≡ min n 20000001 → w * n ≤ 20000000 → m ≡ n
all_counted w m n some counted all =
    let le : n ≤ n * w = le-mul_of_pos_right n some in
    let turned : n * w ≡ w * n = omega arith in
    omega (arith, counted, le, turned, all)

abbrev pub tested : ℕ → ℕ → ℕ → Bool
tested w s m = nat_lt w 1025 && (nat_le (w * s) 2000000 && nat_le (w * m) 20000000)

pub few_ways : (w s m : ℕ) (body : Body) → w ≡ min (ways body) 1025 → s ≡ size body → m ≡ min (named_in body) 20000001 → tested w s m ≡ true → AreFew body × (w ≡ ways body)
few_ways w s m body counted sized named h =
    let l : w < 1025 = less_of w 1025 (left_of (nat_lt w 1025) _ h) in
    let same : w ≡ ways body = omega (arith, counted, l) in
    let some : 0 < w = let one : 0 < ways body = some_way body in omega (arith, same, one) in
    let bounds = right_of (nat_lt w 1025) _ h in
    let all : w * s ≤ 2000000 = at_most_of (w * s) 2000000 (left_of (nat_le (w * s) 2000000) _ bounds) in
    let cells : w * m ≤ 20000000 = at_most_of (w * m) 20000000 (right_of (nat_le (w * s) 2000000) _ bounds) in
    let few : ways body ≤ 1024 = omega (arith, same, l) in (
      (
        few,
        subst (λ (n : ℕ). n * size body ≤ 2000000) same (subst (λ (n : ℕ). w * n ≤ 2000000) sized all),
        subst (λ (n : ℕ). n * named_in body ≤ 20000000) same (subst (λ (n : ℕ). w * n ≤ 20000000) (counted_all w m (named_in body) some named cells) cells),
      ),
      same,
    )

pub many_ways : (w s m : ℕ) (body : Body) → w ≡ min (ways body) 1025 → s ≡ size body → m ≡ min (named_in body) 20000001 → tested w s m ≡ false → AreFew body → ⊥
many_ways w s m body counted sized named h few =
    let below : ways body ≤ 1024 = few.0 in
    let same : w ≡ ways body = omega (arith, counted, below) in
    let some : 0 < w = let one : 0 < ways body = some_way body in omega (arith, same, one) in
    let all : w * s ≤ 2000000 = subst (λ (n : ℕ). n * s ≤ 2000000) (sym same) (subst (λ (n : ℕ). ways body * n ≤ 2000000) (sym sized) few.1) in
    let wide : w * named_in body ≤ 20000000 = subst (λ (n : ℕ). n * named_in body ≤ 20000000) (sym same) few.2 in
    let cells : w * m ≤ 20000000 = subst (λ (n : ℕ). w * n ≤ 20000000) (sym (all_counted w m (named_in body) some named wide)) wide in
    true_false
    (sym
    (both_of (nat_lt w 1025) (nat_le (w * s) 2000000 && nat_le (w * m) 20000000) (less_to w 1025 (omega (arith, same, below)))
    (both_of (nat_le (w * s) 2000000) (nat_le (w * m) 20000000) (at_most_to (w * s) 2000000 all) (at_most_to (w * m) 20000000 cells))) ∙ h)
