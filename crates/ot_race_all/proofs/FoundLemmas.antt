-- Races that are found, one after another.
use Rattle.std.proofs.Common.{◌≡◌, ◌<◌, ◌≤◌, ◌+◌, ℕ, zero, suc, Bool, true, false, cond, ◌&&◌, List, [], ◌∷◌, ◌++◌, length, refl, sym, ap, subst, ◌∙◌, inl, inr, arith, is_eq}
use Rattle.std.specs.Prelude.{◌⊎◌, ◌==◌, All, Contains, Some, None, slice_get}
use Rattle.std.specs.BTreeSet.{BTreeSet, contains}
use Rattle.std.specs.BTreeSet as set
use Rattle.std.specs.Ordering.{nat_cmp, ordering_then}
use Rattle.std.specs.declared.cmp.Ordering.{Ordering}
use Rattle.std.specs.declared.cmp.Ordering.TheVariants.{Less, Equal, Greater}
use Rattle.std.proofs.lemmas.Bool.{cases_eq, cases_lt}
use Rattle.std.proofs.lemmas.Bool.Decides.{nat_tests}
use Rattle.std.proofs.lemmas.List.Elements.{All-push, All-contains, All-weaker, Contains-append_left, Contains-push, Contains-push_cases}
use Rattle.std.proofs.lemmas.Option.{slice_get_within, get_or_from_slice_get}
use Rattle.ot_model.specs.declared.expr.Cell.{Cell}
use Rattle.ot_model.specs.declared.stmt.Use.{Use}
use Rattle.ot_check.specs.Offences.{use_as}
use Rattle.ot_race.specs.Events.{Event}
use Rattle.ot_race.specs.Races.{IsRace, IsAt, IsFirstRace, NothingRaces, TellsFirst}
use Rattle.ot_race.specs.declared.race.Race.{Race}
use Rattle.ot_race.proofs.OrderLemmas.{some_is}
use Rattle.ot_race.proofs.HistoryLemmas.{same_event}
use Rattle.ot_race_all.specs.AllRaces.{PlacesRace, IsSome, IsTold, ComesFirst, AreRaces}
use Rattle.ot_race_all.specs.Found.{Pair, pair_cmp, HasPairs, Lead, IsFound, IsKept, UseTold}
use Rattle.ot_race_all.specs.declared.found.Found.{Found}

-- ---- lists of one more

none_some : {A : Type 0} (x : A) → None ≡ Some x → ⊥
none_some x h = cc

get_push : {A : Type 0} (xs : List A) (x y : A) (k : ℕ) → slice_get (xs ++ x ∷ []) k ≡ Some y → (slice_get xs k ≡ Some y) ⊎ ((k ≡ length xs) × (x ≡ y))
get_push [] x y zero h = inr (refl, some_is x y h)
get_push [] x y (suc k) h = absurd (none_some y h)
get_push (z ∷ xs) x y zero h = inl h
get_push (z ∷ xs) x y (suc k) h = elim (get_push xs x y k h) [ inl old ↦ inl old | inr new ↦ inr (ap suc new.0, new.1) ]

got_there : {A : Type 0} (xs : List A) (k : ℕ) (x : A) → slice_get xs k ≡ Some x → Contains xs x
got_there xs k x h = (k, slice_get_within xs k x h, get_or_from_slice_get xs k x x h)

told_more : (all : List Race) (r : Race) (p q : ℕ) → IsTold all p q → IsTold (all ++ r ∷ []) p q
told_more all r p q t = record { it = t.it; there = Contains-append_left all (r ∷ []) t.it t.there; earlier_is = t.earlier_is; later_is = t.later_is }

told_new : (all : List Race) (r : Race) → IsTold (all ++ r ∷ []) r.place r.later
told_new all r = record { it = r; there = Contains-push all r; earlier_is = refl; later_is = refl }

told_cases : (all : List Race) (r : Race) (p q : ℕ) → IsTold (all ++ r ∷ []) p q → IsTold all p q ⊎ ((r.place ≡ p) × (r.later ≡ q))
told_cases all r p q t =
    elim (Contains-push_cases all r t.it t.there) [
      | inl old ↦ inl (record { it = t.it; there = old; earlier_is = t.earlier_is; later_is = t.later_is })
      | inr new ↦ inr (ap (λ (x : Race). x.place) new ∙ t.earlier_is, ap (λ (x : Race). x.later) new ∙ t.later_is)
    ]

-- ---- sets of pairs

same_cmp : (x y : ℕ) → is_eq (nat_cmp x y) ≡ (x == y)
same_cmp x y = elim (cases_lt x y) [ inl less ↦ grind (arith, nat_tests) | inr rest ↦ grind (arith, nat_tests) ]

then_eq : (a b : Ordering) → is_eq (ordering_then a b) ≡ (is_eq a && is_eq b)
then_eq Less b = refl
then_eq Equal b = refl
then_eq Greater b = refl

pair_eq : (x y : Pair) → is_eq (pair_cmp x y) ≡ ((x.0 == y.0) && (x.1 == y.1))
pair_eq x y =
    then_eq (nat_cmp x.0 y.0) (nat_cmp x.1 y.1)
    ∙ ap (λ b. b && is_eq (nat_cmp x.1 y.1)) (same_cmp x.0 y.0)
    ∙ ap (λ b. (x.0 == y.0) && b) (same_cmp x.1 y.1)

equal_of : (x y : ℕ) → (x == y) ≡ true → x ≡ y
equal_of x y h = grind (arith, nat_tests)

itself : (x y : ℕ) → x ≡ y → (x == y) ≡ true
itself x y h = grind (arith, nat_tests)

both_of : (a b : Bool) → (a && b) ≡ true → (a ≡ true) × (b ≡ true)
both_of true b h = (refl, h)
both_of false b h = cc

both_are : (a b : Bool) → a ≡ true → b ≡ true → (a && b) ≡ true
both_are a b h k = cc

cond_cases : (b c : Bool) → cond b true c ≡ true → (b ≡ true) ⊎ (c ≡ true)
cond_cases true c h = inl refl
cond_cases false c h = inr h

cond_one : (b c : Bool) → b ≡ true → cond b true c ≡ true
cond_one true c h = refl
cond_one false c h = cc

cond_other : (b c : Bool) → c ≡ true → cond b true c ≡ true
cond_other true c h = refl
cond_other false c h = h

pub pairs_more : (old new : BTreeSet Pair) (all : List Race) (r : Race) → HasPairs old all → set.Updates pair_cmp old new (r.place, r.later) true
    → HasPairs new (all ++ r ∷ [])
pairs_more old new all r has updates = λ p q.
    let b = (r.place == p) && (r.later == q) in
    let is : contains pair_cmp new (p, q) ≡ cond b true (contains pair_cmp old (p, q)) =
    updates.0 (p, q) ∙ ap (λ a. cond a true (contains pair_cmp old (p, q))) (pair_eq (r.place, r.later) (p, q)) in (
      λ there. elim (cond_cases b (contains pair_cmp old (p, q)) (sym is ∙ there)) [
        | inl new ↦
            let both = both_of (r.place == p) (r.later == q) new in
            record { it = r; there = Contains-push all r; earlier_is = equal_of r.place p both.0; later_is = equal_of r.later q both.1 }
        | inr was ↦ told_more all r p q ((has p q).0 was)
      ],
      λ told. is ∙ elim (told_cases all r p q told) [
        | inl was ↦ cond_other b (contains pair_cmp old (p, q)) ((has p q).1 was)
        | inr new ↦ cond_one b (contains pair_cmp old (p, q)) (both_are (r.place == p) (r.later == q) (itself r.place p new.0) (itself r.later q new.1))
      ],
    )

-- ---- one race more

first_more : (es : List Event) (all : List Race) (r : Race) → TellsFirst es (slice_get all 0) → IsSome es r → TellsFirst es (slice_get (all ++ r ∷ []) 0)
first_more es [] r h some = absurd (h r.cell some.i some.j some.race)
first_more es (x ∷ xs) r h some = h

module _ (es : List Event) (n : ℕ) (all : List Race) (r : Race) (h : AreRaces es n all) (lead : Lead es n all) (none : IsTold all r.place r.later → ⊥) where
  comes_first : (one : Race) → Contains all one → ComesFirst es one r
  comes_first one there = record {
    other = λ p q. none (record { it = one; there = there; earlier_is = p; later_is = q });
    earlier = λ j x. elim (cases_lt j n) [
      | inl low ↦ absurd (none (h.every r.place r.later j low x))
      | inr high ↦ lead one there r.place r.later j high x
    ];
  }

  races_more : IsSome es r → AreRaces es n (all ++ r ∷ [])
  races_more some = record {
    first = first_more es all r h.first some;
    each = All-push (IsSome es) all r h.each some;
    every = λ p q j low x. told_more all r p q (h.every p q j low x);
    in_turn = λ a b one next lower at_a at_b. elim (get_push all r next b at_b) [
      | inl old_b ↦ elim (get_push all r one a at_a) [
        | inl old_a ↦ h.in_turn a b one next lower old_a old_b
        | inr new_a ↦ let l : b < length all = slice_get_within all b next old_b in absurd (omega (arith, lower, new_a.0, l))
      ]
      | inr new_b ↦ elim (get_push all r one a at_a) [
        | inl old_a ↦ subst (ComesFirst es one) new_b.1 (comes_first one (got_there all a one old_a))
        | inr new_a ↦ absurd (omega (arith, lower, new_a.0, new_b.0))
      ]
    ];
  }

  lead_more : PlacesRace es r.place r.later n → Lead es n (all ++ r ∷ [])
  lead_more here told l p q j low x =
      elim (Contains-push_cases all r told l) [
        | inl old ↦ lead told old p q j low x
        | inr new ↦ subst (λ (t : Race). (k : ℕ) × (k ≤ j) × PlacesRace es t.place t.later k) new (n, low, here)
      ]

-- what an addition leaves: the same, or one race more
abbrev pub IsAdded : Found → Found → Race → Type 0
IsAdded old new r =
    ((new.all.items ≡ old.all.items) × IsTold old.all.items r.place r.later)
    ⊎ ((new.all.items ≡ old.all.items ++ r ∷ []) × (IsTold old.all.items r.place r.later → ⊥))

found_more : (es : List Event) (n : ℕ) (old new : Found) (r : Race) → IsFound es n old → IsSome es r → PlacesRace es r.place r.later n
    → IsAdded old new r → HasPairs new.pairs new.all.items → IsFound es n new
found_more es n old new r h some here (inl same) pairs =
    record { races = subst (AreRaces es n) (sym same.0) h.races; pairs = pairs; leading = subst (Lead es n) (sym same.0) h.leading }
found_more es n old new r h some here (inr more) pairs = record {
  races = subst (AreRaces es n) (sym more.0) (races_more es n old.all.items r h.races h.leading more.1 some);
  pairs = pairs;
  leading = subst (Lead es n) (sym more.0) (lead_more es n old.all.items r h.races h.leading more.1 here);
}

added_told : (old new : Found) (r : Race) → IsAdded old new r → IsTold new.all.items r.place r.later
added_told old new r (inl same) = subst (λ all. IsTold all r.place r.later) (sym same.0) same.1
added_told old new r (inr more) = subst (λ all. IsTold all r.place r.later) (sym more.0) (told_new old.all.items r)

-- the same of a race that is found at event n
pub found_race : (es : List Event) (n i : ℕ) (old new : Found) (r : Race) → IsFound es n old → IsRace es r.cell i n → IsAt es r.place i → IsAt es r.later n
    → IsAdded old new r → HasPairs new.pairs new.all.items → IsFound es n new
found_race es n i old new r h race at later added pairs =
    found_more es n old new r h (record { i = i; j = n; race = race; earlier_at = at; later_at = later })
    (record { cell = r.cell; i = i; race = race; earlier_at = at; later_at = later }) added pairs

same_place : (es : List Event) (p q i : ℕ) → IsAt es p i → IsAt es q i → p ≡ q
same_place es p q i a b = sym a.placed ∙ ap (λ (e : Event). e.place) (some_is a.it b.it (sym a.there ∙ b.there)) ∙ b.placed

pub race_told : (es : List Event) (n i : ℕ) (old new : Found) (r : Race) → IsAt es r.place i → IsAt es r.later n → IsAdded old new r → (p q : ℕ) → IsAt es p i
    → IsAt es q n → IsTold new.all.items p q
race_told es n i old new r at later added p q a b =
    subst (λ x. IsTold new.all.items x q) (same_place es r.place p i at a)
    (subst (IsTold new.all.items r.place) (same_place es r.later q n later b) (added_told old new r added))

-- ---- from event to event

pub told_kept : (es : List Event) (n : ℕ) (old new : Found) (us : List Use) → IsKept old new → All (UseTold es n old) us → All (UseTold es n new) us
told_kept es n old new us kept all =
    All-weaker (UseTold es n old) (UseTold es n new) (λ u told mode i low used against apart p q a b. kept p q (told mode i low used against apart p q a b)) us all

-- where nothing else races by event n
pub found_next : (es : List Event) (n : ℕ) (found : Found) → IsFound es n found → ((p q : ℕ) → PlacesRace es p q n → IsTold found.all.items p q)
    → IsFound es (n + 1) found
found_next es n found h told = record {
  races = record {
    first = h.races.first;
    each = h.races.each;
    every = λ p q j low x. elim (cases_eq j n) [
      | inl same ↦ told p q (subst (PlacesRace es p q) same x)
      | inr apart ↦ h.races.every p q j (omega (arith, low, apart)) x
    ];
    in_turn = h.races.in_turn;
  };
  pairs = h.pairs;
  leading = λ t l p q j low x. h.leading t l p q j (omega (arith, low)) x;
}

-- each race by event n is told where each of its uses is
pub all_told : (es : List Event) (n : ℕ) (e : Event) (found : Found) → slice_get es n ≡ Some e → All (UseTold es n found) e.uses → (p q : ℕ)
    → PlacesRace es p q n → IsTold found.all.items p q
all_told es n e found at all p q x =
    let r = x.race in
    All-contains (UseTold es n found) e.uses (use_as r.other x.cell) all (same_event es n x.cell r.other e at r.second) r.one x.i r.order r.first r.conflict r.unordered p q
    x.earlier_at x.later_at

-- ---- the first race

alone : {A : Type 0} (x y z : A) (a b : ℕ) → a < b → slice_get (x ∷ []) a ≡ Some y → slice_get (x ∷ []) b ≡ Some z → ⊥
alone x y z a b l at_a at_b = let k : b < length (x ∷ []) = slice_get_within (x ∷ []) b z at_b in omega (arith, l, k)

pub found_first : (es : List Event) (found : Found) (r : Race) → IsFirstRace es r.cell r.place r.later → found.all.items ≡ r ∷ []
    → HasPairs found.pairs found.all.items → IsFound es 0 found
found_first es found r f is pairs = record {
  races = subst (AreRaces es 0) (sym is) (record {
    first = f;
    each = All-push (IsSome es) [] r (λ k d l. absurd (omega (arith, l))) (record { i = f.i; j = f.j; race = f.race; earlier_at = f.earlier_at; later_at = f.later_at });
    every = λ p q j low x. absurd (omega (arith, low));
    in_turn = λ a b one next l at_a at_b. absurd (alone r one next a b l at_a at_b);
  });
  pairs = pairs;
  leading = subst (Lead es 0) (sym is) (λ t l p q j low x.
      subst (λ (t : Race). (k : ℕ) × (k ≤ j) × PlacesRace es t.place t.later k) (only_race r t l)
      (f.j, f.first x.cell x.i j x.race, record { cell = r.cell; i = f.i; race = f.race; earlier_at = f.earlier_at; later_at = f.later_at }));
}
  where
    only_race : (x e : Race) → Contains (x ∷ []) e → x ≡ e
    only_race x e l = elim (Contains-push_cases [] x e l) [ inl none ↦ absurd (omega (arith, none.1)) | inr is ↦ is ]

-- no race is by an event before the first one of its place
pub none_before : (es : List Event) (n start place later : ℕ) (cell : Cell) (found : Found) → IsFirstRace es cell place later → ((j : ℕ) → IsAt es later j → start ≤ j) → n < start
    → IsFound es n found → IsFound es (n + 1) found
none_before es n start place later cell found f from low h =
    found_next es n found h (λ p q x.
    let a : f.j ≤ n = f.first x.cell x.i n x.race in
    let b : start ≤ f.j = from f.j f.later_at in
    absurd (omega (arith, a, b, low)))

pub by_false : {A : Type 0} (b : Bool) → false ≡ b → b ≡ true → A
by_false b h k = cc

-- where nothing races there is none
pub found_none : (es : List Event) → NothingRaces es → AreRaces es (length es) []
found_none es none = record {
  first = none;
  each = λ k d l. absurd (omega (arith, l));
  every = λ p q j low x. absurd (none x.cell x.i j x.race);
  in_turn = λ a b one next l at_a at_b. absurd (none_some one at_a);
}
