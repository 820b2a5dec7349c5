-- Each number is that of a way: one whose conditions go by how many statements were executed before.
use Rattle.std.proofs.Common.{◌≡◌, ◌≢◌, ◌+◌, ◌/◌, ◌%◌, ◌<◌, ◌≤◌, ℕ, [], ◌∷◌, ◌++◌, length, map, refl, sym, ap, subst, ◌∙◌, inl, inr, arith}
use Rattle.std.specs.Prelude.{true, false, if◌then◌else◌, nat_lt, Some, unwrap_or}
use Rattle.std.proofs.lemmas.Bool.{cases_eq}
use Rattle.ot_model.specs.Tree.{E, S, Set, Fold, If, Task, Wait, Group, Body, End, Next, size, size_one}
use Rattle.ot_model.specs.Serial.{State, bump, either}
use Rattle.ot_model.specs.declared.stmt.Mode.TheVariants.{Reads, Writes}
use Rattle.ot_check.specs.Offences.{use_as, Declared}
use Rattle.ot_race.specs.Events.{Way, event, Touches, Begins, Leaves, events, events_one, after, after_one}
use Rattle.ot_race_ways.specs.Known.{number_in_value, may_read}
use Rattle.ot_race_ways.specs.Ways.{way_by, ways, ways_one, turn, turns, turns_one}
use Rattle.ot_race_ways.specs.Numbered.{events_on, events_on_one, tasks_on, tasks_on_one, turns_on, turns_on_one, takes_first, left_for_second}
use Rattle.ot_race_ways.proofs.BranchLemmas.{either_first, either_second, if_less, if_not_less, if_met, if_unmet, truth, taken_first, taken_second}

-- the way whose condition in the statement executed as number u, from 0, has the number at u
abbrev pub by_units : (ℕ → ℕ) → Way
by_units numbers = way_by (λ s e. numbers s.units)

-- the number of a condition in the statement executed as this one
abbrev pub number_at : (ℕ → ℕ) → E → State → ℕ
number_at numbers e s = unwrap_or (number_in_value e) (numbers s.units)

-- ---- statements executed are counted

either_at : {A : Type 0} (P : A → Type 0) (n : ℕ) (one two : A) → P one → P two → P (either n one two)
either_at P n one two p q = elim (cases_eq n 0) [
  | inl is ↦ subst P (sym (either_second n one two is)) q
  | inr apart ↦ subst P (sym (either_first n one two apart)) p
]

mutual
  pub units_grow_one : (way : Way) (x : S) (s : State) → s.units < (after_one way x s).units
  units_grow_one way (Set c e) s = omega arith
  units_grow_one way (Fold o c e) s = omega arith
  units_grow_one way (If e a b) s =
      let p : s.units + 1 ≤ (after way a (bump 0 1 s)).units = units_grow way a (bump 0 1 s) in
      let q : s.units + 1 ≤ (after way b (bump 0 1 s)).units = units_grow way b (bump 0 1 s) in
      either_at (λ (t : State). s.units < t.units) (way.condition s e) _ _ (omega (arith, p)) (omega (arith, q))
  units_grow_one way (Task d b) s = let p : s.units + 1 ≤ (after way b (bump 1 1 s)).units = units_grow way b (bump 1 1 s) in omega (arith, p)
  units_grow_one way (Wait w) s = omega arith
  units_grow_one way (Group o cs b) s = let p : s.units + 1 ≤ (after way b (bump 0 1 s)).units = units_grow way b (bump 0 1 s) in omega (arith, p)

  pub units_grow : (way : Way) (b : Body) (s : State) → s.units ≤ (after way b s).units
  units_grow way End s = omega arith
  units_grow way (Next x rest) s =
      let p : s.units < (after_one way x s).units = units_grow_one way x s in
      let q : (after_one way x s).units ≤ (after way rest (after_one way x s)).units = units_grow way rest (after_one way x s) in
      omega (arith, p, q)

-- ---- ways that agree on what is executed

abbrev pub Agree : (ℕ → ℕ) → (ℕ → ℕ) → ℕ → ℕ → Type 0
Agree p q from to = (t : ℕ) → from ≤ t → t < to → p t ≡ q t

pub record AlikeOne (p q : ℕ → ℕ) (own : Declared) (me k : ℕ) (x : S) (s : State) : Type 0 where
  pub events_same : events_one (by_units p) own me k x s ≡ events_one (by_units q) own me k x s
  pub after_same : after_one (by_units p) x s ≡ after_one (by_units q) x s
  pub turns_same : turns_one (by_units p) k x s ≡ turns_one (by_units q) k x s

pub record Alike (p q : ℕ → ℕ) (own : Declared) (me k : ℕ) (b : Body) (s : State) : Type 0 where
  pub events_same : events (by_units p) own me k b s ≡ events (by_units q) own me k b s
  pub after_same : after (by_units p) b s ≡ after (by_units q) b s
  pub turns_same : turns (by_units p) k b s ≡ turns (by_units q) k b s

first_alike : (p q : ℕ → ℕ) (own : Declared) (me k : ℕ) (e : E) (a b : Body) (s : State) → number_at p e s ≢ 0 → number_at q e s ≢ 0
    → Alike p q own me (k + 1) a (bump 0 1 s) → AlikeOne p q own me k (If e a b) s
first_alike p q own me k e a b s one other h = record {
  events_same = ap (λ es. event me k Touches (map (use_as Reads) (may_read e)) ∷ es)
      (either_first (number_at p e s) _ _ one ∙ h.events_same ∙ sym (either_first (number_at q e s) _ _ other));
  after_same = either_first (number_at p e s) (after (by_units p) a (bump 0 1 s)) _ one ∙ h.after_same ∙ sym (either_first (number_at q e s) _ _ other);
  turns_same = either_first (number_at p e s) (turn k true ∷ turns (by_units p) (k + 1) a (bump 0 1 s)) _ one ∙ ap (λ ts. turn k true ∷ ts) h.turns_same
      ∙ sym (either_first (number_at q e s) _ _ other);
}

second_alike : (p q : ℕ → ℕ) (own : Declared) (me k : ℕ) (e : E) (a b : Body) (s : State) → number_at p e s ≡ 0 → number_at q e s ≡ 0
    → Alike p q own me (k + 1 + size a) b (bump 0 1 s) → AlikeOne p q own me k (If e a b) s
second_alike p q own me k e a b s one other h = record {
  events_same = ap (λ es. event me k Touches (map (use_as Reads) (may_read e)) ∷ es)
      (either_second (number_at p e s) _ _ one ∙ h.events_same ∙ sym (either_second (number_at q e s) _ _ other));
  after_same = either_second (number_at p e s) _ (after (by_units p) b (bump 0 1 s)) one ∙ h.after_same ∙ sym (either_second (number_at q e s) _ _ other);
  turns_same = either_second (number_at p e s) _ (turn k false ∷ turns (by_units p) (k + 1 + size a) b (bump 0 1 s)) one
      ∙ ap (λ ts. turn k false ∷ ts) h.turns_same ∙ sym (either_second (number_at q e s) _ _ other);
}

mutual
  pub alike_one : (p q : ℕ → ℕ) (own : Declared) (me k : ℕ) (x : S) (s : State) → Agree p q s.units (after_one (by_units p) x s).units
      → AlikeOne p q own me k x s
  alike_one p q own me k (Set c e) s agree = record { events_same = refl; after_same = refl; turns_same = refl }
  alike_one p q own me k (Fold o c e) s agree = record { events_same = refl; after_same = refl; turns_same = refl }
  alike_one p q own me k (If e a b) s agree =
      let here : number_at p e s ≡ number_at q e s =
      ap (unwrap_or (number_in_value e)) (agree s.units (omega arith) (units_grow_one (by_units p) (If e a b) s)) in
      elim (cases_eq (number_at p e s) 0) [
        | inl is ↦ second_alike p q own me k e a b s is (sym here ∙ is)
            (alike p q own me (k + 1 + size a) b (bump 0 1 s)
            (λ t from to. agree t (omega (arith, from)) (subst (λ (u : State). t < u.units) (sym (either_second (number_at p e s) _ (after (by_units p) b (bump 0 1 s)) is)) to)))
        | inr apart ↦ first_alike p q own me k e a b s apart (λ z. apart (here ∙ z))
            (alike p q own me (k + 1) a (bump 0 1 s)
            (λ t from to. agree t (omega (arith, from)) (subst (λ (u : State). t < u.units) (sym (either_first (number_at p e s) (after (by_units p) a (bump 0 1 s)) _ apart)) to)))
      ]
  alike_one p q own me k (Task d b) s agree =
      let h = alike p q (Some d) (s.tasks + 1) (k + 1) b (bump 1 1 s) (λ t from to. agree t (omega (arith, from)) to) in
      record { events_same = ap (λ es. event (s.tasks + 1) k (Begins me d) [] ∷ es) h.events_same; after_same = h.after_same; turns_same = h.turns_same }
  alike_one p q own me k (Wait w) s agree = record { events_same = refl; after_same = refl; turns_same = refl }
  alike_one p q own me k (Group o cs b) s agree =
      let h = alike p q own me (k + 1) b (bump 0 1 s) (λ t from to. agree t (omega (arith, from)) to) in
      record {
        events_same = ap (λ es. es ++ event me k (Leaves (length es)) (map (use_as Writes) cs) ∷ []) h.events_same;
        after_same = h.after_same;
        turns_same = h.turns_same;
      }

  pub alike : (p q : ℕ → ℕ) (own : Declared) (me k : ℕ) (b : Body) (s : State) → Agree p q s.units (after (by_units p) b s).units
      → Alike p q own me k b s
  alike p q own me k End s agree = record { events_same = refl; after_same = refl; turns_same = refl }
  alike p q own me k (Next x rest) s agree =
      let u = after_one (by_units p) x s in
      let grows : s.units < u.units = units_grow_one (by_units p) x s in
      let on : u.units ≤ (after (by_units p) rest u).units = units_grow (by_units p) rest u in
      let i = alike_one p q own me k x s (λ t from to. agree t from (omega (arith, to, on))) in
      let j = alike p q own me (k + size_one x) rest u (λ t from to. agree t (omega (arith, from, grows)) to) in
      record {
        events_same = ap (λ es. es ++ events (by_units p) own me (k + size_one x) rest u) i.events_same
            ∙ ap (λ es. events_one (by_units q) own me k x s ++ es) (j.events_same ∙ ap (events (by_units q) own me (k + size_one x) rest) i.after_same);
        after_same = j.after_same ∙ ap (after (by_units q) rest) i.after_same;
        turns_same = ap (λ ts. ts ++ turns (by_units p) (k + size_one x) rest u) i.turns_same
            ∙ ap (λ ts. turns_one (by_units q) k x s ++ ts) (j.turns_same ∙ ap (turns (by_units q) (k + size_one x) rest) i.after_same);
      }

-- ---- the way of a number

pub record HasWayOne (n : ℕ) (own : Declared) (me k : ℕ) (x : S) (s : State) : Type 0 where
  pub numbers : ℕ → ℕ
  pub events_are : events_one (by_units numbers) own me k x s ≡ events_on_one n own me k x s.tasks
  pub tasks_are : (after_one (by_units numbers) x s).tasks ≡ s.tasks + tasks_on_one n x
  pub turns_are : turns_one (by_units numbers) k x s ≡ turns_on_one n k x

pub record HasWay (n : ℕ) (own : Declared) (me k : ℕ) (b : Body) (s : State) : Type 0 where
  pub numbers : ℕ → ℕ
  pub events_are : events (by_units numbers) own me k b s ≡ events_on n own me k b s.tasks
  pub tasks_are : (after (by_units numbers) b s).tasks ≡ s.tasks + tasks_on n b
  pub turns_are : turns (by_units numbers) k b s ≡ turns_on n k b

no_more : (n : ℕ) → n + 0 ≡ n
no_more n = omega arith

-- the number in the statement executed as this one, and those behind it
abbrev then_by : ℕ → ℕ → (ℕ → ℕ) → ℕ → ℕ
then_by here number numbers t = if nat_lt here t then numbers t else number

way_first : (n : ℕ) (own : Declared) (me k : ℕ) (e : E) (a b : Body) (s : State) → takes_first (number_in_value e) n (ways a) ≡ true
    → HasWay n own me (k + 1) a (bump 0 1 s) → HasWayOne n own me k (If e a b) s
way_first n own me k e a b s first h =
    let c = then_by s.units 1 h.numbers in
    let here : c s.units ≡ 1 = if_not_less s.units s.units _ _ (omega arith) in
    let taken : number_at c e s ≢ 0 = taken_first (number_in_value e) (c s.units) n (ways a) first here in
    let l : Alike h.numbers c own me (k + 1) a (bump 0 1 s) =
    alike h.numbers c own me (k + 1) a (bump 0 1 s) (λ t from to. sym (if_less s.units t _ _ (omega (arith, from)))) in
    record {
      numbers = c;
      events_are = ap (λ es. event me k Touches (map (use_as Reads) (may_read e)) ∷ es)
          (either_first (number_at c e s) _ _ taken ∙ sym l.events_same ∙ h.events_are ∙ ap (events_on n own me (k + 1) a) (no_more s.tasks)
          ∙ sym (if_met (takes_first (number_in_value e) n (ways a)) _ _ first));
      tasks_are = ap (λ t. t.tasks) (either_first (number_at c e s) (after (by_units c) a (bump 0 1 s)) _ taken ∙ sym l.after_same) ∙ h.tasks_are
          ∙ ap (λ t. t + tasks_on n a) (no_more s.tasks) ∙ ap (λ t. s.tasks + t) (sym (if_met (takes_first (number_in_value e) n (ways a)) _ _ first));
      turns_are = either_first (number_at c e s) (turn k true ∷ turns (by_units c) (k + 1) a (bump 0 1 s)) _ taken
          ∙ ap (λ ts. turn k true ∷ ts) (sym l.turns_same ∙ h.turns_are) ∙ sym (if_met (takes_first (number_in_value e) n (ways a)) _ _ first);
    }

way_second : (n : ℕ) (own : Declared) (me k : ℕ) (e : E) (a b : Body) (s : State) → takes_first (number_in_value e) n (ways a) ≡ false
    → HasWay (left_for_second (number_in_value e) n (ways a)) own me (k + 1 + size a) b (bump 0 1 s) → HasWayOne n own me k (If e a b) s
way_second n own me k e a b s second h =
    let left = left_for_second (number_in_value e) n (ways a) in
    let c = then_by s.units 0 h.numbers in
    let here : c s.units ≡ 0 = if_not_less s.units s.units _ _ (omega arith) in
    let taken : number_at c e s ≡ 0 = taken_second (number_in_value e) (c s.units) n (ways a) second here in
    let l : Alike h.numbers c own me (k + 1 + size a) b (bump 0 1 s) =
    alike h.numbers c own me (k + 1 + size a) b (bump 0 1 s) (λ t from to. sym (if_less s.units t _ _ (omega (arith, from)))) in
    record {
      numbers = c;
      events_are = ap (λ es. event me k Touches (map (use_as Reads) (may_read e)) ∷ es)
          (either_second (number_at c e s) _ _ taken ∙ sym l.events_same ∙ h.events_are ∙ ap (events_on left own me (k + 1 + size a) b) (no_more s.tasks)
          ∙ sym (if_unmet (takes_first (number_in_value e) n (ways a)) _ _ second));
      tasks_are = ap (λ t. t.tasks) (either_second (number_at c e s) _ (after (by_units c) b (bump 0 1 s)) taken ∙ sym l.after_same) ∙ h.tasks_are
          ∙ ap (λ t. t + tasks_on left b) (no_more s.tasks) ∙ ap (λ t. s.tasks + t) (sym (if_unmet (takes_first (number_in_value e) n (ways a)) _ _ second));
      turns_are = either_second (number_at c e s) _ (turn k false ∷ turns (by_units c) (k + 1 + size a) b (bump 0 1 s)) taken
          ∙ ap (λ ts. turn k false ∷ ts) (sym l.turns_same ∙ h.turns_are) ∙ sym (if_unmet (takes_first (number_in_value e) n (ways a)) _ _ second);
    }

way_next : (n : ℕ) (own : Declared) (me k : ℕ) (x : S) (rest : Body) (s : State) → (i : HasWayOne (n % ways_one x) own me k x s)
    → HasWay (n / ways_one x) own me (k + size_one x) rest (after_one (by_units i.numbers) x s) → HasWay n own me k (Next x rest) s
way_next n own me k x rest s i j =
    let u = after_one (by_units i.numbers) x s in
    let c = λ (t : ℕ). if nat_lt t u.units then i.numbers t else j.numbers t in
    let p : AlikeOne i.numbers c own me k x s = alike_one i.numbers c own me k x s (λ t from to. sym (if_less t u.units _ _ to)) in
    let q : Alike j.numbers c own me (k + size_one x) rest u = alike j.numbers c own me (k + size_one x) rest u (λ t from to. sym (if_not_less t u.units _ _ from)) in
    record {
      numbers = c;
      events_are = ap (λ es. es ++ events (by_units c) own me (k + size_one x) rest (after_one (by_units c) x s)) (sym p.events_same ∙ i.events_are)
          ∙ ap (λ es. events_on_one (n % ways_one x) own me k x s.tasks ++ es)
          (ap (events (by_units c) own me (k + size_one x) rest) (sym p.after_same) ∙ sym q.events_same ∙ j.events_are
          ∙ ap (events_on (n / ways_one x) own me (k + size_one x) rest) i.tasks_are);
      tasks_are = let one : (after (by_units c) rest (after_one (by_units c) x s)).tasks ≡ u.tasks + tasks_on (n / ways_one x) rest =
          ap (λ t. t.tasks) (ap (after (by_units c) rest) (sym p.after_same) ∙ sym q.after_same) ∙ j.tasks_are in
          let two : u.tasks ≡ s.tasks + tasks_on_one (n % ways_one x) x = i.tasks_are in
          omega (arith, one, two);
      turns_are = ap (λ ts. ts ++ turns (by_units c) (k + size_one x) rest (after_one (by_units c) x s)) (sym p.turns_same ∙ i.turns_are)
          ∙ ap (λ ts. turns_on_one (n % ways_one x) k x ++ ts)
          (ap (turns (by_units c) (k + size_one x) rest) (sym p.after_same) ∙ sym q.turns_same ∙ j.turns_are);
    }

mutual
  pub way_of_one : (n : ℕ) (own : Declared) (me k : ℕ) (x : S) (s : State) → HasWayOne n own me k x s
  way_of_one n own me k (Set c e) s = record { numbers = λ t. 0; events_are = refl; tasks_are = refl; turns_are = refl }
  way_of_one n own me k (Fold o c e) s = record { numbers = λ t. 0; events_are = refl; tasks_are = refl; turns_are = refl }
  way_of_one n own me k (If e a b) s = elim (truth (takes_first (number_in_value e) n (ways a))) [
    | inl first ↦ way_first n own me k e a b s first (way_of n own me (k + 1) a (bump 0 1 s))
    | inr second ↦ way_second n own me k e a b s second (way_of (left_for_second (number_in_value e) n (ways a)) own me (k + 1 + size a) b (bump 0 1 s))
  ]
  way_of_one n own me k (Task d b) s =
      let h = way_of n (Some d) (s.tasks + 1) (k + 1) b (bump 1 1 s) in
      record {
        numbers = h.numbers;
        events_are = ap (λ es. event (s.tasks + 1) k (Begins me d) [] ∷ es) h.events_are;
        tasks_are = let e : (after (by_units h.numbers) b (bump 1 1 s)).tasks ≡ s.tasks + 1 + tasks_on n b = h.tasks_are in omega (arith, e);
        turns_are = h.turns_are;
      }
  way_of_one n own me k (Wait w) s = record { numbers = λ t. 0; events_are = refl; tasks_are = refl; turns_are = refl }
  way_of_one n own me k (Group o cs b) s =
      let h = way_of n own me (k + 1) b (bump 0 1 s) in
      record {
        numbers = h.numbers;
        events_are = ap (λ es. es ++ event me k (Leaves (length es)) (map (use_as Writes) cs) ∷ [])
            (h.events_are ∙ ap (events_on n own me (k + 1) b) (no_more s.tasks));
        tasks_are = h.tasks_are ∙ ap (λ t. t + tasks_on n b) (no_more s.tasks);
        turns_are = h.turns_are;
      }

  pub way_of : (n : ℕ) (own : Declared) (me k : ℕ) (b : Body) (s : State) → HasWay n own me k b s
  way_of n own me k End s = record { numbers = λ t. 0; events_are = refl; tasks_are = sym (no_more s.tasks); turns_are = refl }
  way_of n own me k (Next x rest) s =
      let i = way_of_one (n % ways_one x) own me k x s in
      way_next n own me k x rest s i (way_of (n / ways_one x) own me (k + size_one x) rest (after_one (by_units i.numbers) x s))
