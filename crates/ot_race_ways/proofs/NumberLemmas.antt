-- Each way has a number.
use Rattle.std.proofs.Common.{◌≡◌, ◌≢◌, ◌+◌, ◌*◌, ◌/◌, ◌%◌, ◌<◌, ℕ, [], ◌∷◌, ◌++◌, length, map, refl, sym, ap, ◌∙◌, inl, inr, arith}
use Rattle.std.specs.Prelude.{true, false, Some, unwrap_or}
use Rattle.std.proofs.lemmas.Bool.{cases_eq}
use Rattle.std.proofs.lemmas.Nat.{mul-add-lt, mod-mul-add, div-mul-add}
use Rattle.ot_model.specs.Tree.{E, S, Set, Fold, If, Task, Wait, Group, Body, End, Next, size, size_one}
use Rattle.ot_model.specs.Serial.{State, bump}
use Rattle.ot_model.specs.declared.stmt.Mode.TheVariants.{Reads, Writes}
use Rattle.ot_check.specs.Offences.{use_as, Declared}
use Rattle.ot_race.specs.Events.{event, Touches, Begins, Leaves, events, events_one, after, after_one}
use Rattle.ot_race_ways.specs.Known.{number_in_value, may_read}
use Rattle.ot_race_ways.specs.Ways.{way_by, ways, ways_one}
use Rattle.ot_race_ways.specs.Numbered.{events_on, events_on_one, tasks_on, tasks_on_one, takes_first, left_for_second}
use Rattle.ot_race_ways.proofs.BranchLemmas.{either_first, either_second, if_met, if_unmet, first_taken, first_below, number_of_second, second_taken, second_left, second_below}

pub record HasNumberOne (condition : State → E → ℕ) (own : Declared) (me k : ℕ) (x : S) (s : State) : Type 0 where
  pub n : ℕ
  pub below : n < ways_one x
  pub events_are : events_one (way_by condition) own me k x s ≡ events_on_one n own me k x s.tasks
  pub tasks_are : (after_one (way_by condition) x s).tasks ≡ s.tasks + tasks_on_one n x

pub record HasNumber (condition : State → E → ℕ) (own : Declared) (me k : ℕ) (b : Body) (s : State) : Type 0 where
  pub n : ℕ
  pub below : n < ways b
  pub events_are : events (way_by condition) own me k b s ≡ events_on n own me k b s.tasks
  pub tasks_are : (after (way_by condition) b s).tasks ≡ s.tasks + tasks_on n b

add_none : (n : ℕ) → n + 0 ≡ n
add_none n = omega arith

number_first : (condition : State → E → ℕ) (own : Declared) (me k : ℕ) (e : E) (a b : Body) (s : State) → unwrap_or (number_in_value e) (condition s e) ≢ 0
    → HasNumber condition own me (k + 1) a (bump 0 1 s) → HasNumberOne condition own me k (If e a b) s
number_first condition own me k e a b s taken h =
    let way = way_by condition in
    let number = unwrap_or (number_in_value e) (condition s e) in
    let first : takes_first (number_in_value e) h.n (ways a) ≡ true = first_taken (number_in_value e) (condition s e) h.n (ways a) taken h.below in
    record {
      n = h.n;
      below = first_below (number_in_value e) (condition s e) h.n (ways a) (ways b) taken h.below;
      events_are = ap (λ es. event me k Touches (map (use_as Reads) (may_read e)) ∷ es)
          (either_first number _ _ taken ∙ h.events_are ∙ ap (events_on h.n own me (k + 1) a) (add_none s.tasks)
          ∙ sym (if_met (takes_first (number_in_value e) h.n (ways a)) _ _ first));
      tasks_are = ap (λ t. t.tasks) (either_first number (after way a (bump 0 1 s)) _ taken) ∙ h.tasks_are
          ∙ ap (λ t. t + tasks_on h.n a) (add_none s.tasks) ∙ ap (λ t. s.tasks + t) (sym (if_met (takes_first (number_in_value e) h.n (ways a)) _ _ first));
    }

number_second : (condition : State → E → ℕ) (own : Declared) (me k : ℕ) (e : E) (a b : Body) (s : State) → unwrap_or (number_in_value e) (condition s e) ≡ 0
    → HasNumber condition own me (k + 1 + size a) b (bump 0 1 s) → HasNumberOne condition own me k (If e a b) s
number_second condition own me k e a b s taken h =
    let way = way_by condition in
    let number = unwrap_or (number_in_value e) (condition s e) in
    let n = number_of_second (number_in_value e) (ways a) h.n in
    let second : takes_first (number_in_value e) n (ways a) ≡ false = second_taken (number_in_value e) (condition s e) h.n (ways a) taken in
    let left : h.n ≡ left_for_second (number_in_value e) n (ways a) = second_left (number_in_value e) h.n (ways a) in
    record {
      n = n;
      below = second_below (number_in_value e) (condition s e) h.n (ways a) (ways b) taken h.below;
      events_are = ap (λ es. event me k Touches (map (use_as Reads) (may_read e)) ∷ es)
          (either_second number _ _ taken ∙ h.events_are ∙ ap (events_on h.n own me (k + 1 + size a) b) (add_none s.tasks)
          ∙ ap (λ m. events_on m own me (k + 1 + size a) b s.tasks) left ∙ sym (if_unmet (takes_first (number_in_value e) n (ways a)) _ _ second));
      tasks_are = ap (λ t. t.tasks) (either_second number _ (after way b (bump 0 1 s)) taken) ∙ h.tasks_are
          ∙ ap (λ t. t + tasks_on h.n b) (add_none s.tasks) ∙ ap (λ m. s.tasks + tasks_on m b) left
          ∙ ap (λ t. s.tasks + t) (sym (if_unmet (takes_first (number_in_value e) n (ways a)) _ _ second));
    }

number_next : (condition : State → E → ℕ) (own : Declared) (me k : ℕ) (x : S) (rest : Body) (s : State) → (i : HasNumberOne condition own me k x s)
    → HasNumber condition own me (k + size_one x) rest (after_one (way_by condition) x s) → HasNumber condition own me k (Next x rest) s
number_next condition own me k x rest s i j =
    let way = way_by condition in
    let w = ways_one x in
    let n = j.n * w + i.n in
    let t = after_one way x s in
    let low : i.n ≡ n % w = sym (mod-mul-add j.n w i.n i.below) in
    let high : j.n ≡ n / w = sym (div-mul-add j.n w i.n i.below) in
    let later : events way own me (k + size_one x) rest t ≡ events_on (n / w) own me (k + size_one x) rest (s.tasks + tasks_on_one (n % w) x) =
    j.events_are ∙ ap (events_on j.n own me (k + size_one x) rest) (i.tasks_are ∙ ap (λ m. s.tasks + tasks_on_one m x) low)
    ∙ ap (λ m. events_on m own me (k + size_one x) rest (s.tasks + tasks_on_one (n % w) x)) high in
    record {
      n = n;
      below = mul-add-lt j.n w i.n (ways rest) j.below i.below;
      events_are = ap (λ es. es ++ events way own me (k + size_one x) rest t) (i.events_are ∙ ap (λ m. events_on_one m own me k x s.tasks) low)
          ∙ ap (λ es. events_on_one (n % w) own me k x s.tasks ++ es) later;
      tasks_are = let one : t.tasks ≡ s.tasks + tasks_on_one (n % w) x = i.tasks_are ∙ ap (λ m. s.tasks + tasks_on_one m x) low in
          let two : (after way rest t).tasks ≡ t.tasks + tasks_on (n / w) rest = j.tasks_are ∙ ap (λ m. t.tasks + tasks_on m rest) high in
          omega (arith, one, two);
    }

mutual
  pub number_one : (condition : State → E → ℕ) (own : Declared) (me k : ℕ) (x : S) (s : State) → HasNumberOne condition own me k x s
  number_one condition own me k (Set c e) s = record { n = 0; below = omega arith; events_are = refl; tasks_are = refl }
  number_one condition own me k (Fold o c e) s = record { n = 0; below = omega arith; events_are = refl; tasks_are = refl }
  number_one condition own me k (If e a b) s = elim (cases_eq (unwrap_or (number_in_value e) (condition s e)) 0) [
    | inl taken ↦ number_second condition own me k e a b s taken (number condition own me (k + 1 + size a) b (bump 0 1 s))
    | inr taken ↦ number_first condition own me k e a b s taken (number condition own me (k + 1) a (bump 0 1 s))
  ]
  number_one condition own me k (Task d b) s =
      let h = number condition (Some d) (s.tasks + 1) (k + 1) b (bump 1 1 s) in
      record {
        n = h.n;
        below = h.below;
        events_are = ap (λ es. event (s.tasks + 1) k (Begins me d) [] ∷ es) h.events_are;
        tasks_are = let e : (after (way_by condition) b (bump 1 1 s)).tasks ≡ s.tasks + 1 + tasks_on h.n b = h.tasks_are in omega (arith, e);
      }
  number_one condition own me k (Wait w) s = record { n = 0; below = omega arith; events_are = refl; tasks_are = refl }
  number_one condition own me k (Group o cs b) s =
      let h = number condition own me (k + 1) b (bump 0 1 s) in
      record {
        n = h.n;
        below = h.below;
        events_are = ap (λ es. es ++ event me k (Leaves (length es)) (map (use_as Writes) cs) ∷ [])
            (h.events_are ∙ ap (events_on h.n own me (k + 1) b) (add_none s.tasks));
        tasks_are = h.tasks_are ∙ ap (λ t. t + tasks_on h.n b) (add_none s.tasks);
      }

  pub number : (condition : State → E → ℕ) (own : Declared) (me k : ℕ) (b : Body) (s : State) → HasNumber condition own me k b s
  number condition own me k End s = record { n = 0; below = omega arith; events_are = refl; tasks_are = sym (add_none s.tasks) }
  number condition own me k (Next x rest) s =
      number_next condition own me k x rest s (number_one condition own me k x s)
      (number condition own me (k + size_one x) rest (after_one (way_by condition) x s))
