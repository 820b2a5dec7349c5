-- The way through a straight body does what its run does.
use Rattle.std.proofs.Common.{◌≡◌, ◌∙◌, ◌+◌, ◌%◌, ◌<◌, ℕ, true, false, ◌&&◌, List, [], ◌∷◌, ◌++◌, length, map, refl, sym, ap, subst, arith, inl, inr}
use Rattle.std.specs.Prelude.{nat_lt, Option, Some, None, unwrap_or, if◌then◌else◌}
use Rattle.std.proofs.lemmas.Bool.{cases_eq}
use Rattle.ot_model.specs.Tree.{E, Literal, CellAt, Apply, PickFrom, S, Set, Fold, If, Task, Wait, Group, Body, End, Next, size, size_one, val, cell_at}
use Rattle.ot_model.specs.Cells.{cell_of}
use Rattle.ot_model.specs.Serial.{State, bump, either}
use Rattle.ot_model.specs.declared.expr.Cell.{Cell}
use Rattle.ot_model.specs.declared.stmt.Mode.TheVariants.{Reads, Writes}
use Rattle.ot_check.specs.Offences.{use_as, Declared}
use Rattle.ot_race.specs.Events.{event, Touches, Begins, Leaves, fold_as, events, events_one, events_of, beginning, after, after_one, reads_now, this_way}
use Rattle.ot_race.specs.Races.{NothingRaces}
use Rattle.ot_race_order.specs.Orders.{ordered_by}
use Rattle.ot_race_order.specs.declared.order.Order.{Order}
use Rattle.ot_check.proofs.Cited.{eq_apart}
use Rattle.ot_race_ways.specs.Known.{names_none, number_in_value, choices, may_read}
use Rattle.ot_race_ways.specs.Straight.{is_fixed, is_straight, is_straight_one}
use Rattle.ot_race_ways.specs.Verdicts.{NoWayRaces}
use Rattle.ot_race_ways.specs.Ways.{way_by}
use Rattle.ot_race_ways.proofs.BranchLemmas.{either_first, either_second, same_number, picks_none, number_of, known_number, straight_knows, straight_takes}
use Rattle.ot_race_ways.proofs.TellLemmas.{left_of, right_of, less_of}

-- a value that names no cell reads none
none_read : (look : Cell → Option ℕ) (e : E) → names_none e ≡ true → (reads_now look e ≡ []) × (may_read e ≡ [])
none_read look (Literal n) h = (refl, refl)
none_read look (CellAt c) h = cc
none_read look (Apply o a b) h =
    let one = none_read look a (left_of (names_none a) (names_none b) h) in
    let two = none_read look b (right_of (names_none a) (names_none b) h) in (
      ap (λ cs. cs ++ reads_now look b) one.0 ∙ two.0,
      ap (λ cs. cs ++ may_read b) one.1 ∙ two.1,
    )
none_read look (PickFrom s e) h = cc

-- a value that reads the same cells whatever they hold reads what it may
reads_named : (look : Cell → Option ℕ) (e : E) → is_fixed e ≡ true → reads_now look e ≡ may_read e
reads_named look (Literal n) h = refl
reads_named look (CellAt c) h = refl
reads_named look (Apply o a b) h =
    ap (λ cs. cs ++ reads_now look b) (reads_named look a (left_of (is_fixed a) (is_fixed b) h))
    ∙ ap (λ cs. may_read a ++ cs) (reads_named look b (right_of (is_fixed a) (is_fixed b) h))
reads_named look (PickFrom s e) h =
    let names : names_none e ≡ true = left_of (names_none e) (nat_lt 0 s.len) h in
    let some : 0 < s.len = less_of 0 s.len (right_of (names_none e) (nat_lt 0 s.len) h) in
    let none = none_read look e names in
    let one : reads_now look (PickFrom s e) ≡ cell_at s (number_of e % s.len) ∷ [] =
    ap (λ cs. cs ++ cell_at s (val look e % s.len) ∷ []) none.0 ∙ ap (λ n. cell_at s (n % s.len) ∷ []) (same_number look (λ c. None) e names) in
    let other : may_read (PickFrom s e) ≡ cell_at s (number_of e % s.len) ∷ [] =
    ap (λ b. choices s (if b then Some (number_of e) else None) ++ may_read e) names
    ∙ ap (λ b. (if b then [] else cell_at s (number_of e % s.len) ∷ []) ++ may_read e) (eq_apart s.len 0 (λ z. absurd (omega (arith, some, z))))
    ∙ ap (λ cs. cell_at s (number_of e % s.len) ∷ cs) none.1 in
    one ∙ sym other

-- the run from one state and a way from another one, in which as many tasks were executed
record IsSameOne (condition : State → E → ℕ) (own : Declared) (me k : ℕ) (x : S) (s t : State) : Type 0 where
  events_same : events_one this_way own me k x s ≡ events_one (way_by condition) own me k x t
  tasks_same : (after_one this_way x s).tasks ≡ (after_one (way_by condition) x t).tasks

record IsSame (condition : State → E → ℕ) (own : Declared) (me k : ℕ) (b : Body) (s t : State) : Type 0 where
  events_same : events this_way own me k b s ≡ events (way_by condition) own me k b t
  tasks_same : (after this_way b s).tasks ≡ (after (way_by condition) b t).tasks

more_tasks : (n m k : ℕ) → n ≡ m → n + k ≡ m + k
more_tasks n m k h = omega (arith, h)

mutual
  same_one : (condition : State → E → ℕ) (own : Declared) (me k : ℕ) (x : S) (s t : State) → is_straight_one x ≡ true → s.tasks ≡ t.tasks
      → IsSameOne condition own me k x s t
  same_one condition own me k (Set c e) s t h tasks = record {
    events_same = ap (λ cs. event me k Touches (map (use_as Reads) cs ++ use_as Writes c ∷ []) ∷ []) (reads_named (cell_of s.cells) e h);
    tasks_same = more_tasks s.tasks t.tasks 0 tasks;
  }
  same_one condition own me k (Fold o c e) s t h tasks = record {
    events_same = ap (λ cs. event me k Touches (map (use_as Reads) cs ++ use_as (fold_as own o c) c ∷ []) ∷ []) (reads_named (cell_of s.cells) e h);
    tasks_same = more_tasks s.tasks t.tasks 0 tasks;
  }
  same_one condition own me k (If e a b) s t h tasks =
      let way = way_by condition in
      let none : names_none e ≡ true = straight_knows e (is_straight a) (is_straight b) h in
      let body : either (number_of e) (is_straight a) (is_straight b) ≡ true = straight_takes e (is_straight a) (is_straight b) h in
      let run : val (cell_of s.cells) e ≡ number_of e = same_number (cell_of s.cells) (λ c. None) e none in
      let on : unwrap_or (number_in_value e) (condition t e) ≡ number_of e = known_number e (condition t e) none in
      let one = events this_way own me (k + 1) a (bump 0 1 s) in
      let two = events this_way own me (k + 1 + size a) b (bump 0 1 s) in
      let reads = ap (λ cs. event me k Touches (map (use_as Reads) cs) ∷ either (val (cell_of s.cells) e) one two)
      (reads_named (cell_of s.cells) e (picks_none e none)) in
      let test = event me k Touches (map (use_as Reads) (may_read e)) in
      elim (cases_eq (number_of e) 0) [
        | inl is ↦
            let i = same condition own me (k + 1 + size a) b (bump 0 1 s) (bump 0 1 t) (sym (either_second (number_of e) _ _ is) ∙ body) (more_tasks s.tasks t.tasks 0 tasks) in
            record {
              events_same = reads ∙ ap (λ es. test ∷ es) (either_second (val (cell_of s.cells) e) one two (run ∙ is) ∙ i.events_same
                  ∙ sym (either_second (unwrap_or (number_in_value e) (condition t e)) (events way own me (k + 1) a (bump 0 1 t)) _ (on ∙ is)));
              tasks_same = ap (λ t. t.tasks) (either_second (val (cell_of s.cells) e) (after this_way a (bump 0 1 s)) _ (run ∙ is)) ∙ i.tasks_same
                  ∙ sym (ap (λ t. t.tasks) (either_second (unwrap_or (number_in_value e) (condition t e)) (after way a (bump 0 1 t)) (after way b (bump 0 1 t)) (on ∙ is)));
            }
        | inr apart ↦
            let i = same condition own me (k + 1) a (bump 0 1 s) (bump 0 1 t) (sym (either_first (number_of e) _ _ apart) ∙ body) (more_tasks s.tasks t.tasks 0 tasks) in
            record {
              events_same = reads ∙ ap (λ es. test ∷ es) (either_first (val (cell_of s.cells) e) one two (λ z. apart (sym run ∙ z)) ∙ i.events_same
                  ∙ sym (either_first (unwrap_or (number_in_value e) (condition t e)) _ (events way own me (k + 1 + size a) b (bump 0 1 t)) (λ z. apart (sym on ∙ z))));
              tasks_same = ap (λ t. t.tasks) (either_first (val (cell_of s.cells) e) _ (after this_way b (bump 0 1 s)) (λ z. apart (sym run ∙ z))) ∙ i.tasks_same
                  ∙ sym (ap (λ t. t.tasks) (either_first (unwrap_or (number_in_value e) (condition t e)) (after way a (bump 0 1 t)) (after way b (bump 0 1 t)) (λ z. apart (sym on ∙ z))));
            }
      ]
  same_one condition own me k (Task d b) s t h tasks =
      let i = same condition (Some d) (s.tasks + 1) (k + 1) b (bump 1 1 s) (bump 1 1 t) h (more_tasks s.tasks t.tasks 1 tasks) in
      record {
        events_same = ap (λ es. event (s.tasks + 1) k (Begins me d) [] ∷ es) i.events_same
            ∙ ap (λ n. event (n + 1) k (Begins me d) [] ∷ events (way_by condition) (Some d) (n + 1) (k + 1) b (bump 1 1 t)) tasks;
        tasks_same = i.tasks_same;
      }
  same_one condition own me k (Wait w) s t h tasks = record { events_same = refl; tasks_same = more_tasks s.tasks t.tasks 0 tasks }
  same_one condition own me k (Group o cs b) s t h tasks =
      let i = same condition own me (k + 1) b (bump 0 1 s) (bump 0 1 t) h (more_tasks s.tasks t.tasks 0 tasks) in
      record {
        events_same = ap (λ es. es ++ event me k (Leaves (length es)) (map (use_as Writes) cs) ∷ []) i.events_same;
        tasks_same = i.tasks_same;
      }

  same : (condition : State → E → ℕ) (own : Declared) (me k : ℕ) (b : Body) (s t : State) → is_straight b ≡ true → s.tasks ≡ t.tasks
      → IsSame condition own me k b s t
  same condition own me k End s t h tasks = record { events_same = refl; tasks_same = tasks }
  same condition own me k (Next x rest) s t h tasks =
      let i = same_one condition own me k x s t (left_of (is_straight_one x) (is_straight rest) h) tasks in
      let j = same condition own me (k + size_one x) rest (after_one this_way x s) (after_one (way_by condition) x t)
      (right_of (is_straight_one x) (is_straight rest) h) i.tasks_same in
      record {
        events_same = ap (λ es. es ++ events this_way own me (k + size_one x) rest (after_one this_way x s)) i.events_same
            ∙ ap (λ es. events_one (way_by condition) own me k x t ++ es) j.events_same;
        tasks_same = j.tasks_same;
      }

pub no_way_races : (order : Order) (body : Body) (cells : List (List ℕ)) → is_straight body ≡ true
    → NothingRaces (ordered_by order (events_of this_way body cells)) → NoWayRaces order body
no_way_races order body cells h none condition from =
    subst (λ es. NothingRaces (ordered_by order es)) (same condition None 0 1 body (beginning cells) (beginning from) h refl).events_same none

-- ---- the walk

-- a statement is straight: all is said of those behind it
pub past : (x : S) (rest left body : Body) → left ≡ Next x rest → is_straight_one x ≡ true → is_straight left ≡ is_straight body → is_straight rest ≡ is_straight body
past x rest left body split h so_far = ap (λ b. b && is_straight rest) (sym h) ∙ ap is_straight (sym split) ∙ so_far

-- or it isn't
pub here : (x : S) (rest left body : Body) → left ≡ Next x rest → is_straight_one x ≡ false → is_straight left ≡ is_straight body → false ≡ is_straight body
here x rest left body split h so_far = ap (λ b. b && is_straight rest) (sym h) ∙ ap is_straight (sym split) ∙ so_far
