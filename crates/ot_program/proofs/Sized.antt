-- What the copies of a text count is what their tree has.
use Rattle.std.proofs.Common.{◌≡◌, ℕ, zero, suc, ◌+◌, ◌-◌, ◌≤◌, Bool, true, false, cond, ◌&&◌, List, [], ◌∷◌, ◌++◌, map, length, codes, refl, arith, length-append}
use Rattle.std.specs.Prelude.{flat_map}
use Rattle.std.proofs.lemmas.List.FromFn.{length-map-range_with_len}
use Rattle.serde_json.specs.Data.{Data, array, Items, no_items, item}
use Rattle.ot_model.specs.Tree.{size, tasks_in, E, Literal, CellAt, Apply, PickFrom, S, If, body_of, cell_at, cells_of}
use Rattle.ot_model.specs.Programs.{Arrays}
use Rattle.ot_program.specs.Accepted.{parts, choices, sum_in, named_in}
use Rattle.ot_program.specs.Copies.{SetText, AddText, FoldText, IfText, ForText, Turn, TaskText, WaitText, WaitForText, GroupText, GroupByText, NoForm, Copy, Copies, Done, at, turns, copies, copies_of, copy, in_copy, in_order, statement_of, statements_of}
use Rattle.ot_program.specs.Limits.{Tally, tally, plus, nodes_of, picked_of, with_value, total}
use Rattle.ot_program.specs.Meanings.{items, letters, Bindings, size as size_text, section, value, clause, wait_clause, is_word, is_one, is_two}
use Rattle.ot_program.specs.declared.profile.Profile.{Profile}
use Rattle.ot_program.proofs.CellCounts.{named-append, sections_long, uses_few}
use Rattle.ot_program.proofs.Tallies.{nothing, total-append}

-- ---- values

abbrev pub part_count : E → ℕ
part_count e = length (parts e)

abbrev pub choice_count : E → ℕ
choice_count e = length (flat_map choices (parts e))

parts_are : (e : E) → part_count e ≡ nodes_of e
parts_are (Literal n) = refl
parts_are (CellAt c) = refl
parts_are (Apply o a b) = omega (arith, length-append (parts a) (parts b), parts_are a, parts_are b)
parts_are (PickFrom s e) = omega (arith, parts_are e)

choices-append : (xs ys : List E) → length (flat_map choices (xs ++ ys)) ≡ length (flat_map choices xs) + length (flat_map choices ys)
choices-append [] ys = omega arith
choices-append (x ∷ xs) ys =
    omega (arith, length-append (choices x) (flat_map choices (xs ++ ys)), length-append (choices x) (flat_map choices xs), choices-append xs ys)

pub choices_are : (e : E) → choice_count e ≡ picked_of e
choices_are (Literal n) = refl
choices_are (CellAt c) = refl
choices_are (Apply o a b) = omega (arith, choices-append (parts a) (parts b), choices_are a, choices_are b)
choices_are (PickFrom s e) =
    omega (arith, length-append (cells_of s) (flat_map choices (parts e)), length-map-range_with_len (cell_at s) 0 s.len, choices_are e)

-- ---- statements

size-append : (xs ys : List S) → size (body_of (xs ++ ys)) ≡ size (body_of xs) + size (body_of ys)
size-append [] ys = omega arith
size-append (x ∷ xs) ys = omega (arith, size-append xs ys)

tasks_in-append : (xs ys : List S) → tasks_in (body_of (xs ++ ys)) ≡ tasks_in (body_of xs) + tasks_in (body_of ys)
tasks_in-append [] ys = omega arith
tasks_in-append (x ∷ xs) ys = omega (arith, tasks_in-append xs ys)

sum-append : (f : E → ℕ) (ss ts : List S) → sum_in f (body_of (ss ++ ts)) ≡ sum_in f (body_of ss) + sum_in f (body_of ts)
sum-append f [] ts = omega arith
sum-append f (s ∷ ss) ts = omega (arith, sum-append f ss ts)

-- What was counted is what the tree of these statements has. A cell that several clauses of a declaration name is
-- counted each time, and stands in the tree once.
pub record Sized (n : Tally) (ss : List S) : Type 0 where
  pub statements : n.statements ≡ size (body_of ss)
  pub tasks : n.tasks ≡ tasks_in (body_of ss)
  pub nodes : n.nodes ≡ sum_in part_count (body_of ss)
  pub cells : sum_in choice_count (body_of ss) + named_in (body_of ss) ≤ n.cells

sized_none : Sized nothing []
sized_none = record { statements = refl; tasks = refl; nodes = refl; cells = omega arith }

sized_then : (n m : Tally) (ss ts : List S) → Sized n ss → Sized m ts → Sized (plus n m) (ss ++ ts)
sized_then n m ss ts h k = record {
  statements = omega (arith, size-append ss ts, h.statements, k.statements);
  tasks = omega (arith, tasks_in-append ss ts, h.tasks, k.tasks);
  nodes = omega (arith, sum-append part_count ss ts, h.nodes, k.nodes);
  cells = omega (arith, sum-append choice_count ss ts, named-append ss ts, h.cells, k.cells);
}

-- a `set` and a fold
sized_value : (e : E) (s : S) → size (body_of (s ∷ [])) ≡ 1 → tasks_in (body_of (s ∷ [])) ≡ 0
    → ((f : E → ℕ) → sum_in f (body_of (s ∷ [])) ≡ f e) → named_in (body_of (s ∷ [])) ≡ 0 → Sized (plus (with_value e) nothing) (s ∷ [])
sized_value e s one none values no_names = record {
  statements = omega (arith, one);
  tasks = omega (arith, none);
  nodes = omega (arith, values part_count, parts_are e);
  cells = omega (arith, values choice_count, choices_are e, no_names);
}

sized_if : (e : E) (n m : Tally) (ss ts : List S) → Sized n ss → Sized m ts
    → Sized (plus (with_value e) (plus n m)) (If e (body_of ss) (body_of ts) ∷ [])
sized_if e n m ss ts h k = record {
  statements = omega (arith, h.statements, k.statements);
  tasks = omega (arith, h.tasks, k.tasks);
  nodes = omega (arith, parts_are e, h.nodes, k.nodes);
  cells = omega (arith, choices_are e, h.cells, k.cells);
}

-- a `task` and a `group`, which count so many tasks
sized_body : (tasks cells : ℕ) (n : Tally) (ss : List S) (s : S) → size (body_of (s ∷ [])) ≡ 1 + size (body_of ss)
    → tasks_in (body_of (s ∷ [])) ≡ tasks + tasks_in (body_of ss)
    → ((f : E → ℕ) → sum_in f (body_of (s ∷ [])) ≡ sum_in f (body_of ss))
    → named_in (body_of (s ∷ [])) ≤ cells + named_in (body_of ss) → Sized n ss
    → Sized (plus (tally 1 tasks 0 0 cells) (plus n nothing)) (s ∷ [])
sized_body tasks cells n ss s one counts values names h = record {
  statements = omega (arith, one, h.statements);
  tasks = omega (arith, counts, h.tasks);
  nodes = omega (arith, values part_count, h.nodes);
  cells = omega (arith, values choice_count, names, h.cells);
}

-- a `for` and one turn of it, which count nothing that a tree has
sized_around : (turn : ℕ) (n : Tally) (ss : List S) → Sized n ss → Sized (plus (tally 0 0 turn 0 0) (plus n nothing)) ss
sized_around turn n ss h = record {
  statements = omega (arith, h.statements);
  tasks = omega (arith, h.tasks);
  nodes = omega (arith, h.nodes);
  cells = omega (arith, h.cells);
}

-- ---- copies

abbrev pub AreSized : Arrays → Copies → Type 0
AreSized shape cs = Sized (total shape (in_order cs)) (statements_of shape cs)

abbrev pub IsSized : Arrays → Copy → Type 0
IsSized shape c = Sized (total shape (in_copy c)) (statement_of shape c)

sized_test : (shape : Arrays) (b : Bool) (c d : Copy) → IsSized shape c → IsSized shape d → IsSized shape (cond b c d)
sized_test shape true c d h k = h
sized_test shape false c d h k = k

sized_turns : (shape : Arrays) (level : ℕ) (variables : Bindings) (body : ℕ → Copies) → ((k : ℕ) → AreSized shape (body k))
    → (first many : ℕ) → AreSized shape (turns level variables body first many)
sized_turns shape level variables body h first zero = sized_none
sized_turns shape level variables body h first (suc more) =
    let rest = turns level variables body (suc first) more in
    let turn = at level variables Turn (body first) Done in
    rw (total-append shape (in_copy turn) (in_order rest), total-append shape (in_order (body first)) [])
    (sized_then (plus (tally 0 0 1 0 0) (plus (total shape (in_order (body first))) nothing)) (total shape (in_order rest))
    (statements_of shape (body first)) (statements_of shape rest)
    (sized_around 1 (total shape (in_order (body first))) (statements_of shape (body first)) (h first))
    (sized_turns shape level variables body h (suc first) more))

mutual
  unfolding copies

  pub sized_copies : (shape : Arrays) (profile : Profile) (level : ℕ) (d : Data) (variables : Bindings) → AreSized shape (copies profile level d variables)
  sized_copies shape profile level (array ds) variables = sized_all shape profile level ds variables
  sized_copies shape profile level _ variables = sized_none

  sized_all : (shape : Arrays) (profile : Profile) (level : ℕ) (ds : Items) (variables : Bindings) → AreSized shape (copies_of profile level ds variables)
  sized_all shape profile level no_items variables = sized_none
  sized_all shape profile level (item d ds) variables =
      let c = copy profile level d variables in
      let cs = copies_of profile level ds variables in
      rw (total-append shape (in_copy c) (in_order cs))
      (sized_then (total shape (in_copy c)) (total shape (in_order cs)) (statement_of shape c) (statements_of shape cs)
      (sized_one shape profile level d variables) (sized_all shape profile level ds variables))

  sized_one : (shape : Arrays) (profile : Profile) (level : ℕ) (d : Data) (variables : Bindings) → IsSized shape (copy profile level d variables)
  sized_one shape profile level (array (item t no_items)) variables =
      sized_test shape (is_word t (codes "wait")) (at level variables WaitText Done Done) (at level variables NoForm Done Done)
      (record { statements = refl; tasks = refl; nodes = refl; cells = omega arith }) sized_none
  sized_one shape profile level (array (item t (item a no_items))) variables =
      sized_test shape (is_two profile && is_word t (codes "wait")) (at level variables (WaitForText a) Done Done) (at level variables NoForm Done Done)
      (record { statements = refl; tasks = refl; nodes = refl; cells = omega (arith, uses_few (map (wait_clause shape variables) (items a))) })
      sized_none
  sized_one shape profile level (array (item t (item a (item b no_items)))) variables =
      let e = value shape variables b in
      let cs = copies profile (level + 1) b variables in
      let n = total shape (in_order cs) in
      let ss = statements_of shape cs in
      let inside = sized_copies shape profile (level + 1) b variables in
      let set = at level variables (SetText a b) Done Done in
      let add = at level variables (AddText a b) Done Done in
      let task = at level variables (TaskText profile a b) cs Done in
      let group = at level variables (GroupText a b) cs Done in
      let none = at level variables NoForm Done Done in
      let is_group = is_one profile && is_word t (codes "group") in
      let groups = cond is_group group none in
      let tasks = cond (is_word t (codes "task")) task groups in
      let adds = cond (is_word t (codes "add")) add tasks in
      sized_test shape (is_word t (codes "set")) set adds (sized_value e _ refl refl (λ f. omega arith) refl)
      (sized_test shape (is_word t (codes "add")) add tasks (sized_value e _ refl refl (λ f. omega arith) refl)
      (sized_test shape (is_word t (codes "task")) task groups
      (rw (total-append shape (in_order cs) []) (sized_body 1 _ n ss _ (omega arith) (omega arith) (λ f. omega arith)
      (omega (arith, uses_few (map (clause shape profile variables) (items a)))) inside))
      (sized_test shape is_group group none
      (rw (total-append shape (in_order cs) []) (sized_body 0 _ n ss _ (omega arith) (omega arith) (λ f. omega arith)
      (omega (arith, sections_long (map (section shape variables) (items a)))) inside))
      sized_none)))
  sized_one shape profile level (array (item t (item a (item b (item c no_items))))) variables =
      let one = copies profile (level + 1) b variables in
      let two = copies profile (level + 1) c variables in
      let m = total shape (in_order two) in
      let ss = statements_of shape two in
      let fold = at level variables (FoldText a b c) Done Done in
      let group = at level variables (GroupByText a b c) two Done in
      let none = at level variables NoForm Done Done in
      let is_fold = is_two profile && is_word t (codes "fold") in
      let is_group = is_two profile && is_word t (codes "group") in
      let ifs = cond (is_word t (codes "if")) (at level variables (IfText a b c) one two) none in
      sized_test shape is_fold fold (cond is_group group ifs) (sized_value (value shape variables c) _ refl refl (λ f. omega arith) refl)
      (sized_test shape is_group group ifs
      (rw (total-append shape (in_order two) []) (sized_body 0 _ m ss _ (omega arith) (omega arith) (λ f. omega arith)
      (omega (arith, sections_long (map (section shape variables) (items b))))
      (sized_copies shape profile (level + 1) c variables)))
      (sized_test shape (is_word t (codes "if")) (at level variables (IfText a b c) one two) none
      (rw (total-append shape (in_order one) (in_order two))
      (sized_if (value shape variables a) (total shape (in_order one)) (total shape (in_order two)) (statements_of shape one) (statements_of shape two)
      (sized_copies shape profile (level + 1) b variables) (sized_copies shape profile (level + 1) c variables)))
      sized_none))
  sized_one shape profile level (array (item t (item a (item b (item c (item d no_items)))))) variables =
      let body : ℕ → Copies = λ k. copies profile (level + 1) d ((letters a, k) ∷ variables) in
      let first = size_text variables b in
      let many = size_text variables c - size_text variables b in
      let one = turns level variables body first many in
      sized_test shape (is_word t (codes "for")) (at level variables (ForText a b c d) one Done) (at level variables NoForm Done Done)
      (rw (total-append shape (in_order one) [])
      (sized_around 0 (total shape (in_order one)) (statements_of shape one)
      (sized_turns shape level variables body (λ k. sized_copies shape profile (level + 1) d ((letters a, k) ∷ variables)) first many)))
      sized_none
  sized_one shape profile level _ variables = sized_none
