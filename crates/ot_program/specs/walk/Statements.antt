-- Statements and bodies, in expanded order.
use Rattle.ot_model.specs.Programs.{Arrays, Expanded}
use Rattle.ot_model.specs.Tree.{E, S, Set, Fold, If, Task, Wait, Group, body_of, Body, cells_of}
use Rattle.ot_model.specs.declared.expr.Cell.{Cell}
use Rattle.ot_model.specs.declared.fold.Fold.{Fold as Operation}
use Rattle.ot_model.specs.declared.fold.Fold.TheVariants.{Plus}
use Rattle.ot_model.specs.declared.stmt.Use.{Use}
use Rattle.ot_program.specs.Limits.{cells_in}
use Rattle.ot_program.specs.Meanings.{Bindings, fold_of, is_name, is_word, is_one, is_two}
use Rattle.ot_program.specs.Requested.{ProgramForm}
use Rattle.ot_program.specs.walk.Parts.{cell_of, sections_of, expression_of, clauses_of, wait_clauses_of, declaration}
use Rattle.ot_program.specs.walk.Reading.{◌>>=◌, both_of}
use Rattle.ot_program.specs.walk.Sizes.{size_of, shallow}
use Rattle.ot_program.specs.declared.counts.Counts.{Counts}
use Rattle.ot_program.specs.declared.fault.Refusal.TheVariants.{Form}
use Rattle.ot_program.specs.declared.fault.Refusal.{Refusal}
use Rattle.ot_program.specs.declared.profile.Profile.{Profile}
use Rattle.serde_json.specs.Data.{Data, array, no_items, item, string, Items}
use Rattle.std.specs.Prelude.{[], ℕ, List, ◌∷◌, Option, Some, None, Result, Ok, Err, ◌&&◌, if◌then◌else◌, suc, ◌+◌, codes, zero, ◌++◌, map, flat_map, ◌-◌, ⊤}
use Rattle.ot_program.specs.walk.Counting.{more_counts, within_limits, with_expression, one_turn, one_task, deeper, no_counts}
use Rattle.ot_model.specs.declared.expr.Section.{Section}

-- statements that were read, and the counts after them
abbrev pub Read : Type 0
Read = Result (List S × Counts) Refusal

-- A reader goes on with the counts so far.
abbrev pub Reader : Type 0
Reader = Counts → Read

abbrev pub reader_refused : Refusal → Reader
reader_refused c n = Err c

-- One after the other. So the first statement with a fault decides, and a count that passes its limit
-- is a fault of the statement that passes it.
abbrev pub one_then : Reader → Reader → Reader
one_then first rest n = do
  p ← first n
  q ← rest p.1
  Ok (p.0 ++ q.0, q.1)

-- that a part of a statement is a list; what stands in it isn't looked at
abbrev pub list_of : Data → Result ⊤ Refusal
list_of (array ds) = Ok tt
list_of _ = Err Form

-- ---- a statement's own parts, and then its counts

-- of `set` and of a fold: the cell, and the value
abbrev pub target_of : Arrays → Bindings → Data → Data → Counts → Result ((Cell × E) × Counts) Refusal
target_of shape variables cell value n = do
  p ← both_of (cell_of shape variables cell) (expression_of shape variables value)
  m ← with_expression n p.1
  Ok (p, m)

-- of `if`: the condition, and that both bodies are lists
abbrev pub condition_of : Arrays → Bindings → ℕ → Data → Data → Data → Counts → Result (E × Counts) Refusal
condition_of shape variables level value one two n = do
  p ← both_of (expression_of shape variables value) (both_of (list_of one) (list_of two))
  fits ← deeper level
  m ← with_expression n p.0
  Ok (p.0, m)

-- of `task`: what it declares
abbrev pub declared_of : Arrays → Profile → Bindings → ℕ → Data → Data → Counts → Result (List Use × Counts) Refusal
declared_of shape profile variables level clauses body n = do
  p ← both_of (clauses_of shape profile variables clauses) (list_of body)
  fits ← deeper level
  m ← within_limits (more_counts n 1 0 (cells_in (map (λ c. c.section) p.0)))
  k ← one_task shape.tasks m
  uses ← declaration p.0
  Ok (uses, k)

-- of `wait` with clauses: what it declares
abbrev pub waited_of : Arrays → Bindings → Data → Counts → Result (List Use × Counts) Refusal
waited_of shape variables clauses n = do
  cs ← wait_clauses_of shape variables clauses
  m ← within_limits (more_counts n 1 0 (cells_in (map (λ c. c.section) cs)))
  uses ← declaration cs
  Ok (uses, m)

-- of `group`: the cells that it names
abbrev pub grouped_of : Arrays → Bindings → ℕ → Data → Data → Counts → Result (List Cell × Counts) Refusal
grouped_of shape variables level sections body n = do
  p ← both_of (sections_of shape variables sections) (list_of body)
  fits ← deeper level
  m ← within_limits (more_counts n 1 0 (cells_in p.0))
  Ok (flat_map cells_of p.0, m)

abbrev pub name_of : Data → Result (List ℕ) Refusal
name_of (string s) = if is_name s then Ok s else Err Form
name_of _ = Err Form

-- of `for`: the variable, and its first number and the one behind its last
pub record Range : Type 0 where
  pub variable : List ℕ
  pub first : ℕ
  pub behind : ℕ

abbrev pub range_of : Bindings → ℕ → Data → Data → Data → Data → Result Range Refusal
range_of variables level variable first behind body = do
  p ← both_of (name_of variable) (both_of (both_of (size_of variables first) (size_of variables behind)) (list_of body))
  fits ← deeper level
  fit ← both_of (shallow first) (shallow behind)
  Ok (record { variable = p.0; first = p.1.0.0; behind = p.1.0.1 })

-- ---- statements

abbrev pub set_in : Arrays → Bindings → Data → Data → Reader
set_in shape variables cell value n = do
  p ← target_of shape variables cell value n
  Ok (Set p.0.0 p.0.1 ∷ [], p.1)

-- a reader that wants an operation
abbrev pub by_operation : Option Operation → (Operation → Reader) → Reader
by_operation None reader = reader_refused Form
by_operation (Some op) reader = reader op

abbrev pub fold_in : Arrays → Bindings → Data → Data → Operation → Reader
fold_in shape variables cell value op n = do
  p ← target_of shape variables cell value n
  Ok (Fold op p.0.0 p.0.1 ∷ [], p.1)

abbrev pub wait_in : Reader
wait_in n = do
  m ← within_limits (more_counts n 1 0 0)
  Ok (Wait None ∷ [], m)

abbrev pub wait_form : Data → Reader
wait_form tag = if is_word tag (codes "wait") then wait_in else reader_refused Form

abbrev pub wait_for_in : Arrays → Bindings → Data → Reader
wait_for_in shape variables clauses n = do
  p ← waited_of shape variables clauses n
  Ok (Wait (Some p.0) ∷ [], p.1)

abbrev pub wait_for_form : Arrays → Profile → Bindings → Data → Data → Reader
wait_for_form shape profile variables tag clauses =
    if is_two profile && is_word tag (codes "wait") then wait_for_in shape variables clauses else reader_refused Form

-- the first body before the second
abbrev pub if_in : (Counts → Result (E × Counts) Refusal) → Reader → Reader → Reader
if_in condition one two n = do
  p ← condition n
  a ← one p.1
  b ← two a.1
  Ok (If p.0 (body_of a.0) (body_of b.0) ∷ [], b.1)

-- a statement with one body
abbrev pub with_body : {A : Type 0} → (A → Body → S) → (Counts → Result (A × Counts) Refusal) → Reader → Reader
with_body statement own body n = do
  p ← own n
  b ← body p.1
  Ok (statement p.0 (body_of b.0) ∷ [], b.1)

abbrev pub group_in : Arrays → Bindings → ℕ → Data → Data → Reader → Operation → Reader
group_in shape variables level sections body inside op =
    with_body (Group op) (grouped_of shape variables level sections body) inside

-- one turn of a `for`
abbrev pub turn : Reader → Reader
turn body n = do
  m ← one_turn n
  body m

-- so many turns from a number on, one after the other
abbrev pub turns : (ℕ → Reader) → ℕ → ℕ → Reader
turns body first zero = λ n. Ok ([], n)
turns body first (suc more) = one_then (turn (body first)) (turns body (suc first) more)

-- A `for` is its body once a turn, and nothing where its last number isn't above the first. What a
-- body reads is a function of the bindings in it.
abbrev pub for_in : Bindings → Result Range Refusal → (Bindings → Reader) → Reader
for_in variables range body n = do
  r ← range
  turns (λ number. body ((r.variable, number) ∷ variables)) r.first (r.behind - r.first) n

unfoldable mutual
  -- `[statement, ..]`, a body at a level
  pub body_in : Arrays → Profile → ℕ → Data → Bindings → Reader
  body_in shape profile level (array ds) variables = all_in shape profile level ds variables
  body_in shape profile level _ variables = reader_refused Form

  pub all_in : Arrays → Profile → ℕ → Items → Bindings → Reader
  all_in shape profile level no_items variables = λ n. Ok ([], n)
  all_in shape profile level (item d ds) variables = one_then (one_in shape profile level d variables) (all_in shape profile level ds variables)

  -- the forms of statements, by how many items they have
  pub one_in : Arrays → Profile → ℕ → Data → Bindings → Reader
  one_in shape profile level (array (item t no_items)) variables = wait_form t
  one_in shape profile level (array (item t (item a no_items))) variables = wait_for_form shape profile variables t a
  one_in shape profile level (array (item t (item a (item b no_items)))) variables =
      if is_word t (codes "set") then set_in shape variables a b else
      (if is_word t (codes "add") then fold_in shape variables a b Plus else
      (if is_word t (codes "task")
      then with_body Task (declared_of shape profile variables level a b) (body_in shape profile (level + 1) b variables) else
      (if is_one profile && is_word t (codes "group")
      then group_in shape variables level a b (body_in shape profile (level + 1) b variables) Plus else
      reader_refused Form)))
  one_in shape profile level (array (item t (item a (item b (item c no_items))))) variables =
      if is_two profile && is_word t (codes "fold") then by_operation (fold_of a) (fold_in shape variables b c) else
      (if is_two profile && is_word t (codes "group")
      then by_operation (fold_of a) (group_in shape variables level b c (body_in shape profile (level + 1) c variables)) else
      (if is_word t (codes "if")
      then if_in (condition_of shape variables level a b c) (body_in shape profile (level + 1) b variables) (body_in shape profile (level + 1) c variables) else
      reader_refused Form))
  one_in shape profile level (array (item t (item a (item b (item c (item d no_items)))))) variables =
      if is_word t (codes "for")
      then for_in variables (range_of variables level a b c d) (body_in shape profile (level + 1) d)
      else reader_refused Form
  one_in shape profile level _ variables = reader_refused Form

-- Programs: the own form with what is shown, and then the body.

-- The program's own form with its shows is one statement before all others, and then come those of
-- its body, which is at the first level. No variable is bound there.
abbrev pub shows_of : Arrays → Data → Data → Result (List Section × Counts) Refusal
shows_of shape shows body = do
  p ← both_of (sections_of shape [] shows) (list_of body)
  n ← within_limits (more_counts no_counts 0 0 (cells_in p.0))
  Ok (p.0, n)

abbrev pub program_expanded : List Section → List S × Counts → Expanded
program_expanded shows read =
    record { shows = shows; body = body_of read.0; statements = read.1.statements; tasks = read.1.tasks }

-- the program's body is at the first level
abbrev pub first_level : ℕ
first_level = 1

abbrev pub program_at : Arrays → Profile → Data → Data → Result Expanded Refusal
program_at shape profile shows body = do
  p ← shows_of shape shows body
  read ← body_in shape profile first_level body [] p.1
  Ok (program_expanded p.0 read)

-- What a text of this form is as a program over a shape: its expansion, or why it is refused.
abbrev pub walk_in : Arrays → Option ProgramForm → Result Expanded Refusal
walk_in shape None = Err Form
walk_in shape (Some f) = program_at shape f.profile f.shows f.body
