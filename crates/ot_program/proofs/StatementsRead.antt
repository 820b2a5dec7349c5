-- A statement's own parts with its counts: what is read of them is what they denote, or the first of the faults.
use Rattle.std.proofs.Common.{◌≡◌, ℕ, ◌+◌, ◌≤◌, Bool, true, false, cond, List, [], ◌∷◌, ◌++◌, map, Option, Some, None, Result, Ok, Err, nat_le, nat_lt, nat_eq, ◌&&◌, refl, sym, ap, ◌∙◌, arith, append_assoc, append-nil, add-zero, inl, inr}
use Rattle.std.specs.Prelude.{⊤, flat_map}
use Rattle.std.proofs.lemmas.Bool.{cases_lt, lt-ltb, le-ltb, le-leb, lt-leb}
use Rattle.serde_json.specs.Data.{Data, string, array}
use Rattle.ot_model.specs.Programs.{Arrays}
use Rattle.ot_model.specs.Tree.{E, cells_of}
use Rattle.ot_model.specs.declared.expr.Cell.{Cell}
use Rattle.ot_model.specs.declared.expr.Section.{Section}
use Rattle.ot_model.specs.declared.stmt.Use.{Use}
use Rattle.ot_program.specs.declared.clause.Clause.{Clause as CodeClause}
use Rattle.ot_program.specs.declared.counts.Counts.{Counts}
use Rattle.ot_program.specs.declared.fault.Refusal.{Refusal}
use Rattle.ot_program.specs.declared.fault.Refusal.TheVariants.{Form, Size, UnknownArray, OutOfRange, EmptySection, TooLarge, TooManyTasks, MixedReduction}
use Rattle.ot_program.specs.declared.profile.Profile.{Profile}
use Rattle.ot_program.specs.Meanings.{uses, items, letters, Bindings, size, Clause, cell, section, value, clause, wait_clause, is_name}
use Rattle.ot_program.specs.Faults.{unless, no_list, list_faults, deep, name_faults, size_faults, cell_faults, section_faults, expression_faults, clause_faults, wait_clause_faults, faults_mixed, faults_nested, past_limits, rank, least}
use Rattle.ot_program.specs.Limits.{max_nesting, max_statements, max_turns, max_nodes, max_cells, size_depth, nodes_of, picked_of, cells_in, Tally, tally, plus}
use Rattle.ot_program.specs.walk.Reading.{◌>>=◌, both_of}
use Rattle.ot_program.specs.walk.Sizes.{size_of, shallow}
use Rattle.ot_program.specs.walk.Counting.{more_counts, within_limits, with_expression, one_turn, one_task, deeper}
use Rattle.ot_program.specs.walk.Parts.{cell_of, sections_of, expression_of, clauses_of, wait_clauses_of, declaration}
use Rattle.ot_program.specs.walk.Statements.{Range, list_of, name_of, target_of, condition_of, declared_of, waited_of, grouped_of, range_of}
use Rattle.ot_program.proofs.Coded.{code_clause, code_counts}
use Rattle.ot_program.proofs.Lists.{least-lt, least-le}
use Rattle.ot_program.proofs.Firsts.{first_of, merged, first-append, AreFrom, Reads, reads_both, reads_later, reads_then, reads_made, reads_test, reads_right, reads_no_form, unless-from, append-from}
use Rattle.ot_program.proofs.DeclarationsRead.{declared_read}
use Rattle.ot_program.proofs.PartsRead.{size_reads, deep-from, shallow_reads, cell_reads, sections_reads, expression_reads, clauses_reads}
use Rattle.ot_program.proofs.Tallies.{AreWithin}
use Rattle.ot_program.proofs.WaitClauses.{wait_clauses_reads, unmixed}

-- ---- the order of two lists of faults doesn't matter

at_place : ℕ → Refusal
at_place n =
    cond (nat_eq n 0) Form (cond (nat_eq n 1) Size (cond (nat_eq n 2) UnknownArray (cond (nat_eq n 3) OutOfRange
    (cond (nat_eq n 4) EmptySection (cond (nat_eq n 5) TooLarge (cond (nat_eq n 6) TooManyTasks MixedReduction))))))

at_its_place : (c : Refusal) → at_place (rank c) ≡ c
unfolding at_place
at_its_place Form = refl
at_its_place Size = refl
at_its_place UnknownArray = refl
at_its_place OutOfRange = refl
at_its_place EmptySection = refl
at_its_place TooLarge = refl
at_its_place TooManyTasks = refl
at_its_place MixedReduction = refl

place_tells : (c d : Refusal) → rank c ≡ rank d → c ≡ d
place_tells c d same = sym (at_its_place c) ∙ ap at_place same ∙ at_its_place d

least-comm : (c d : Refusal) → least c d ≡ least d c
least-comm c d =
    elim (cases_lt (rank d) (rank c)) [
      | inl d_first ↦ least-lt c d d_first ∙ sym (least-le d c (omega arith))
      | inr c_first ↦ elim (cases_lt (rank c) (rank d)) [
        | inl before ↦ least-le c d c_first ∙ sym (least-lt d c before)
        | inr same ↦ least-le c d c_first ∙ place_tells c d (omega arith) ∙ sym (least-le d c same)
      ]
    ]

merged-comm : (o p : Option Refusal) → merged o p ≡ merged p o
merged-comm None None = refl
merged-comm None (Some d) = refl
merged-comm (Some c) None = refl
merged-comm (Some c) (Some d) = ap Some (least-comm c d)

pub first-swap : (fs gs : List Refusal) → first_of (fs ++ gs) ≡ first_of (gs ++ fs)
first-swap fs gs = first-append fs gs ∙ merged-comm (first_of fs) (first_of gs) ∙ sym (first-append gs fs)

-- ---- counts

-- one more is within where what was is below
below_is_within : (a b : ℕ) → nat_lt a b ≡ nat_le (a + 1) b
below_is_within a b =
    elim (cases_lt a b) [
      | inl below ↦ lt-ltb a b below ∙ sym (le-leb (a + 1) b (omega arith))
      | inr past ↦ le-ltb a b past ∙ sym (lt-leb (a + 1) b (omega arith))
    ]

limits_read : {A : Type 0} (a b c : Bool) (x : A)
    → Reads 5 (cond (a && b && c) (Ok x) (Err TooLarge)) x
    (unless a TooLarge ++ (unless true TooLarge ++ (unless b TooLarge ++ (unless c TooLarge ++ unless true TooManyTasks))))
limits_read true true true x = record { is = refl; up_to = tt }
limits_read true true false x = record { is = refl; up_to = omega arith }
limits_read true false true x = record { is = refl; up_to = omega arith }
limits_read true false false x = record { is = refl; up_to = omega arith }
limits_read false true true x = record { is = refl; up_to = omega arith }
limits_read false true false x = record { is = refl; up_to = omega arith }
limits_read false false true x = record { is = refl; up_to = omega arith }
limits_read false false false x = record { is = refl; up_to = omega arith }

-- the same with a test of tasks behind them
limits_read_then : {A B : Type 0} (a b c d : Bool) (x : A) (y : B) (k : A → Result B Refusal) → k x ≡ cond d (Ok y) (Err TooManyTasks)
    → Reads 6 (cond (a && b && c) (Ok x) (Err TooLarge) >>= k) y
    (unless a TooLarge ++ (unless true TooLarge ++ (unless b TooLarge ++ (unless c TooLarge ++ unless d TooManyTasks))))
limits_read_then true true true true x y k is = rw is (record { is = refl; up_to = tt })
limits_read_then true true true false x y k is = rw is (record { is = refl; up_to = omega arith })
limits_read_then true true false true x y k is = record { is = refl; up_to = omega arith }
limits_read_then true true false false x y k is = record { is = refl; up_to = omega arith }
limits_read_then true false true true x y k is = record { is = refl; up_to = omega arith }
limits_read_then true false true false x y k is = record { is = refl; up_to = omega arith }
limits_read_then true false false true x y k is = record { is = refl; up_to = omega arith }
limits_read_then true false false false x y k is = record { is = refl; up_to = omega arith }
limits_read_then false true true true x y k is = record { is = refl; up_to = omega arith }
limits_read_then false true true false x y k is = record { is = refl; up_to = omega arith }
limits_read_then false true false true x y k is = record { is = refl; up_to = omega arith }
limits_read_then false true false false x y k is = record { is = refl; up_to = omega arith }
limits_read_then false false true true x y k is = record { is = refl; up_to = omega arith }
limits_read_then false false true false x y k is = record { is = refl; up_to = omega arith }
limits_read_then false false false true x y k is = record { is = refl; up_to = omega arith }
limits_read_then false false false false x y k is = record { is = refl; up_to = omega arith }

-- one statement more that counts no task
pub within_reads : (limit : ℕ) (n : Tally) (nodes cells : ℕ) → AreWithin limit n
    → let m = plus n (tally 1 0 0 nodes cells) in
    Reads 5 (within_limits (more_counts (code_counts n) 1 nodes cells)) (code_counts m) (past_limits limit m)
within_reads limit n nodes cells w =
    let turns : nat_le n.turns max_turns ≡ true = le-leb n.turns max_turns w.turns in
    let tasks : nat_le n.tasks limit ≡ true = le-leb n.tasks limit w.tasks in
    rw (add-zero n.turns, add-zero n.tasks, turns, tasks)
    (limits_read (nat_le (n.statements + 1) max_statements) (nat_le (n.nodes + nodes) max_nodes) (nat_le (n.cells + cells) max_cells)
    (more_counts (code_counts n) 1 nodes cells))

value_counted : (limit : ℕ) (n : Tally) (e : E) → AreWithin limit n
    → let m = plus n (tally 1 0 0 (nodes_of e) (picked_of e)) in
    Reads 5 (with_expression (code_counts n) e) (code_counts m) (past_limits limit m)
value_counted limit n e w = within_reads limit n (nodes_of e) (picked_of e) w

pub task_reads : (limit : ℕ) (n : Tally) (cells : ℕ) → AreWithin limit n
    → let m = plus n (tally 1 1 0 0 cells) in
    Reads 6 (within_limits (more_counts (code_counts n) 1 0 cells) >>= one_task limit) (code_counts m) (past_limits limit m)
task_reads limit n cells w =
    let turns : nat_le n.turns max_turns ≡ true = le-leb n.turns max_turns w.turns in
    let m = more_counts (code_counts n) 1 0 cells in
    let y : Counts = record m { tasks = m.tasks + 1 } in
    rw (add-zero n.turns, turns)
    (limits_read_then (nat_le (n.statements + 1) max_statements) (nat_le (n.nodes + 0) max_nodes) (nat_le (n.cells + cells) max_cells)
    (nat_le (n.tasks + 1) limit) m y (one_task limit)
    (ap (λ (b : Bool). cond b (Ok y) (Err TooManyTasks)) (below_is_within n.tasks limit)))

pub turn_reads : (limit : ℕ) (n : Tally) → AreWithin limit n
    → let m = plus n (tally 0 0 1 0 0) in
    Reads 5 (one_turn (code_counts n)) (code_counts m) (past_limits limit m)
turn_reads limit n w =
    let statements : nat_le n.statements max_statements ≡ true = le-leb n.statements max_statements w.statements in
    let nodes : nat_le n.nodes max_nodes ≡ true = le-leb n.nodes max_nodes w.nodes in
    let cells : nat_le n.cells max_cells ≡ true = le-leb n.cells max_cells w.cells in
    let tasks : nat_le n.tasks limit ≡ true = le-leb n.tasks limit w.tasks in
    rw (add-zero n.statements, add-zero n.tasks, add-zero n.nodes, add-zero n.cells, statements, nodes, cells, tasks, below_is_within n.turns max_turns)
    (rw (append-nil (unless (nat_le (n.turns + 1) max_turns) TooLarge))
    (reads_test 5 (nat_le (n.turns + 1) max_turns) (record (code_counts n) { turns = n.turns + 1 }) TooLarge (omega arith)))

pub past-from : (limit : ℕ) (n : Tally) → AreFrom 5 (past_limits limit n)
past-from limit n =
    let a = unless (nat_le n.statements max_statements) TooLarge in
    let b = unless (nat_le n.turns max_turns) TooLarge in
    let c = unless (nat_le n.nodes max_nodes) TooLarge in
    let d = unless (nat_le n.cells max_cells) TooLarge in
    let e = unless (nat_le n.tasks limit) TooManyTasks in
    append-from 5 a (b ++ (c ++ (d ++ e))) (unless-from 5 (nat_le n.statements max_statements) TooLarge (omega arith))
    (append-from 5 b (c ++ (d ++ e)) (unless-from 5 (nat_le n.turns max_turns) TooLarge (omega arith))
    (append-from 5 c (d ++ e) (unless-from 5 (nat_le n.nodes max_nodes) TooLarge (omega arith))
    (append-from 5 d e (unless-from 5 (nat_le n.cells max_cells) TooLarge (omega arith)) (unless-from 5 (nat_le n.tasks limit) TooManyTasks (omega arith)))))

-- ---- the forms

pub list_reads : (d : Data) → Reads 5 (list_of d) tt (no_list d)
list_reads (array ds) = reads_right 5 tt
list_reads _ = reads_no_form 5 tt

deeper_reads : (level : ℕ) → Reads 5 (deeper level) tt (faults_nested level)
deeper_reads level = reads_test 5 (nat_lt level max_nesting) tt TooLarge (omega arith)

nested-from : (level : ℕ) → AreFrom 5 (faults_nested level)
nested-from level = unless-from 5 (nat_lt level max_nesting) TooLarge (omega arith)

-- of `set` and of a fold
pub target_reads : (shape : Arrays) (variables : Bindings) (a b : Data) (n : Tally) → AreWithin shape.tasks n
    → let m = plus n (tally 1 0 0 (nodes_of (value shape variables b)) (picked_of (value shape variables b))) in
    Reads 5 (target_of shape variables a b (code_counts n)) ((cell shape variables a, value shape variables b), code_counts m)
    ((cell_faults shape variables a ++ expression_faults shape variables b) ++ past_limits shape.tasks m)
target_reads shape variables a b n w =
    let c = cell shape variables a in
    let e = value shape variables b in
    let m = plus n (tally 1 0 0 (nodes_of e) (picked_of e)) in
    reads_then {A = Cell × E} {B = (Cell × E) × Counts} 5 5 (both_of (cell_of shape variables a) (expression_of shape variables b))
    (λ p. with_expression (code_counts n) p.1 >>= λ k. Ok (p, k)) (c, e) ((c, e), code_counts m)
    (cell_faults shape variables a ++ expression_faults shape variables b) (past_limits shape.tasks m) (omega arith)
    (reads_both 5 (cell_of shape variables a) (expression_of shape variables b) c e (cell_faults shape variables a) (expression_faults shape variables b)
    (cell_reads shape variables a) (expression_reads shape variables b))
    (past-from shape.tasks m)
    (reads_made {A = Counts} {B = (Cell × E) × Counts} 5 (with_expression (code_counts n) e) (λ k. ((c, e), k)) (code_counts m) (past_limits shape.tasks m)
    (value_counted shape.tasks n e w))

-- behind the parts that were read, the nesting, and then the counts
behind_parts : {A B : Type 0} (r : Result A Refusal) (x : A) (fs : List Refusal) (level last : ℕ) (k : A → Result B Refusal) (y : B) (gs : List Refusal)
    → 5 ≤ last → Reads 5 r x fs → AreFrom 5 gs → Reads last (k x) y gs
    → Reads last (r >>= λ p. deeper level >>= λ fits. k p) y (fs ++ (faults_nested level ++ gs))
behind_parts {A} {B} r x fs level last k y gs below parts later then =
    reads_then {A = A} {B = B} 5 last r (λ p. deeper level >>= λ fits. k p) x y fs (faults_nested level ++ gs) below parts
    (append-from 5 (faults_nested level) gs (nested-from level) later)
    (reads_then {B = B} 5 last (deeper level) (λ fits. k x) tt y (faults_nested level) gs below (deeper_reads level) later then)

-- of `if`
pub condition_reads : (shape : Arrays) (variables : Bindings) (level : ℕ) (a b c : Data) (n : Tally) → AreWithin shape.tasks n
    → let m = plus n (tally 1 0 0 (nodes_of (value shape variables a)) (picked_of (value shape variables a))) in
    Reads 5 (condition_of shape variables level a b c (code_counts n)) (value shape variables a, code_counts m)
    (((expression_faults shape variables a ++ (no_list b ++ no_list c)) ++ faults_nested level) ++ past_limits shape.tasks m)
condition_reads shape variables level a b c n w =
    let e = value shape variables a in
    let m = plus n (tally 1 0 0 (nodes_of e) (picked_of e)) in
    let fs = expression_faults shape variables a ++ (no_list b ++ no_list c) in
    rw (append_assoc fs (faults_nested level) (past_limits shape.tasks m))
    (behind_parts {A = E × (⊤ × ⊤)} {B = E × Counts} (both_of (expression_of shape variables a) (both_of (list_of b) (list_of c))) (e, (tt, tt)) fs level 5
    (λ p. with_expression (code_counts n) p.0 >>= λ k. Ok (p.0, k)) (e, code_counts m) (past_limits shape.tasks m) (omega arith)
    (reads_both 5 (expression_of shape variables a) (both_of (list_of b) (list_of c)) e (tt, tt) (expression_faults shape variables a) (no_list b ++ no_list c)
    (expression_reads shape variables a) (reads_both 5 (list_of b) (list_of c) tt tt (no_list b) (no_list c) (list_reads b) (list_reads c)))
    (past-from shape.tasks m)
    (reads_made {A = Counts} {B = E × Counts} 5 (with_expression (code_counts n) e) (λ k. (e, k)) (code_counts m) (past_limits shape.tasks m)
    (value_counted shape.tasks n e w)))

-- of `group`
pub grouped_reads : (shape : Arrays) (variables : Bindings) (level : ℕ) (a b : Data) (n : Tally) → AreWithin shape.tasks n
    → let m = plus n (tally 1 0 0 0 (cells_in (map (section shape variables) (items a)))) in
    Reads 5 (grouped_of shape variables level a b (code_counts n)) (flat_map cells_of (map (section shape variables) (items a)), code_counts m)
    (((list_faults (section_faults shape variables) a ++ no_list b) ++ faults_nested level) ++ past_limits shape.tasks m)
grouped_reads shape variables level a b n w =
    let ss = map (section shape variables) (items a) in
    let m = plus n (tally 1 0 0 0 (cells_in ss)) in
    let fs = list_faults (section_faults shape variables) a ++ no_list b in
    rw (append_assoc fs (faults_nested level) (past_limits shape.tasks m))
    (behind_parts {A = List Section × ⊤} {B = List Cell × Counts} (both_of (sections_of shape variables a) (list_of b)) (ss, tt) fs level 5
    (λ p. within_limits (more_counts (code_counts n) 1 0 (cells_in p.0)) >>= λ k. Ok (flat_map cells_of p.0, k)) (flat_map cells_of ss, code_counts m) (past_limits shape.tasks m) (omega arith)
    (reads_both 5 (sections_of shape variables a) (list_of b) ss tt (list_faults (section_faults shape variables) a) (no_list b)
    (sections_reads shape variables a) (list_reads b))
    (past-from shape.tasks m)
    (reads_made {A = Counts} {B = List Cell × Counts} 5 (within_limits (more_counts (code_counts n) 1 0 (cells_in ss))) (λ k. (flat_map cells_of ss, k)) (code_counts m) (past_limits shape.tasks m)
    (within_reads shape.tasks n 0 (cells_in ss) w)))

mixed-from : (k : ℕ) → k ≤ 7 → (clauses : List Clause) → AreFrom k (faults_mixed clauses)
mixed-from k below clauses = unless-from k _ MixedReduction (omega arith)

sections_coded : (cs : List Clause) → map (λ c. c.section) (map code_clause cs) ≡ map (λ c. c.section) cs
sections_coded [] = refl
sections_coded (c ∷ cs) = ap (λ (ss : List Section). c.section ∷ ss) (sections_coded cs)

bind-assoc : {A B C : Type 0} (r : Result A Refusal) (k : A → Result B Refusal) (j : B → Result C Refusal)
    → ((r >>= k) >>= j) ≡ (r >>= λ x. k x >>= j)
bind-assoc (Ok x) k j = refl
bind-assoc (Err c) k j = refl

-- of `task`
pub declared_reads : (shape : Arrays) (profile : Profile) (variables : Bindings) (level : ℕ) (a b : Data) (n : Tally) → AreWithin shape.tasks n
    → let cs = map (clause shape profile variables) (items a) in
    let m = plus n (tally 1 1 0 0 (cells_in (map (λ c. c.section) cs))) in
    Reads 7 (declared_of shape profile variables level a b (code_counts n)) (uses cs, code_counts m)
    ((list_faults (clause_faults shape profile variables) a ++ no_list b) ++ (faults_nested level ++ (past_limits shape.tasks m ++ faults_mixed cs)))
declared_reads shape profile variables level a b n w =
    let cs = map (clause shape profile variables) (items a) in
    let ds = map code_clause cs in
    let cells = cells_in (map (λ c. c.section) ds) in
    let m = plus n (tally 1 1 0 0 cells) in
    let fs = list_faults (clause_faults shape profile variables) a ++ no_list b in
    rw (← sections_coded cs)
    (behind_parts {A = List CodeClause × ⊤} {B = List Use × Counts} (both_of (clauses_of shape profile variables a) (list_of b)) (ds, tt) fs level 7
    (λ p. within_limits (more_counts (code_counts n) 1 0 (cells_in (map (λ c. c.section) p.0))) >>= λ k. one_task shape.tasks k >>= λ j. declaration p.0 >>= λ us. Ok (us, j))
    (uses cs, code_counts m) (past_limits shape.tasks m ++ faults_mixed cs) (omega arith)
    (reads_both 5 (clauses_of shape profile variables a) (list_of b) ds tt (list_faults (clause_faults shape profile variables) a) (no_list b)
    (clauses_reads shape profile variables a) (list_reads b))
    (append-from 5 (past_limits shape.tasks m) (faults_mixed cs) (past-from shape.tasks m) (mixed-from 5 (omega arith) cs))
    (rw (← bind-assoc {C = List Use × Counts} (within_limits (more_counts (code_counts n) 1 0 cells)) (one_task shape.tasks) (λ j. declaration ds >>= λ us. Ok (us, j)))
    (reads_then {A = Counts} {B = List Use × Counts} 6 7 (within_limits (more_counts (code_counts n) 1 0 cells) >>= one_task shape.tasks) (λ j. declaration ds >>= λ us. Ok (us, j)) (code_counts m) (uses cs, code_counts m)
    (past_limits shape.tasks m) (faults_mixed cs) (omega arith) (task_reads shape.tasks n cells w) (mixed-from 6 (omega arith) cs)
    (reads_made {A = List Use} {B = List Use × Counts} 7 (declaration ds) (λ us. (us, code_counts m)) (uses cs) (faults_mixed cs) (declared_read cs)))))

-- of `wait` with clauses
pub waited_reads : (shape : Arrays) (variables : Bindings) (a : Data) (n : Tally) → AreWithin shape.tasks n
    → let cs = map (wait_clause shape variables) (items a) in
    let m = plus n (tally 1 0 0 0 (cells_in (map (λ c. c.section) cs))) in
    Reads 7 (waited_of shape variables a (code_counts n)) (uses cs, code_counts m) (list_faults (wait_clause_faults shape variables) a ++ past_limits shape.tasks m)
waited_reads shape variables a n w =
    let cs = map (wait_clause shape variables) (items a) in
    let ds = map code_clause cs in
    let cells = cells_in (map (λ c. c.section) ds) in
    let m = plus n (tally 1 0 0 0 cells) in
    let none : past_limits shape.tasks m ++ faults_mixed cs ≡ past_limits shape.tasks m =
    ap (λ ms. past_limits shape.tasks m ++ ms) (unmixed shape variables a) ∙ append-nil (past_limits shape.tasks m) in
    rw (← sections_coded cs, ← none)
    (reads_then {A = List CodeClause} {B = List Use × Counts} 5 7 (wait_clauses_of shape variables a)
    (λ ds. within_limits (more_counts (code_counts n) 1 0 (cells_in (map (λ c. c.section) ds))) >>= λ j. declaration ds >>= λ us. Ok (us, j)) ds
    (uses cs, code_counts m) (list_faults (wait_clause_faults shape variables) a) (past_limits shape.tasks m ++ faults_mixed cs) (omega arith)
    (wait_clauses_reads shape variables a)
    (append-from 5 (past_limits shape.tasks m) (faults_mixed cs) (past-from shape.tasks m) (mixed-from 5 (omega arith) cs))
    (reads_then {A = Counts} {B = List Use × Counts} 5 7 (within_limits (more_counts (code_counts n) 1 0 cells)) (λ j. declaration ds >>= λ us. Ok (us, j)) (code_counts m) (uses cs, code_counts m)
    (past_limits shape.tasks m) (faults_mixed cs) (omega arith) (within_reads shape.tasks n 0 cells w) (mixed-from 5 (omega arith) cs)
    (reads_made {A = List Use} {B = List Use × Counts} 7 (declaration ds) (λ us. (us, code_counts m)) (uses cs) (faults_mixed cs) (declared_read cs))))

-- of `for`
name_reads : (d : Data) → Reads 5 (name_of d) (letters d) (name_faults d)
name_reads (string s) = reads_test 5 (is_name s) s Form (omega arith)
name_reads _ = reads_no_form 5 []

abbrev pub range : Bindings → Data → Data → Data → Range
range variables a b c = record { variable = letters a; first = size variables b; behind = size variables c }

pub range_reads : (variables : Bindings) (level : ℕ) (a b c d : Data)
    → Reads 5 (range_of variables level a b c d) (range variables a b c)
    ((name_faults a ++ ((size_faults variables b ++ size_faults variables c) ++ no_list d)) ++ (faults_nested level ++ (deep (size_depth b) ++ deep (size_depth c))))
range_reads variables level a b c d =
    let s = size_of variables b in
    let t = size_of variables c in
    let i = size variables b in
    let j = size variables c in
    let sizes = size_faults variables b ++ size_faults variables c in
    behind_parts {A = List ℕ × ((ℕ × ℕ) × ⊤)} {B = Range} (both_of (name_of a) (both_of (both_of s t) (list_of d))) (letters a, ((i, j), tt))
    (name_faults a ++ (sizes ++ no_list d)) level 5
    (λ p. both_of (shallow b) (shallow c) >>= λ fit. Ok (record { variable = p.0; first = p.1.0.0; behind = p.1.0.1 })) (range variables a b c) (deep (size_depth b) ++ deep (size_depth c)) (omega arith)
    (reads_both 5 (name_of a) (both_of (both_of s t) (list_of d)) (letters a) ((i, j), tt) (name_faults a) (sizes ++ no_list d) (name_reads a)
    (reads_both 5 (both_of s t) (list_of d) (i, j) tt sizes (no_list d)
    (reads_later 2 5 (both_of s t) (i, j) sizes (omega arith)
    (reads_both 2 s t i j (size_faults variables b) (size_faults variables c) (size_reads variables b) (size_reads variables c)))
    (list_reads d)))
    (append-from 5 (deep (size_depth b)) (deep (size_depth c)) (deep-from 5 (size_depth b) (omega arith)) (deep-from 5 (size_depth c) (omega arith)))
    (reads_made {B = Range} 5 (both_of (shallow b) (shallow c)) (λ fit. range variables a b c) (tt, tt) (deep (size_depth b) ++ deep (size_depth c))
    (reads_both 5 (shallow b) (shallow c) tt tt (deep (size_depth b)) (deep (size_depth c)) (shallow_reads b) (shallow_reads c)))
