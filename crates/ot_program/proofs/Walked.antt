-- The walk over a text gives what its copies are, or tells what is told of them.
use Rattle.std.proofs.Common.{◌≡◌, ℕ, zero, suc, ◌+◌, ◌-◌, Bool, true, false, cond, ◌&&◌, List, [], ◌∷◌, ◌++◌, map, Option, Some, None, Result, Ok, codes, refl, sym, ap, ◌∙◌, append_assoc, append-nil}
use Rattle.std.specs.Prelude.{flat_map, is_some, unwrap_or}
use Rattle.std.specs.Option.{option_or}
use Rattle.serde_json.specs.Data.{Data, array, Items, no_items, item}
use Rattle.ot_model.specs.Programs.{Arrays}
use Rattle.ot_model.specs.Tree.{E, S, Set, Fold, If, Task, Wait, Group, Body, body_of, cells_of}
use Rattle.ot_model.specs.declared.fold.Fold.{Fold as Operation}
use Rattle.ot_model.specs.declared.fold.Fold.TheVariants.{Plus}
use Rattle.ot_model.specs.declared.stmt.Use.{Use}
use Rattle.ot_program.specs.declared.counts.Counts.{Counts}
use Rattle.ot_program.specs.declared.fault.Refusal.{Refusal}
use Rattle.ot_program.specs.declared.fault.Refusal.TheVariants.{Form}
use Rattle.ot_program.specs.declared.profile.Profile.{Profile}
use Rattle.ot_program.specs.Copies.{SetText, AddText, FoldText, IfText, ForText, Turn, TaskText, WaitText, WaitForText, GroupText, GroupByText, NoForm, Placed, Copy, Copies, Done, at, turns, copies, copies_of, copy, in_copy, in_order, statement_of, statements_of}
use Rattle.ot_program.specs.Meanings.{uses, items, letters, fold_of, Bindings, size, cell, section, value, clause, wait_clause, is_word, is_one, is_two}
use Rattle.ot_program.specs.Faults.{unless, no_list, list_faults, cell_faults, section_faults, expression_faults, clause_faults, faults_mixed, faults_nested, own_faults, past_limits}
use Rattle.ot_program.specs.Limits.{cells_in, Tally, tally, plus, with_value}
use Rattle.ot_program.specs.Programs.{told_or}
use Rattle.ot_program.specs.walk.Reading.{◌>>=◌}
use Rattle.ot_program.specs.walk.Counting.{more_counts, within_limits, one_turn}
use Rattle.ot_program.specs.walk.Statements.{Read, Reader, Range, reader_refused, one_then, target_of, condition_of, declared_of, waited_of, grouped_of, range_of, by_operation, set_in, fold_in, wait_in, wait_for_in, with_body, group_in, if_in, for_in, turn, body_in, all_in, one_in}
use Rattle.ot_program.specs.walk.Statements as walk
use Rattle.ot_program.proofs.Coded.{code_counts}
use Rattle.ot_program.proofs.Firsts.{first_of, form-earlier, first-append}
use Rattle.ot_program.proofs.StatementsRead.{first-swap, within_reads, turn_reads, target_reads, condition_reads, grouped_reads, declared_reads, waited_reads, range, range_reads}
use Rattle.ot_program.proofs.Tallies.{nothing, plus-nothing, tally_at, with_one, sum_from, sum-append, faults_at, told_from, told-append, AreWithin, not_past, within_after, within_sum}

-- ---- readers

-- a reader gives these statements and the counts with them, or what is told of the copies in their order
abbrev pub Meets : Arrays → Reader → List Placed → List S → Type 0
Meets shape f ps ss = (n : Tally) → AreWithin shape.tasks n → f (code_counts n) ≡ told_or (ss, code_counts (sum_from shape n ps)) (told_from shape n ps)

abbrev pub outcome : Arrays → Tally → List Placed → List S → Read
outcome shape n ps ss = told_or (ss, code_counts (sum_from shape n ps)) (told_from shape n ps)

made_by : {A B : Type 0} (x : A) (f : A → B) (o : Option Refusal) → (told_or x o >>= λ z. Ok (f z)) ≡ told_or (f x) o
made_by x f None = refl
made_by x f (Some c) = refl

-- what follows what was read
pub follow_by : {A B : Type 0} (o p : Option Refusal) (x : A) (y : B) (k : A → Result B Refusal) → (o ≡ None → k x ≡ told_or y p)
    → (told_or x o >>= k) ≡ told_or y (option_or o p)
follow_by None p x y k h = h refl
follow_by (Some c) p x y k h = refl

meets_then : (shape : Arrays) (f g : Reader) (ps qs : List Placed) (ss ts : List S) → Meets shape f ps ss → Meets shape g qs ts
    → Meets shape (one_then f g) (ps ++ qs) (ss ++ ts)
meets_then shape f g ps qs ss ts h k n w =
    let m = sum_from shape n ps in
    rw (h n w, told-append shape n ps qs, sum-append shape n ps qs)
    (follow_by {A = List S × Counts} {B = List S × Counts} (told_from shape n ps) (told_from shape m qs) (ss, code_counts m) (ss ++ ts, code_counts (sum_from shape m qs)) (λ p. g p.1 >>= λ q. Ok (p.0 ++ q.0, q.1))
    (λ none. rw (k m (within_sum shape n ps w none))
    (made_by {A = List S × Counts} {B = List S × Counts} (ts, code_counts (sum_from shape m qs)) (λ q. (ss ++ q.0, q.1)) (told_from shape m qs))))

-- a statement's own parts, and then what follows them
after_own : {B : Type 0} (shape : Arrays) (n : Tally) (p : Placed) (qs : List Placed) (ss : List S) (r : Result B Refusal) (y : B) (k : B → Read)
    → r ≡ told_or y (first_of (faults_at shape n p))
    → (AreWithin shape.tasks (with_one shape n p) → k y ≡ outcome shape (with_one shape n p) qs ss)
    → (r >>= k) ≡ outcome shape n (p ∷ qs) ss
after_own shape n p qs ss r y k is h =
    rw is (follow_by {B = List S × Counts} (first_of (faults_at shape n p)) (told_from shape (with_one shape n p) qs) y (ss, code_counts (sum_from shape (with_one shape n p) qs)) k
    (λ none. h (within_after shape n p none)))

meets_body : {A : Type 0} (shape : Arrays) (p : Placed) (x : A) (make : A → Body → S) (own : Counts → Result (A × Counts) Refusal) (body : Reader)
    (qs : List Placed) (ss : List S)
    → ((n : Tally) → AreWithin shape.tasks n → own (code_counts n) ≡ told_or (x, code_counts (with_one shape n p)) (first_of (faults_at shape n p)))
    → Meets shape body qs ss → Meets shape (with_body make own body) (p ∷ (qs ++ [])) (make x (body_of ss) ∷ [])
meets_body {A} shape p x make own body qs ss h k n w =
    rw (append-nil qs)
    (after_own {B = A × Counts} shape n p qs (make x (body_of ss) ∷ []) (own (code_counts n)) (x, code_counts (with_one shape n p)) (λ z. body z.1 >>= λ b. Ok (make z.0 (body_of b.0) ∷ [], b.1))
    (h n w)
    (λ v. let m = with_one shape n p in
    rw (k m v) (made_by {A = List S × Counts} {B = List S × Counts} (ss, code_counts (sum_from shape m qs)) (λ b. (make x (body_of b.0) ∷ [], b.1)) (told_from shape m qs))))

meets_if : (shape : Arrays) (p : Placed) (e : E) (own : Counts → Result (E × Counts) Refusal) (one two : Reader)
    (qs rs : List Placed) (ss ts : List S)
    → ((n : Tally) → AreWithin shape.tasks n → own (code_counts n) ≡ told_or (e, code_counts (with_one shape n p)) (first_of (faults_at shape n p)))
    → Meets shape one qs ss → Meets shape two rs ts → Meets shape (if_in own one two) (p ∷ (qs ++ rs)) (If e (body_of ss) (body_of ts) ∷ [])
meets_if shape p e own one two qs rs ss ts h k j n w =
    after_own {B = E × Counts} shape n p (qs ++ rs) (If e (body_of ss) (body_of ts) ∷ []) (own (code_counts n)) (e, code_counts (with_one shape n p))
    (λ z. one z.1 >>= λ a. two a.1 >>= λ b. Ok (If z.0 (body_of a.0) (body_of b.0) ∷ [], b.1)) (h n w)
    (λ v. let m = with_one shape n p in let l = sum_from shape m qs in
    rw (k m v, told-append shape m qs rs, sum-append shape m qs rs)
    (follow_by {A = List S × Counts} {B = List S × Counts} (told_from shape m qs) (told_from shape l rs) (ss, code_counts l) (If e (body_of ss) (body_of ts) ∷ [], code_counts (sum_from shape l rs))
    (λ a. two a.1 >>= λ b. Ok (If e (body_of a.0) (body_of b.0) ∷ [], b.1))
    (λ none. rw (j l (within_sum shape m qs v none))
    (made_by {A = List S × Counts} {B = List S × Counts} (ts, code_counts (sum_from shape l rs)) (λ b. (If e (body_of ss) (body_of b.0) ∷ [], b.1)) (told_from shape l rs)))))

-- ---- `for`

meets_turn : (shape : Arrays) (level : ℕ) (variables : Bindings) (body : Reader) (cs : Copies)
    → Meets shape body (in_order cs) (statements_of shape cs)
    → Meets shape (turn body) (in_copy (at level variables Turn cs Done)) (statements_of shape cs)
meets_turn shape level variables body cs h n w =
    let p : Placed = record { level = level; variables = variables; text = Turn } in
    rw (append-nil (in_order cs))
    (after_own {B = Counts} shape n p (in_order cs) (statements_of shape cs) (one_turn (code_counts n)) (code_counts (with_one shape n p)) body
    ((turn_reads shape.tasks n w).is) (λ v. h (with_one shape n p) v))

meets_turns : (shape : Arrays) (level : ℕ) (variables : Bindings) (body : ℕ → Reader) (cs : ℕ → Copies)
    → ((k : ℕ) → Meets shape (body k) (in_order (cs k)) (statements_of shape (cs k)))
    → (first many : ℕ) → Meets shape (walk.turns body first many) (in_order (turns level variables cs first many)) (statements_of shape (turns level variables cs first many))
meets_turns shape level variables body cs h first zero n w = refl
meets_turns shape level variables body cs h first (suc more) n w =
    meets_then shape (turn (body first)) (walk.turns body (suc first) more) (in_copy (at level variables Turn (cs first) Done))
    (in_order (turns level variables cs (suc first) more)) (statements_of shape (cs first)) (statements_of shape (turns level variables cs (suc first) more))
    (meets_turn shape level variables (body first) (cs first) (h first))
    (meets_turns shape level variables body cs h (suc first) more) n w

meets_for : (shape : Arrays) (profile : Profile) (level : ℕ) (variables : Bindings) (a b c d : Data)
    → ((inner : Bindings) → Meets shape (body_in shape profile (level + 1) d inner) (in_order (copies profile (level + 1) d inner)) (statements_of shape (copies profile (level + 1) d inner)))
    → let one = turns level variables (λ k. copies profile (level + 1) d ((letters a, k) ∷ variables)) (size variables b) (size variables c - size variables b) in
    Meets shape (for_in variables (range_of variables level a b c d) (body_in shape profile (level + 1) d))
    (in_copy (at level variables (ForText a b c d) one Done)) (statements_of shape one)
meets_for shape profile level variables a b c d h n w =
    let p : Placed = record { level = level; variables = variables; text = ForText a b c d } in
    let body : ℕ → Reader = λ k. body_in shape profile (level + 1) d ((letters a, k) ∷ variables) in
    let cs : ℕ → Copies = λ k. copies profile (level + 1) d ((letters a, k) ∷ variables) in
    let first = size variables b in
    let many = size variables c - size variables b in
    let one = turns level variables cs first many in
    let own = own_faults shape p in
    let none_more : own ++ past_limits shape.tasks (plus n nothing) ≡ own =
    ap (λ (m : Tally). own ++ past_limits shape.tasks m) (plus-nothing n) ∙ ap (λ (fs : List Refusal). own ++ fs) (not_past shape.tasks n w) ∙ append-nil own in
    rw (append-nil (in_order one))
    (after_own {B = Range} shape n p (in_order one) (statements_of shape one) (range_of variables level a b c d) (range variables a b c)
    (λ r. walk.turns (λ k. body_in shape profile (level + 1) d ((r.variable, k) ∷ variables)) r.first (r.behind - r.first) (code_counts n))
    ((range_reads variables level a b c d).is ∙ ap (λ (fs : List Refusal). told_or (range variables a b c) (first_of fs)) (sym none_more))
    (λ v. meets_turns shape level variables body cs (λ k. h ((letters a, k) ∷ variables)) first many n w
    ∙ ap (λ (m : Tally). outcome shape m (in_order one) (statements_of shape one)) (sym (plus-nothing n))))

-- ---- the forms

abbrev pub MeetsCopy : Arrays → Reader → Copy → Type 0
MeetsCopy shape f c = Meets shape f (in_copy c) (statement_of shape c)

meets_test : (shape : Arrays) (b : Bool) (f g : Reader) (c d : Copy) → MeetsCopy shape f c → MeetsCopy shape g d → MeetsCopy shape (cond b f g) (cond b c d)
meets_test shape true f g c d h k = h
meets_test shape false f g c d h k = k

meets_no_form : (shape : Arrays) (level : ℕ) (variables : Bindings) → MeetsCopy shape (reader_refused Form) (at level variables NoForm Done Done)
meets_no_form shape level variables n w = rw (form-earlier (first_of (past_limits shape.tasks (plus n nothing)))) refl

meets_wait : (shape : Arrays) (level : ℕ) (variables : Bindings) → MeetsCopy shape wait_in (at level variables WaitText Done Done)
meets_wait shape level variables n w =
    let p : Placed = record { level = level; variables = variables; text = WaitText } in
    after_own {B = Counts} shape n p [] (Wait None ∷ []) (within_limits (more_counts (code_counts n) 1 0 0)) (code_counts (with_one shape n p)) (λ m. Ok (Wait None ∷ [], m))
    ((within_reads shape.tasks n 0 0 w).is) (λ v. refl)

meets_wait_for : (shape : Arrays) (level : ℕ) (variables : Bindings) (a : Data) → MeetsCopy shape (wait_for_in shape variables a) (at level variables (WaitForText a) Done Done)
meets_wait_for shape level variables a n w =
    let p : Placed = record { level = level; variables = variables; text = WaitForText a } in
    let us = uses (map (wait_clause shape variables) (items a)) in
    after_own {B = List Use × Counts} shape n p [] (Wait (Some us) ∷ []) (waited_of shape variables a (code_counts n)) (us, code_counts (with_one shape n p)) (λ q. Ok (Wait (Some q.0) ∷ [], q.1))
    ((waited_reads shape variables a n w).is) (λ v. refl)

meets_set : (shape : Arrays) (level : ℕ) (variables : Bindings) (a b : Data) → MeetsCopy shape (set_in shape variables a b) (at level variables (SetText a b) Done Done)
meets_set shape level variables a b n w =
    let p : Placed = record { level = level; variables = variables; text = SetText a b } in
    let c = cell shape variables a in
    let e = value shape variables b in
    after_own shape n p [] (Set c e ∷ []) (target_of shape variables a b (code_counts n)) ((c, e), code_counts (with_one shape n p)) (λ q. Ok (Set q.0.0 q.0.1 ∷ [], q.1))
    ((target_reads shape variables a b n w).is) (λ v. refl)

-- `add` and `fold`
meets_fold : (shape : Arrays) (p : Placed) (a b : Data) (op : Operation)
    → own_faults shape p ≡ cell_faults shape p.variables a ++ expression_faults shape p.variables b
    → tally_at shape p ≡ with_value (value shape p.variables b)
    → Meets shape (fold_in shape p.variables a b op) (p ∷ []) (Fold op (cell shape p.variables a) (value shape p.variables b) ∷ [])
meets_fold shape p a b op own counts n w =
    let c = cell shape p.variables a in
    let e = value shape p.variables b in
    after_own shape n p [] (Fold op c e ∷ []) (target_of shape p.variables a b (code_counts n)) ((c, e), code_counts (with_one shape n p))
    (λ q. Ok (Fold op q.0.0 q.0.1 ∷ [], q.1))
    (rw (own, counts) (target_reads shape p.variables a b n w).is) (λ v. refl)

-- the two forms of `group`
meets_group : (shape : Arrays) (p : Placed) (a b : Data) (inner : Reader) (qs : List Placed) (ss : List S) (op : Operation)
    → own_faults shape p ≡ (list_faults (section_faults shape p.variables) a ++ no_list b) ++ faults_nested p.level
    → tally_at shape p ≡ tally 1 0 0 0 (cells_in (map (section shape p.variables) (items a)))
    → Meets shape inner qs ss
    → Meets shape (group_in shape p.variables p.level a b inner op) (p ∷ (qs ++ []))
    (Group op (flat_map cells_of (map (section shape p.variables) (items a))) (body_of ss) ∷ [])
meets_group shape p a b inner qs ss op own counts h =
    meets_body shape p (flat_map cells_of (map (section shape p.variables) (items a))) (Group op) (grouped_of shape p.variables p.level a b) inner qs ss
    (λ m v. rw (own, counts) (grouped_reads shape p.variables p.level a b m v).is) h

-- without an operation there is no form
meets_by : (shape : Arrays) (p : Placed) (qs : List Placed) (o : Option Operation) (fs : List Refusal) (reader : Operation → Reader) (ss : Operation → List S)
    → own_faults shape p ≡ unless (is_some o) Form ++ fs
    → ((op : Operation) → own_faults shape p ≡ fs → Meets shape (reader op) (p ∷ qs) (ss op))
    → Meets shape (by_operation o reader) (p ∷ qs) (ss (unwrap_or o Plus))
meets_by shape p qs None fs reader ss is h n w = rw (is, form-earlier (first_of (fs ++ past_limits shape.tasks (with_one shape n p)))) refl
meets_by shape p qs (Some op) fs reader ss is h n w = h op is n w

first-turned : (xs ns ps ms : List Refusal) → first_of (xs ++ (ns ++ (ps ++ ms))) ≡ first_of ((xs ++ (ns ++ ms)) ++ ps)
first-turned xs ns ps ms =
    rw (
      append_assoc xs (ns ++ ms) ps,
      append_assoc ns ms ps,
      first-append xs (ns ++ (ps ++ ms)),
      first-append xs (ns ++ (ms ++ ps)),
      first-append ns (ps ++ ms),
      first-append ns (ms ++ ps),
      first-swap ps ms,
    ) refl

mutual
  unfolding body_in copies

  pub walked_body : (shape : Arrays) (profile : Profile) (level : ℕ) (d : Data) (variables : Bindings)
      → Meets shape (body_in shape profile level d variables) (in_order (copies profile level d variables)) (statements_of shape (copies profile level d variables))
  walked_body shape profile level (array ds) variables n w = walked_all shape profile level ds variables n w
  walked_body shape profile level _ variables n w = meets_no_form shape level variables n w

  walked_all : (shape : Arrays) (profile : Profile) (level : ℕ) (ds : Items) (variables : Bindings)
      → Meets shape (all_in shape profile level ds variables) (in_order (copies_of profile level ds variables)) (statements_of shape (copies_of profile level ds variables))
  walked_all shape profile level no_items variables n w = refl
  walked_all shape profile level (item d ds) variables n w =
      meets_then shape (one_in shape profile level d variables) (all_in shape profile level ds variables) (in_copy (copy profile level d variables))
      (in_order (copies_of profile level ds variables)) (statement_of shape (copy profile level d variables)) (statements_of shape (copies_of profile level ds variables))
      (walked_one shape profile level d variables) (walked_all shape profile level ds variables) n w

  walked_one : (shape : Arrays) (profile : Profile) (level : ℕ) (d : Data) (variables : Bindings) → MeetsCopy shape (one_in shape profile level d variables) (copy profile level d variables)
  walked_one shape profile level (array (item t no_items)) variables n w =
      meets_test shape (is_word t (codes "wait")) wait_in (reader_refused Form) (at level variables WaitText Done Done) (at level variables NoForm Done Done)
      (meets_wait shape level variables) (meets_no_form shape level variables) n w
  walked_one shape profile level (array (item t (item a no_items))) variables n w =
      meets_test shape (is_two profile && is_word t (codes "wait")) (wait_for_in shape variables a) (reader_refused Form)
      (at level variables (WaitForText a) Done Done) (at level variables NoForm Done Done)
      (meets_wait_for shape level variables a) (meets_no_form shape level variables) n w
  walked_one shape profile level (array (item t (item a (item b no_items)))) variables n w =
      let none = at level variables NoForm Done Done in
      let inner = body_in shape profile (level + 1) b variables in
      let cs = copies profile (level + 1) b variables in
      let add = at level variables (AddText a b) Done Done in
      let task = at level variables (TaskText profile a b) cs Done in
      let group = at level variables (GroupText a b) cs Done in
      let adding = fold_in shape variables a b Plus in
      let tasking = with_body Task (declared_of shape profile variables level a b) inner in
      let grouping = group_in shape variables level a b inner Plus in
      let clauses = map (clause shape profile variables) (items a) in
      let pa : Placed = record { level = level; variables = variables; text = AddText a b } in
      let pt : Placed = record { level = level; variables = variables; text = TaskText profile a b } in
      let pg : Placed = record { level = level; variables = variables; text = GroupText a b } in
      let is_group = is_one profile && is_word t (codes "group") in
      let groups = cond is_group grouping (reader_refused Form) in
      let group_copy = cond is_group group none in
      let tasks = cond (is_word t (codes "task")) tasking groups in
      let task_copy = cond (is_word t (codes "task")) task group_copy in
      meets_test shape (is_word t (codes "set")) (set_in shape variables a b) (cond (is_word t (codes "add")) adding tasks)
      (at level variables (SetText a b) Done Done) (cond (is_word t (codes "add")) add task_copy)
      (meets_set shape level variables a b)
      (meets_test shape (is_word t (codes "add")) adding tasks add task_copy
      (meets_fold shape pa a b Plus refl refl)
      (meets_test shape (is_word t (codes "task")) tasking groups task group_copy
      (meets_body shape pt (uses clauses) Task (declared_of shape profile variables level a b) inner (in_order cs) (statements_of shape cs)
      (λ m v. (declared_reads shape profile variables level a b m v).is
      ∙ ap (told_or (uses clauses, code_counts (with_one shape m pt)))
      (first-turned (list_faults (clause_faults shape profile variables) a ++ no_list b) (faults_nested level) (past_limits shape.tasks (with_one shape m pt)) (faults_mixed clauses)))
      (walked_body shape profile (level + 1) b variables))
      (meets_test shape is_group grouping (reader_refused Form) group none
      (meets_group shape pg a b inner (in_order cs) (statements_of shape cs) Plus refl refl (walked_body shape profile (level + 1) b variables))
      (meets_no_form shape level variables)))) n w
  walked_one shape profile level (array (item t (item a (item b (item c no_items))))) variables n w =
      let none = at level variables NoForm Done Done in
      let own = condition_of shape variables level a b c in
      let one = copies profile (level + 1) b variables in
      let two = copies profile (level + 1) c variables in
      let inner = body_in shape profile (level + 1) c variables in
      let fold = at level variables (FoldText a b c) Done Done in
      let group = at level variables (GroupByText a b c) two Done in
      let folding = by_operation (fold_of a) (fold_in shape variables b c) in
      let grouping = by_operation (fold_of a) (group_in shape variables level b c inner) in
      let pf : Placed = record { level = level; variables = variables; text = FoldText a b c } in
      let pg : Placed = record { level = level; variables = variables; text = GroupByText a b c } in
      let p : Placed = record { level = level; variables = variables; text = IfText a b c } in
      let sections = list_faults (section_faults shape variables) b ++ no_list c in
      let cells = flat_map cells_of (map (section shape variables) (items b)) in
      let is_fold = is_two profile && is_word t (codes "fold") in
      let is_group = is_two profile && is_word t (codes "group") in
      let ifs = cond (is_word t (codes "if")) (if_in own (body_in shape profile (level + 1) b variables) inner) (reader_refused Form) in
      let if_copy = cond (is_word t (codes "if")) (at level variables (IfText a b c) one two) none in
      meets_test shape is_fold folding (cond is_group grouping ifs) fold (cond is_group group if_copy)
      (meets_by shape pf [] (fold_of a) (cell_faults shape variables b ++ expression_faults shape variables c) (fold_in shape variables b c)
      (λ op. Fold op (cell shape variables b) (value shape variables c) ∷ []) refl
      (λ op is. meets_fold shape pf b c op is refl))
      (meets_test shape is_group grouping ifs group if_copy
      (meets_by shape pg (in_order two ++ []) (fold_of a) (sections ++ faults_nested level) (group_in shape variables level b c inner)
      (λ op. Group op cells (body_of (statements_of shape two)) ∷ []) refl
      (λ op is. meets_group shape pg b c inner (in_order two) (statements_of shape two) op is refl (walked_body shape profile (level + 1) c variables)))
      (meets_test shape (is_word t (codes "if")) (if_in own (body_in shape profile (level + 1) b variables) inner) (reader_refused Form)
      (at level variables (IfText a b c) one two) none
      (meets_if shape p (value shape variables a) own (body_in shape profile (level + 1) b variables) inner
      (in_order one) (in_order two) (statements_of shape one) (statements_of shape two)
      (λ m v. (condition_reads shape variables level a b c m v).is)
      (walked_body shape profile (level + 1) b variables) (walked_body shape profile (level + 1) c variables))
      (meets_no_form shape level variables))) n w
  walked_one shape profile level (array (item t (item a (item b (item c (item d no_items)))))) variables n w =
      meets_test shape (is_word t (codes "for")) (for_in variables (range_of variables level a b c d) (body_in shape profile (level + 1) d)) (reader_refused Form)
      (at level variables (ForText a b c d)
      (turns level variables (λ k. copies profile (level + 1) d ((letters a, k) ∷ variables)) (size variables b) (size variables c - size variables b)) Done)
      (at level variables NoForm Done Done)
      (meets_for shape profile level variables a b c d (λ inner. walked_body shape profile (level + 1) d inner))
      (meets_no_form shape level variables) n w
  walked_one shape profile level _ variables n w = meets_no_form shape level variables n w
