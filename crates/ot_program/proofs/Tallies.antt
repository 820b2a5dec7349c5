-- Sums of what statements count, and what is told of statements by the sum before them.
use Rattle.std.proofs.Common.{◌≡◌, ℕ, ◌≤◌, Bool, true, false, List, [], ◌∷◌, ◌++◌, Option, Some, None, nat_le, refl, sym, ap, ◌∙◌, arith, add-zero, zero-add, add_assoc}
use Rattle.std.specs.Option.{option_or}
use Rattle.std.proofs.lemmas.Bool.{le-leb, leb-true}
use Rattle.ot_model.specs.Programs.{Arrays}
use Rattle.ot_program.specs.declared.fault.Refusal.{Refusal}
use Rattle.ot_program.specs.declared.fault.Refusal.TheVariants.{TooLarge, TooManyTasks}
use Rattle.ot_program.specs.Copies.{Placed}
use Rattle.ot_program.specs.Faults.{unless, own_faults, past_limits}
use Rattle.ot_program.specs.Limits.{max_statements, max_turns, max_nodes, max_cells, Tally, tally, plus, own_tally, total}
use Rattle.ot_program.specs.Programs.{fault_told}
use Rattle.ot_program.proofs.Firsts.{earlier, first_of, foremost_is}

-- ---- sums

abbrev pub nothing : Tally
nothing = tally 0 0 0 0 0

pub plus-nothing : (n : Tally) → plus n nothing ≡ n
plus-nothing n = rw (add-zero n.statements, add-zero n.tasks, add-zero n.turns, add-zero n.nodes, add-zero n.cells) refl

pub nothing-plus : (n : Tally) → plus nothing n ≡ n
nothing-plus n = rw (zero-add n.statements, zero-add n.tasks, zero-add n.turns, zero-add n.nodes, zero-add n.cells) refl

pub plus-assoc : (n m k : Tally) → plus (plus n m) k ≡ plus n (plus m k)
plus-assoc n m k =
    rw (
      add_assoc n.statements m.statements k.statements,
      add_assoc n.tasks m.tasks k.tasks,
      add_assoc n.turns m.turns k.turns,
      add_assoc n.nodes m.nodes k.nodes,
      add_assoc n.cells m.cells k.cells,
    ) refl

abbrev pub tally_at : Arrays → Placed → Tally
tally_at shape p = own_tally shape p.variables p.text

-- the sum with a statement
abbrev pub with_one : Arrays → Tally → Placed → Tally
with_one shape n p = plus n (tally_at shape p)

abbrev pub sum_from : Arrays → Tally → List Placed → Tally
sum_from shape n [] = n
sum_from shape n (p ∷ ps) = sum_from shape (with_one shape n p) ps

pub total-append : (shape : Arrays) (ps qs : List Placed) → total shape (ps ++ qs) ≡ plus (total shape ps) (total shape qs)
total-append shape [] qs = sym (nothing-plus (total shape qs))
total-append shape (p ∷ ps) qs =
    ap (plus (tally_at shape p)) (total-append shape ps qs) ∙ sym (plus-assoc (tally_at shape p) (total shape ps) (total shape qs))

total-one : (shape : Arrays) (before : List Placed) (p : Placed) → total shape (before ++ p ∷ []) ≡ with_one shape (total shape before) p
total-one shape before p = total-append shape before (p ∷ []) ∙ ap (plus (total shape before)) (plus-nothing (tally_at shape p))

pub sum_is : (shape : Arrays) (n : Tally) (ps : List Placed) → sum_from shape n ps ≡ plus n (total shape ps)
sum_is shape n [] = sym (plus-nothing n)
sum_is shape n (p ∷ ps) = sum_is shape (with_one shape n p) ps ∙ plus-assoc n (tally_at shape p) (total shape ps)

pub sum-append : (shape : Arrays) (n : Tally) (ps qs : List Placed) → sum_from shape n (ps ++ qs) ≡ sum_from shape (sum_from shape n ps) qs
sum-append shape n [] qs = refl
sum-append shape n (p ∷ ps) qs = sum-append shape (with_one shape n p) ps qs

-- ---- what is told

abbrev pub faults_at : Arrays → Tally → Placed → List Refusal
faults_at shape n p = own_faults shape p ++ past_limits shape.tasks (with_one shape n p)

abbrev pub told_from : Arrays → Tally → List Placed → Option Refusal
told_from shape n [] = None
told_from shape n (p ∷ ps) = option_or (first_of (faults_at shape n p)) (told_from shape (with_one shape n p) ps)

pub told-from : (shape : Arrays) (before ps : List Placed) → fault_told shape before ps ≡ told_from shape (total shape before) ps
told-from shape before [] = refl
told-from shape before (p ∷ ps) =
    rw (foremost_is (own_faults shape p ++ past_limits shape.tasks (total shape (before ++ p ∷ []))), told-from shape (before ++ p ∷ []) ps, total-one shape before p) refl

option_or-assoc : (o p q : Option Refusal) → option_or o (option_or p q) ≡ option_or (option_or o p) q
option_or-assoc None p q = refl
option_or-assoc (Some c) p q = refl

pub told-append : (shape : Arrays) (n : Tally) (ps qs : List Placed)
    → told_from shape n (ps ++ qs) ≡ option_or (told_from shape n ps) (told_from shape (sum_from shape n ps) qs)
told-append shape n [] qs = refl
told-append shape n (p ∷ ps) qs =
    ap (option_or (first_of (faults_at shape n p))) (told-append shape (with_one shape n p) ps qs)
    ∙ option_or-assoc (first_of (faults_at shape n p)) (told_from shape (with_one shape n p) ps)
    (told_from shape (sum_from shape (with_one shape n p) ps) qs)

-- ---- where nothing is told, there is no fault, and the sums are within their limits

earlier-some : (c : Refusal) (o : Option Refusal) → earlier c o ≡ None → ⊥
earlier-some c None is = absurd cc
earlier-some c (Some d) is = absurd cc

pub first-none : (fs : List Refusal) → first_of fs ≡ None → fs ≡ []
first-none [] is = refl
first-none (c ∷ fs) is = absurd (earlier-some c (first_of fs) is)

pub append-none : (fs gs : List Refusal) → fs ++ gs ≡ [] → (fs ≡ []) × (gs ≡ [])
append-none [] gs is = (refl, is)
append-none (c ∷ fs) gs is = absurd cc

pub unless-none : (b : Bool) (c : Refusal) → unless b c ≡ [] → b ≡ true
unless-none true c is = refl
unless-none false c is = absurd cc

pub option_or-none : (o p : Option Refusal) → option_or o p ≡ None → (o ≡ None) × (p ≡ None)
option_or-none None p is = (refl, is)
option_or-none (Some c) p is = absurd cc

-- no sum is past its limit
pub record AreWithin (limit : ℕ) (n : Tally) : Type 0 where
  pub statements : n.statements ≤ max_statements
  pub tasks : n.tasks ≤ limit
  pub turns : n.turns ≤ max_turns
  pub nodes : n.nodes ≤ max_nodes
  pub cells : n.cells ≤ max_cells

pub none_within : (limit : ℕ) → AreWithin limit nothing
none_within limit = record { statements = omega arith; tasks = omega arith; turns = omega arith; nodes = omega arith; cells = omega arith }

pub not_past : (limit : ℕ) (n : Tally) → AreWithin limit n → past_limits limit n ≡ []
not_past limit n w =
    rw (
      le-leb n.statements max_statements w.statements,
      le-leb n.turns max_turns w.turns,
      le-leb n.nodes max_nodes w.nodes,
      le-leb n.cells max_cells w.cells,
      le-leb n.tasks limit w.tasks,
    ) refl

pub within_by : (limit : ℕ) (n : Tally) → past_limits limit n ≡ [] → AreWithin limit n
within_by limit n is =
    let a = append-none (unless (nat_le n.statements max_statements) TooLarge) _ is in
    let b = append-none (unless (nat_le n.turns max_turns) TooLarge) _ a.1 in
    let c = append-none (unless (nat_le n.nodes max_nodes) TooLarge) _ b.1 in
    let d = append-none (unless (nat_le n.cells max_cells) TooLarge) _ c.1 in
    record {
      statements = leb-true n.statements max_statements (unless-none _ TooLarge a.0);
      tasks = leb-true n.tasks limit (unless-none _ TooManyTasks d.1);
      turns = leb-true n.turns max_turns (unless-none _ TooLarge b.0);
      nodes = leb-true n.nodes max_nodes (unless-none _ TooLarge c.0);
      cells = leb-true n.cells max_cells (unless-none _ TooLarge d.0);
    }

pub within_after : (shape : Arrays) (n : Tally) (p : Placed) → first_of (faults_at shape n p) ≡ None → AreWithin shape.tasks (with_one shape n p)
within_after shape n p is =
    within_by shape.tasks (with_one shape n p)
    (append-none (own_faults shape p) (past_limits shape.tasks (with_one shape n p)) (first-none (faults_at shape n p) is)).1

pub within_sum : (shape : Arrays) (n : Tally) (ps : List Placed) → AreWithin shape.tasks n → told_from shape n ps ≡ None
    → AreWithin shape.tasks (sum_from shape n ps)
within_sum shape n [] w is = w
within_sum shape n (p ∷ ps) w is =
    let both = option_or-none (first_of (faults_at shape n p)) (told_from shape (with_one shape n p) ps) is in
    within_sum shape (with_one shape n p) ps (within_after shape n p both.0) both.1

-- none of these statements has a fault of its own
abbrev pub AreClean : Arrays → List Placed → Type 0
AreClean shape [] = Unit {0}
AreClean shape (p ∷ ps) = (own_faults shape p ≡ []) × AreClean shape ps

pub clean_where : (shape : Arrays) (n : Tally) (ps : List Placed) → told_from shape n ps ≡ None → AreClean shape ps
clean_where shape n [] is = tt
clean_where shape n (p ∷ ps) is =
    let both = option_or-none (first_of (faults_at shape n p)) (told_from shape (with_one shape n p) ps) is in (
      (append-none (own_faults shape p) (past_limits shape.tasks (with_one shape n p)) (first-none (faults_at shape n p) both.0)).0,
      clean_where shape (with_one shape n p) ps both.1,
    )

pub clean-append : (shape : Arrays) (ps qs : List Placed) → AreClean shape (ps ++ qs) → AreClean shape ps × AreClean shape qs
clean-append shape [] qs h = (tt, h)
clean-append shape (p ∷ ps) qs h = let k = clean-append shape ps qs h.1 in ((h.0, k.0), k.1)
