-- Loops that are written out: their turns by number, and statements one after another.
use Rattle.std.proofs.Common.{◌≡◌, ℕ, suc, ◌+◌, ◌-◌, ◌<◌, ◌≤◌, Bool, true, false, ◌||◌, List, [], ◌∷◌, length, drop, get_or, Some, Result, Ok, Err, refl, sym, ap, ◌∙◌, arith}
use Rattle.std.specs.List.{range_with_len}
use Rattle.std.proofs.lemmas.List.{drop_all}
use Rattle.ot_program.specs.Meanings.{Bindings}
use Rattle.ot_c_statements.specs.declared.tree.Stmt.{Stmt}
use Rattle.ot_c_statements.specs.Tree.{S, For, Course, Body, End, Next, stmt_of, list_of, body_of}
use Rattle.ot_c_scope.specs.declared.fault.CFault.{CFault}
use Rattle.ot_c_scope.specs.declared.fault.CFault.TheVariants as errors
use Rattle.ot_c_scope.specs.Results.{Refusal, FailsAs}
use Rattle.ot_c_scope.specs.Scopes.{Around, text_of, with_turn}
use Rattle.ot_c_arrays.specs.Each.{each_or_refused}
use Rattle.ot_c_arrays.proofs.EachLemmas.{front}
use Rattle.ot_c_lines.specs.Lines.{L, Lowered, none}
use Rattle.ot_c_program.specs.Statements.{Origin, LoopRange, lines_behind, bounds, loop_turn}
use Rattle.ot_c_program.specs.Turns.{has_branch, has_branch_one, turn_step, turned_lines, turned_from, turns_of}

-- ---- whether an `if` stands in a body

branch_none_left : has_branch End ≡ false
unfolding has_branch
branch_none_left = refl

branch_next : (s : S) (b : Body) → has_branch (Next s b) ≡ (has_branch_one s || has_branch b)
unfolding has_branch
branch_next s b = refl

viewed : (ss : List Stmt) (i : ℕ) (x : Stmt) → i < length ss → x ≡ get_or ss i x → body_of (list_of (drop i ss)) ≡ Next (stmt_of x) (body_of (list_of (drop (i + 1) ss)))
viewed ss i x h is = ap (λ xs. body_of (list_of xs)) (front ss i x h is)

met : (ss : List Stmt) (i : ℕ) (x : Stmt) (b : Bool) → i < length ss → x ≡ get_or ss i x → b ≡ has_branch_one (stmt_of x)
    → has_branch (body_of (list_of (drop i ss))) ≡ (b || has_branch (body_of (list_of (drop (i + 1) ss))))
met ss i x b h at is =
    ap has_branch (viewed ss i x h at) ∙ branch_next (stmt_of x) (body_of (list_of (drop (i + 1) ss)))
    ∙ ap (λ c. c || has_branch (body_of (list_of (drop (i + 1) ss)))) (sym is)

pub branch_passed : (ss : List Stmt) (i : ℕ) (x : Stmt) (b : Bool) → i < length ss → x ≡ get_or ss i x → b ≡ has_branch_one (stmt_of x) → b ≡ false
    → has_branch (body_of (list_of (drop i ss))) ≡ has_branch (body_of (list_of ss)) → has_branch (body_of (list_of (drop (i + 1) ss))) ≡ has_branch (body_of (list_of ss))
branch_passed ss i x b h at is none so_far =
    ap (λ c. c || has_branch (body_of (list_of (drop (i + 1) ss)))) (sym none) ∙ sym (met ss i x b h at is) ∙ so_far

pub branch_found : (ss : List Stmt) (i : ℕ) (x : Stmt) (b : Bool) → i < length ss → x ≡ get_or ss i x → b ≡ has_branch_one (stmt_of x) → b ≡ true
    → has_branch (body_of (list_of (drop i ss))) ≡ has_branch (body_of (list_of ss)) → true ≡ has_branch (body_of (list_of ss))
branch_found ss i x b h at is some so_far =
    ap (λ c. c || has_branch (body_of (list_of (drop (i + 1) ss)))) (sym some) ∙ sym (met ss i x b h at is) ∙ so_far

pub branch_none : (ss : List Stmt) (i : ℕ) → length ss ≤ i → has_branch (body_of (list_of (drop i ss))) ≡ has_branch (body_of (list_of ss)) → false ≡ has_branch (body_of (list_of ss))
branch_none ss i past so_far = sym branch_none_left ∙ sym (ap (λ xs. has_branch (body_of (list_of xs))) (drop_all i ss past)) ∙ so_far

-- ---- turn by turn

turns_front : (k end : ℕ) → k < end → range_with_len k (end - k) ≡ k ∷ range_with_len (k + 1) (end - (k + 1))
turns_front k end below =
    let more : end - k ≡ suc (end - (k + 1)) = omega (arith, below) in
    ap (range_with_len k) more

module _ {A : Type 0} (step : A → ℕ → Result A Refusal) where
  one_more : (a b : A) (k : ℕ) (ks : List ℕ) → step a k ≡ Ok b → each_or_refused step a (k ∷ ks) ≡ each_or_refused step b ks
  unfolding each_or_refused
  one_more a b k ks is = rw is refl

  one_fails : (a : A) (k : ℕ) (ks : List ℕ) (e : Refusal) → step a k ≡ Err e → each_or_refused step a (k ∷ ks) ≡ Err e
  unfolding each_or_refused
  one_fails a k ks e is = rw is refl

  none_more : (a : A) → each_or_refused step a [] ≡ Ok a
  unfolding each_or_refused
  none_more a = refl

  pub turn_more : (k end : ℕ) (a b : A) (whole : Result A Refusal) → k < end → each_or_refused step a (range_with_len k (end - k)) ≡ whole → step a k ≡ Ok b
      → each_or_refused step b (range_with_len (k + 1) (end - (k + 1))) ≡ whole
  turn_more k end a b whole below is done = sym (one_more a b k _ done) ∙ sym (ap (each_or_refused step a) (turns_front k end below)) ∙ is

  pub turn_fails : (k end : ℕ) (a : A) (whole : Result A Refusal) (e : CFault) → k < end → each_or_refused step a (range_with_len k (end - k)) ≡ whole → FailsAs e (step a k) → FailsAs e whole
  turn_fails k end a whole errors.Memory below is fails = tt
  turn_fails k end a whole (errors.Outside left why) below is fails = sym is ∙ ap (each_or_refused step a) (turns_front k end below) ∙ one_fails a k _ (left, why) fails

  pub turn_last : (k end : ℕ) (a : A) (whole : Result A Refusal) → end ≤ k → each_or_refused step a (range_with_len k (end - k)) ≡ whole → whole ≡ Ok a
  turn_last k end a whole past is =
      let none : end - k ≡ 0 = omega (arith, past) in
      sym is ∙ ap (λ n. each_or_refused step a (range_with_len k n)) none ∙ none_more a

-- a loop whose first turn and end are known is its turns
pub for_turns : (o : Origin) (v : Bindings) (a around : Around) (s : S) (left : ℕ) (c : Course) (b : Body) (r : LoopRange) (range : ℕ × ℕ) (name : List ℕ)
    → s ≡ For left c b → around ≡ with_turn a (loop_turn c true) → name ≡ text_of a.names c.variable → bounds a c ≡ Ok r → turns_of (has_branch b) v r ≡ Some range
    → turned_lines o v a s ≡ each_or_refused (turn_step o.words left r (λ k. turned_from o ((name, k) ∷ v) around none b)) none (range_with_len range.0 (range.1 - range.0))
unfolding turned_lines
for_turns o v a around s left c b r range name is around_is name_is bounded known = rw (is, around_is, name_is, bounded, known) refl

-- ---- statements one after another

module _ (o : Origin) (v : Bindings) (a : Around) where
  stmt_more : (l m : L) (s : S) (b : Body) → lines_behind l (turned_lines o v a s) ≡ Ok m → turned_from o v a l (Next s b) ≡ turned_from o v a m b
  unfolding turned_from
  stmt_more l m s b is = rw is refl

  stmt_fails : (l : L) (s : S) (b : Body) (e : Refusal) → lines_behind l (turned_lines o v a s) ≡ Err e → turned_from o v a l (Next s b) ≡ Err e
  unfolding turned_from
  stmt_fails l s b e is = rw is refl

  none_left : (l : L) → turned_from o v a l End ≡ Ok l
  unfolding turned_from
  none_left l = refl

  pub body_more : (ss : List Stmt) (i : ℕ) (x : Stmt) (l m : L) (whole : Lowered) → i < length ss → x ≡ get_or ss i x → turned_from o v a l (body_of (list_of (drop i ss))) ≡ whole → lines_behind l (turned_lines o v a (stmt_of x)) ≡ Ok m → turned_from o v a m (body_of (list_of (drop (i + 1) ss))) ≡ whole
  body_more ss i x l m whole h at is done = sym (stmt_more l m (stmt_of x) (body_of (list_of (drop (i + 1) ss))) done) ∙ sym (ap (turned_from o v a l) (viewed ss i x h at)) ∙ is

  pub body_fails : (ss : List Stmt) (i : ℕ) (x : Stmt) (l : L) (whole : Lowered) (e : CFault) → i < length ss → x ≡ get_or ss i x → turned_from o v a l (body_of (list_of (drop i ss))) ≡ whole → FailsAs e (lines_behind l (turned_lines o v a (stmt_of x))) → FailsAs e whole
  body_fails ss i x l whole errors.Memory h at is fails = tt
  body_fails ss i x l whole (errors.Outside left why) h at is fails = sym is ∙ ap (turned_from o v a l) (viewed ss i x h at) ∙ stmt_fails l (stmt_of x) (body_of (list_of (drop (i + 1) ss))) (left, why) fails

  pub body_last : (ss : List Stmt) (i : ℕ) (l : L) (whole : Lowered) → length ss ≤ i → turned_from o v a l (body_of (list_of (drop i ss))) ≡ whole → whole ≡ Ok l
  body_last ss i l whole past is = sym is ∙ ap (λ xs. turned_from o v a l (body_of (list_of xs))) (drop_all i ss past) ∙ none_left l
