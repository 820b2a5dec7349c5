-- Statements one after another: a loop by its index.
use Rattle.std.proofs.Common.{◌≡◌, ℕ, ◌+◌, ◌<◌, ◌≤◌, List, length, drop, get_or, Ok, Err, refl, sym, ap, ◌∙◌}
use Rattle.std.proofs.lemmas.List.{drop_all}
use Rattle.ot_c_statements.specs.declared.tree.Stmt.{Stmt}
use Rattle.ot_c_statements.specs.Tree.{S, Body, End, Next, stmt_of, list_of, body_of}
use Rattle.ot_c_scope.specs.declared.fault.CFault.{CFault}
use Rattle.ot_c_scope.specs.declared.fault.CFault.TheVariants as errors
use Rattle.ot_c_scope.specs.Results.{Refusal, FailsAs}
use Rattle.ot_c_scope.specs.Scopes.{Around}
use Rattle.ot_c_lines.specs.Lines.{L, Lowered}
use Rattle.ot_c_program.specs.Statements.{Origin, lines_behind, lowered_statement, body_from}
use Rattle.ot_c_arrays.proofs.EachLemmas.{front}

module _ (o : Origin) (a : Around) where
  one_more : (l m : L) (s : S) (b : Body) → lines_behind l (lowered_statement o a s) ≡ Ok m → body_from o a l (Next s b) ≡ body_from o a m b
  unfolding body_from
  one_more l m s b is = rw is refl

  one_fails : (l : L) (s : S) (b : Body) (e : Refusal) → lines_behind l (lowered_statement o a s) ≡ Err e → body_from o a l (Next s b) ≡ Err e
  unfolding body_from
  one_fails l s b e is = rw is refl

  none_left : (l : L) → body_from o a l End ≡ Ok l
  unfolding body_from
  none_left l = refl

  viewed : (ss : List Stmt) (i : ℕ) (x : Stmt) → i < length ss → x ≡ get_or ss i x → body_of (list_of (drop i ss)) ≡ Next (stmt_of x) (body_of (list_of (drop (i + 1) ss)))
  viewed ss i x h is = ap (λ xs. body_of (list_of xs)) (front ss i x h is)

  pub body_more : (ss : List Stmt) (i : ℕ) (x : Stmt) (l m : L) (whole : Lowered) → i < length ss → x ≡ get_or ss i x → body_from o a l (body_of (list_of (drop i ss))) ≡ whole → lines_behind l (lowered_statement o a (stmt_of x)) ≡ Ok m → body_from o a m (body_of (list_of (drop (i + 1) ss))) ≡ whole
  body_more ss i x l m whole h at is done = sym (one_more l m (stmt_of x) (body_of (list_of (drop (i + 1) ss))) done) ∙ sym (ap (body_from o a l) (viewed ss i x h at)) ∙ is

  pub body_fails : (ss : List Stmt) (i : ℕ) (x : Stmt) (l : L) (whole : Lowered) (e : CFault) → i < length ss → x ≡ get_or ss i x → body_from o a l (body_of (list_of (drop i ss))) ≡ whole → FailsAs e (lines_behind l (lowered_statement o a (stmt_of x))) → FailsAs e whole
  body_fails ss i x l whole errors.Memory h at is fails = tt
  body_fails ss i x l whole (errors.Outside left why) h at is fails = sym is ∙ ap (body_from o a l) (viewed ss i x h at) ∙ one_fails l (stmt_of x) (body_of (list_of (drop (i + 1) ss))) (left, why) fails

  pub body_last : (ss : List Stmt) (i : ℕ) (l : L) (whole : Lowered) → length ss ≤ i → body_from o a l (body_of (list_of (drop i ss))) ≡ whole → whole ≡ Ok l
  body_last ss i l whole past is = sym is ∙ ap (λ xs. body_from o a l (body_of (list_of xs))) (drop_all i ss past) ∙ none_left l
