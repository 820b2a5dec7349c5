-- Pointers of statements one after another: a loop by its index.
use Rattle.std.proofs.Common.{◌≡◌, ℕ, ◌+◌, ◌<◌, ◌≤◌, List, length, drop, get_or, Result, Ok, Err, refl, sym, ap, ◌∙◌}
use Rattle.std.proofs.lemmas.List.{drop_all}
use Rattle.ot_c_statements.specs.declared.tree.Stmt.{Stmt}
use Rattle.ot_c_statements.specs.Tree.{S, Body, End, Next, stmt_of, list_of, body_of}
use Rattle.ot_c_scope.specs.declared.fault.CFault.{CFault}
use Rattle.ot_c_scope.specs.declared.fault.CFault.TheVariants as errors
use Rattle.ot_c_scope.specs.Results.{Refusal, FailsAs}
use Rattle.ot_c_arrays.specs.Arrays.{D}
use Rattle.ot_c_arrays.specs.Pointers.{Names, pointers_in, pointers_from}
use Rattle.ot_c_arrays.proofs.EachLemmas.{front}

module _ (names : Names) where
  one_more : (d e : D) (s : S) (b : Body) → pointers_in names d s ≡ Ok e → pointers_from names d (Next s b) ≡ pointers_from names e b
  unfolding pointers_from
  one_more d e s b is = rw is refl

  one_fails : (d : D) (s : S) (b : Body) (e : Refusal) → pointers_in names d s ≡ Err e → pointers_from names d (Next s b) ≡ Err e
  unfolding pointers_from
  one_fails d s b e is = rw is refl

  none_left : (d : D) → pointers_from names d End ≡ Ok d
  unfolding pointers_from
  none_left d = refl

  viewed : (ss : List Stmt) (i : ℕ) (x : Stmt) → i < length ss → x ≡ get_or ss i x → body_of (list_of (drop i ss)) ≡ Next (stmt_of x) (body_of (list_of (drop (i + 1) ss)))
  viewed ss i x h is = ap (λ xs. body_of (list_of xs)) (front ss i x h is)

  pub pointers_more : (ss : List Stmt) (i : ℕ) (x : Stmt) (d e : D) (whole : Result D Refusal) → i < length ss → x ≡ get_or ss i x → pointers_from names d (body_of (list_of (drop i ss))) ≡ whole → pointers_in names d (stmt_of x) ≡ Ok e → pointers_from names e (body_of (list_of (drop (i + 1) ss))) ≡ whole
  pointers_more ss i x d e whole h at is done = sym (one_more d e (stmt_of x) (body_of (list_of (drop (i + 1) ss))) done) ∙ sym (ap (pointers_from names d) (viewed ss i x h at)) ∙ is

  pub pointers_fails : (ss : List Stmt) (i : ℕ) (x : Stmt) (d : D) (whole : Result D Refusal) (e : CFault) → i < length ss → x ≡ get_or ss i x → pointers_from names d (body_of (list_of (drop i ss))) ≡ whole → FailsAs e (pointers_in names d (stmt_of x)) → FailsAs e whole
  pointers_fails ss i x d whole errors.Memory h at is fails = tt
  pointers_fails ss i x d whole (errors.Outside left why) h at is fails = sym is ∙ ap (pointers_from names d) (viewed ss i x h at) ∙ one_fails d (stmt_of x) (body_of (list_of (drop (i + 1) ss))) (left, why) fails

  pub pointers_last : (ss : List Stmt) (i : ℕ) (d : D) (whole : Result D Refusal) → length ss ≤ i → pointers_from names d (body_of (list_of (drop i ss))) ≡ whole → whole ≡ Ok d
  pointers_last ss i d whole past is = sym is ∙ ap (λ xs. pointers_from names d (body_of (list_of xs))) (drop_all i ss past) ∙ none_left d
