-- Steps of the code, and the steps that they stand for.
use Rattle.std.proofs.Common.{◌≡◌, ◌<◌, ◌+◌, ℕ, List, [], ◌∷◌, ◌++◌, map, drop, length, get_or, refl, sym, ap, ◌∙◌}
use Rattle.std.proofs.lemmas.List.{at_drop_more}
use Rattle.ot_model.specs.Tree as tree
use Rattle.ot_model.specs.Tree.{Next}
use Rattle.ot_model.specs.View.{stmt_of, stmts_of}
use Rattle.ot_model.specs.declared.stmt.Stmt.{Stmt}
use Rattle.ot_exec_outline.specs.Tree.{Steps, Done, Then, statement_of, body_of_steps}
use Rattle.ot_exec_outline.specs.View.{step_of, steps_in}
use Rattle.ot_exec_outline.specs.Appended.{append_steps}
use Rattle.ot_exec_outline.specs.declared.step.Step.{Step}

pub rest_is : (items whole : List Step) (i : ℕ) (x : Step) → items ≡ whole → i < length items → x ≡ get_or items i x
    → steps_in (drop i whole) ≡ Then (step_of x) (steps_in (drop (i + 1) whole))
rest_is items whole i x same l is =
    ap (λ items. steps_in (drop i items)) (sym same) ∙ at_drop_more steps_in items i x l
    ∙ ap (λ y. Then (step_of y) (steps_in (drop (i + 1) items))) (sym is) ∙ ap (λ items. Then (step_of x) (steps_in (drop (i + 1) items))) same

-- the body of steps is that of their statements
body_as : (xs : List Step) → body_of_steps (steps_in xs) ≡ tree.body_of (map (λ x. statement_of (step_of x)) xs)
body_as [] = refl
body_as (x ∷ xs) = ap (λ b. Next (statement_of (step_of x)) b) (body_as xs)

pub stmts_as : (ss : List Stmt) (xs : List Step) → map stmt_of ss ≡ map (λ x. statement_of (step_of x)) xs → stmts_of ss ≡ body_of_steps (steps_in xs)
stmts_as ss xs h = ap tree.body_of h ∙ sym (body_as xs)

-- ---- one step more

pub append_none : (xs : Steps) → append_steps xs Done ≡ xs
append_none Done = refl
append_none (Then x xs) = ap (Then x) (append_none xs)

-- steps of the code with one more, and the rest behind them
pub one_more : (xs : List Step) (x : Step) (rest : Steps) → append_steps (steps_in (xs ++ x ∷ [])) rest ≡ append_steps (steps_in xs) (Then (step_of x) rest)
one_more [] x rest = refl
one_more (y ∷ xs) x rest = ap (Then (step_of y)) (one_more xs x rest)
