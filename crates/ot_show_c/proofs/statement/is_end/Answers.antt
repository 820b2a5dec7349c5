use Rattle.std.proofs.Common.{◌≡◌, ◌==◌, List, [], ◌∷◌, length, refl, ◌∙◌, arith}
use Rattle.std.proofs.lemmas.Bool.Decides.{nat_tests}
use Rattle.ot_model.specs.View.{stmts_of}
use Rattle.ot_model.specs.declared.stmt.Stmt.{Stmt}
use Rattle.ot_show_c.specs.Statements.{is_end}
use Rattle.ot_show_c.proofs.statement.is_end.Goals as goal

by_length : (ss : List Stmt) → (length ss == 0) ≡ is_end (stmts_of ss)
by_length [] = refl
by_length (s ∷ ss) = grind (arith, nat_tests)

pub returns : goal.returns
returns c = c.is_empty.ensures ∙ by_length c.args.body.now
