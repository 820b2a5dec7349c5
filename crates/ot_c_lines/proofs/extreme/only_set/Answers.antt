use Rattle.std.proofs.Common.{◌≡◌, ◌≤◌, List, [], ◌∷◌, length, None, refl, sym, arith}
use Rattle.ot_c_statements.specs.declared.tree.Stmt.{Stmt}
use Rattle.ot_c_statements.specs.Tree.{Body, list_of, body_of}
use Rattle.ot_c_lines.specs.Extremes as meant
use Rattle.ot_c_lines.proofs.extreme.only_set.Goals as goal

else_is_more : (b : Body) (ss : List Stmt) → 1 ≤ length ss → meant.only_set b (body_of (list_of ss)) ≡ None
else_is_more b [] some = absurd (omega arith)
else_is_more b (x ∷ ss) some = refl

pub returns-in_default : goal.returns-in_default
returns-in_default c = sym (else_is_more (body_of (list_of c.args.one.now)) c.args.two.now c.in_default.len_at_least)
