use Rattle.std.proofs.Common.{◌≡◌, ◌≤◌, List, [], ◌∷◌, length, None, refl, sym, arith}
use Rattle.ot_c_statements.specs.declared.tree.Stmt.{Stmt}
use Rattle.ot_c_statements.specs.Tree.{list_of, body_of}
use Rattle.ot_c_lines.specs.Extremes as meant
use Rattle.ot_c_lines.proofs.extreme.only.Goals as goal

two_or_more : (ss : List Stmt) → 2 ≤ length ss → meant.only (body_of (list_of ss)) ≡ None
two_or_more [] many = absurd (omega arith)
two_or_more (x ∷ []) many = absurd (omega arith)
two_or_more (x ∷ y ∷ ss) many = refl

pub returns-in_default : goal.returns-in_default
returns-in_default c = sym (two_or_more c.args.stmts.now c.in_default.len_at_least)
