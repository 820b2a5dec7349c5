-- The values, statements and bodies that the code's trees stand for.
use Rattle.std.specs.Prelude.{List, map}
use Rattle.ot_model.specs.Tree.{E, Literal, CellAt, Apply, PickFrom, S, Set, Fold, If, Task, Wait, Group, Body, body_of}
use Rattle.ot_model.specs.declared.expr.Expr.{Expr}
use Rattle.ot_model.specs.declared.expr.Expr.TheVariants as v
use Rattle.ot_model.specs.declared.stmt.Stmt.{Stmt, fold-Stmt}
use Rattle.ot_model.specs.declared.stmt.Stmt.TheOpen.{Stmt-F}

abbrev pub expr_of : Expr → E
expr_of (v.Number n) = Literal n
expr_of (v.Cell c) = CellAt c
expr_of (v.Op' o p a q b) = Apply o (expr_of a) (expr_of b)
expr_of (v.Pick' s p e) = PickFrom s (expr_of e)

-- one statement, the statements inside already seen
abbrev pub stmt_step : Stmt-F S → S
stmt_step (Stmt-F.Set c e) = Set c (expr_of e)
stmt_step (Stmt-F.Fold o c e) = Fold o c (expr_of e)
stmt_step (Stmt-F.If e a b) = If (expr_of e) (body_of a.items) (body_of b.items)
stmt_step (Stmt-F.Task d b) = Task d (body_of b.items)
stmt_step (Stmt-F.Wait w) = Wait w
stmt_step (Stmt-F.Group o cs b) = Group o cs.items (body_of b.items)

abbrev pub stmt_of : Stmt → S
stmt_of = fold-Stmt S stmt_step

abbrev pub stmts_of : List Stmt → Body
stmts_of ss = body_of (map stmt_of ss)
