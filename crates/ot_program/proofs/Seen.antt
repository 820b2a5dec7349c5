-- What an array of the text stands for, and the code's statements with bodies.
use Rattle.std.proofs.Common.{◌≡◌, ◌∙◌, List, Vec, Global, sym, ap, rules}
use Rattle.serde_json.specs.Data.{array}
use Rattle.serde_json.specs.View.{view, items_view}
use Rattle.serde_json.specs.declared.value.Value.{Value, Array}
use Rattle.serde_json.proofs.Views.{view-Array}
use Rattle.ot_model.specs.Tree.{If, Task, Group}
use Rattle.ot_model.specs.View.{expr_of, stmt_of, stmts_of}
use Rattle.ot_model.specs.declared.expr.Cell.{Cell}
use Rattle.ot_model.specs.declared.expr.Expr.{Expr}
use Rattle.ot_model.specs.declared.fold.Fold.{Fold}
use Rattle.ot_model.specs.declared.stmt.Stmt as stmt
use Rattle.ot_model.specs.declared.stmt.Stmt.{Stmt, the_lemmas}
use Rattle.ot_model.specs.declared.stmt.Use.{Use}

pub array_seen : (v : Value) (w : Vec Value Global) (vs : List Value) → v ≡ Array w → vs ≡ w.items → view v ≡ array (items_view vs)
array_seen v w vs is items = ap view is ∙ view-Array w ∙ ap (λ (us : List Value). array (items_view us)) (sym items)

pub stmt_of-If : (e : Expr) (a b : Vec Stmt Global) → stmt_of (stmt.If e a b) ≡ If (expr_of e) (stmts_of a.items) (stmts_of b.items)
stmt_of-If e a b = search (rules, the_lemmas)

pub stmt_of-Task : (uses : List Use) (b : Vec Stmt Global) → stmt_of (stmt.Task uses b) ≡ Task uses (stmts_of b.items)
stmt_of-Task uses b = search (rules, the_lemmas)

pub stmt_of-Group : (op : Fold) (cells : Vec Cell Global) (b : Vec Stmt Global) → stmt_of (stmt.Group op cells b) ≡ Group op cells.items (stmts_of b.items)
stmt_of-Group op cells b = search (rules, the_lemmas)
