-- Steps of the walk.
use Rattle.std.specs.Prelude.{Option}
use Rattle.std.specs.declared.alloc.AllocError.{AllocError}
use Rattle.std.proofs.Common.{◌≡◌, ◌<◌, ◌≤◌, ℕ, ◌+◌, List, Vec, Global, drop, length, get_or, sym, ap, subst, ◌∙◌, IfOk, OnOk, Ok, Err, Result, rules}
use Rattle.ot_model.specs.Tree.{S, Set, Fold, If, Task, Wait, Group, End, Next}
use Rattle.ot_model.specs.View.{expr_of, stmt_of, stmts_of}
use Rattle.ot_model.specs.declared.expr.Cell.{Cell}
use Rattle.ot_model.specs.declared.expr.Expr.{Expr}
use Rattle.ot_model.specs.declared.fold.Fold.{Fold as Operation}
use Rattle.ot_model.specs.declared.stmt.Stmt as stmt
use Rattle.ot_model.specs.declared.stmt.Stmt.{Stmt, the_lemmas}
use Rattle.ot_model.specs.declared.stmt.Use.{Use}
use Rattle.ot_check.specs.Discipline.{behind_one, through_one}
use Rattle.ot_check.specs.walk.Walk.{first_within}
use Rattle.ot_check.specs.walk.States.{Leads, Whatever}
use Rattle.ot_check.specs.declared.walk.Walked.{Walked}
use Rattle.ot_check.specs.declared.standing.Standing.{Standing}
use Rattle.std.proofs.lemmas.List.{at_drop_more, drop_all}

-- ---- what a statement of the code stands for

pub stmt_of-Set : (x : Stmt) (cell : Cell) (e : Expr) → x ≡ stmt.Set cell e → stmt_of x ≡ Set cell (expr_of e)
stmt_of-Set x cell e is = ap stmt_of is ∙ search (rules, the_lemmas)

pub stmt_of-Fold : (x : Stmt) (op : Operation) (cell : Cell) (e : Expr) → x ≡ stmt.Fold op cell e → stmt_of x ≡ Fold op cell (expr_of e)
stmt_of-Fold x op cell e is = ap stmt_of is ∙ search (rules, the_lemmas)

pub stmt_of-If : (x : Stmt) (e : Expr) (a b : Vec Stmt Global) → x ≡ stmt.If e a b → stmt_of x ≡ If (expr_of e) (stmts_of a.items) (stmts_of b.items)
stmt_of-If x e a b is = ap stmt_of is ∙ search (rules, the_lemmas)

pub stmt_of-Task : (x : Stmt) (uses : List Use) (b : Vec Stmt Global) → x ≡ stmt.Task uses b → stmt_of x ≡ Task uses (stmts_of b.items)
stmt_of-Task x uses b is = ap stmt_of is ∙ search (rules, the_lemmas)

pub stmt_of-Wait : (x : Stmt) (w : Option (List Use)) → x ≡ stmt.Wait w → stmt_of x ≡ Wait w
stmt_of-Wait x w is = ap stmt_of is ∙ search (rules, the_lemmas)

pub stmt_of-Group : (x : Stmt) (op : Operation) (cells : Vec Cell Global) (b : Vec Stmt Global) → x ≡ stmt.Group op cells b
    → stmt_of x ≡ Group op cells.items (stmts_of b.items)
stmt_of-Group x op cells b is = ap stmt_of is ∙ search (rules, the_lemmas)

-- ---- the rest of a body

pub rest_is : (items whole : List Stmt) (i : ℕ) (x : Stmt) → items ≡ whole → i < length items → x ≡ get_or items i x
    → stmts_of (drop i whole) ≡ Next (stmt_of x) (stmts_of (drop (i + 1) whole))
rest_is items whole i x same l is =
    ap (λ items. stmts_of (drop i items)) (sym same) ∙ at_drop_more stmts_of items i x l
    ∙ ap (λ y. Next (stmt_of y) (stmts_of (drop (i + 1) items))) (sym is) ∙ ap (λ items. Next (stmt_of x) (stmts_of (drop (i + 1) items))) same

pub rest_none : (items whole : List Stmt) (i : ℕ) → items ≡ whole → length items ≤ i → stmts_of (drop i whole) ≡ End
rest_none items whole i same l = ap (λ items. stmts_of (drop i items)) (sym same) ∙ ap stmts_of (drop_all i items l)

-- ---- what a call leaves where it is Ok

pub if_ok : {A E : Type 0} (r : Result A E) (P Q : A → Type 0) → ((x : A) → P x → Q x) → IfOk r P → IfOk r Q
if_ok (Ok x) P Q f h = f x h
if_ok (Err e) P Q f h = h

pub on_ok : {A E : Type 0} (r : Result A E) (P Q : Type 0) → (P → Q) → OnOk r P → OnOk r Q
on_ok (Ok x) P Q f h = f h
on_ok (Err e) P Q f h = h

-- a statement's own change of the children
pub leads-as : (r : Result Walked AllocError) (old new : Standing) (x y : S) → x ≡ y
    → IfOk r (λ _. Leads old new (λ children. behind_one children y) (λ d. through_one d y))
    → IfOk r (λ _. Leads old new (λ children. behind_one children x) (λ d. through_one d x))
leads-as r old new x y same h = subst (λ z. IfOk r (λ _. Leads old new (λ children. behind_one children z) (λ d. through_one d z))) (sym same) h

-- what is told within a statement
pub within-as : (r : Result Walked AllocError) (old : Standing) (place : ℕ) (x y : S) → x ≡ y
    → IfOk r (λ w. Whatever old (λ own opened children. w.first ≡ first_within own opened children place y))
    → IfOk r (λ w. Whatever old (λ own opened children. w.first ≡ first_within own opened children place x))
within-as r old place x y same h = subst (λ z. IfOk r (λ w. Whatever old (λ own opened children. w.first ≡ first_within own opened children place z))) (sym same) h
