-- What statements say, apart from memory.
use Rattle.std.specs.Prelude.{ℕ, Bool, List, [], ◌∷◌, map, Option, Some, None}
use Rattle.ot_c_words.specs.declared.word.IntegerType.{IntegerType}
use Rattle.ot_c_words.specs.declared.word.Name.{Name}
use Rattle.ot_c_expressions.specs.declared.sign.Sign.{Sign}
use Rattle.ot_c_expressions.specs.declared.tree.Expr.{Expr}
use Rattle.ot_c_expressions.specs.Tree.{E, Claim, expr_of, clauses_of}
use Rattle.ot_c_statements.specs.declared.tree.Spot.{Spot}
use Rattle.ot_c_statements.specs.declared.tree.Target.{Target}
use Rattle.ot_c_statements.specs.declared.tree.Turns.{Turns}
use Rattle.ot_c_statements.specs.declared.tree.Stmt.{Stmt, fold-Stmt}
use Rattle.ot_c_statements.specs.declared.tree.Stmt.TheOpen.{Stmt-F}

abbrev pub exprs_of : List Expr → List E
exprs_of es = map expr_of es

abbrev pub index_of : Option Expr → Option E
index_of None = None
index_of (Some e) = Some (expr_of e)

-- what is assigned to: a cell of an array, or a variable, with the number of words that are left where its name stands
pub record Aim : Type 0 where
  pub left : ℕ
  pub array : Name
  pub index : Option E

abbrev pub aim_of : Target → Aim
aim_of t = record { left = t.left; array = t.array; index = index_of t.index }

-- a cell of an array that an address is taken of, with the number of words that are left where the array's name stands
pub record Site : Type 0 where
  pub left : ℕ
  pub array : Name
  pub index : E

abbrev pub site_of : Spot → Site
site_of c = record { left = c.left; array = c.array; index = expr_of c.index }

-- a loop's variable, from the start on, by one, to before the end or through it
pub record Course : Type 0 where
  pub left : ℕ
  pub variable : ℕ
  pub kind : IntegerType
  pub start : E
  pub end : E
  pub through : Bool

abbrev pub course_of : Turns → Course
course_of t = record { left = t.left; variable = t.variable; kind = t.kind; start = expr_of t.start; end = expr_of t.end; through = t.through }

mutual
  -- a statement, with the number of words that are left where it begins
  pub data S : Type 0 where
    Block : ℕ → Body → S
    Assign : ℕ → Aim → Option Sign → E → S
    If : ℕ → E → Body → Body → S
    For : ℕ → Course → Body → S
    Task : ℕ → List Claim → Body → S
    Wait : ℕ → List Claim → S
    Group : ℕ → List Claim → Body → S
    Yield : ℕ → S
    Call : ℕ → Name → List E → S
    Print : ℕ → List E → S
    Show : ℕ → Site → E → S
    Point : ℕ → Name → Site → S

  pub data Body : Type 0 where
    End : Body
    Next : S → Body → Body

abbrev pub body_of : List S → Body
body_of [] = End
body_of (s ∷ ss) = Next s (body_of ss)

abbrev pub stmt_step : Stmt-F S → S
stmt_step (Stmt-F.Block n b) = Block n (body_of b.items)
stmt_step (Stmt-F.Assign n t s e) = Assign n (aim_of t) s (expr_of e)
stmt_step (Stmt-F.If n e a b) = If n (expr_of e) (body_of a.items) (body_of b.items)
stmt_step (Stmt-F.For n t b) = For n (course_of t) (body_of b.items)
stmt_step (Stmt-F.Task n cs b) = Task n (clauses_of cs.items) (body_of b.items)
stmt_step (Stmt-F.Wait n cs) = Wait n (clauses_of cs.items)
stmt_step (Stmt-F.Group n cs b) = Group n (clauses_of cs.items) (body_of b.items)
stmt_step (Stmt-F.Yield n) = Yield n
stmt_step (Stmt-F.Call n f es) = Call n f (exprs_of es.items)
stmt_step (Stmt-F.Print n es) = Print n (exprs_of es.items)
stmt_step (Stmt-F.Show n c len) = Show n (site_of c) (expr_of len)
stmt_step (Stmt-F.Point n p c) = Point n p (site_of c)

abbrev pub stmt_of : Stmt → S
stmt_of = fold-Stmt S stmt_step

abbrev pub list_of : List Stmt → List S
list_of ss = map stmt_of ss
