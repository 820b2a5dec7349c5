-- What words say, apart from memory.
use Rattle.std.specs.Prelude.{ℕ, List, map, Option, Some, None}
use Rattle.ot_c_words.specs.declared.word.IntegerType.{IntegerType}
use Rattle.ot_c_words.specs.declared.word.Name.{Name}
use Rattle.ot_c_expressions.specs.declared.sign.Sign.{Sign}
use Rattle.ot_c_expressions.specs.declared.sign.Unary.{Unary}
use Rattle.ot_c_expressions.specs.declared.tree.Call.{Call}
use Rattle.ot_c_expressions.specs.declared.tree.Expr.{Expr}
use Rattle.ot_c_expressions.specs.declared.tree.Expr.TheVariants as v
use Rattle.ot_c_expressions.specs.declared.tree.Clause.{Clause}
use Rattle.ot_c_expressions.specs.declared.tree.Item.{Item}
use Rattle.ot_c_expressions.specs.declared.tree.Place.{Place}
use Rattle.ot_c_expressions.specs.declared.tree.Place.TheVariants as p
use Rattle.ot_c_expressions.specs.declared.tree.Range.{Range}
use Rattle.ot_c_expressions.specs.declared.tree.Role.{Role}

-- a value, of which each part but a cast has the number of words that are left where its own word stands
pub data E : Type 0 where
  Literal : ℕ → ℕ → IntegerType → E
  Variable : ℕ → Name → E
  CellAt : ℕ → Name → E → E
  Unsigned : E → E
  Signed : ℕ → Unary → E → E
  Called : ℕ → Call → E → E → E
  Apply : ℕ → Sign → E → E → E
  Choose : ℕ → E → E → E → E

abbrev pub expr_of : Expr → E
expr_of (v.Number l n t) = Literal l n t
expr_of (v.Variable l x) = Variable l x
expr_of (v.Cell' l a p i) = CellAt l a (expr_of i)
expr_of (v.Cast' p e) = Unsigned (expr_of e)
expr_of (v.Unary' l u p e) = Signed l u (expr_of e)
expr_of (v.Call' l c p a q b) = Called l c (expr_of a) (expr_of b)
expr_of (v.Op' l o p a q b) = Apply l o (expr_of a) (expr_of b)
expr_of (v.Choice' l p t q a r b) = Choose l (expr_of t) (expr_of a) (expr_of b)

-- how many words are left where a value begins, its brackets and casts apart
unfoldable pub left_of : E → ℕ
left_of (Literal l n t) = l
left_of (Variable l x) = l
left_of (CellAt l a i) = l
left_of (Unsigned e) = left_of e
left_of (Signed l sign e) = l
left_of (Called l c a b) = l
left_of (Apply l sign a b) = left_of a
left_of (Choose l t a b) = left_of t

-- ---- clauses

-- what of an array: all of it, or cells in a row, from one on, so many
pub data Part : Type 0 where
  Whole : Part
  Cells : E → E → Part

abbrev pub part_of : Place → Part
part_of p.Whole = Whole
part_of (p.Cells a n) = Cells (expr_of a) (expr_of n)

-- an item, with the number of words that are left where its name stands
pub record Entry : Type 0 where
  pub left : ℕ
  pub array : Name
  pub part : Part

abbrev pub item_of : Item → Entry
item_of i = record { left = i.left; array = i.array; part = part_of i.place }

abbrev pub items_of : List Item → List Entry
items_of is = map item_of is

-- what an iterator goes over: from the first to before the end
pub record Span : Type 0 where
  pub variable : Name
  pub start : E
  pub end : E

abbrev pub range_of : Range → Span
range_of r = record { variable = r.variable; start = expr_of r.start; end = expr_of r.end }

abbrev pub over_of : Option Range → Option Span
over_of None = None
over_of (Some r) = Some (range_of r)

-- what a task, a wait or a group says of items, with the number of words that are left where that begins
pub record Claim : Type 0 where
  pub left : ℕ
  pub role : Role
  pub over : Option Span
  pub items : List Entry

abbrev pub clause_of : Clause → Claim
clause_of c = record { left = c.left; role = c.role; over = over_of c.over; items = items_of c.items.items }

abbrev pub clauses_of : List Clause → List Claim
clauses_of cs = map clause_of cs
