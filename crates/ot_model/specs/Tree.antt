-- What a program is, apart from memory: values, statements and bodies.
use Rattle.std.specs.Prelude.{ℕ, List, [], ◌∷◌, Option, ◌+◌, ◌-◌, ◌*◌, ◌%◌, ◌^◌, ◌<◌, ◌≤◌, ◌==◌, min, max, nat_lt, if◌then◌else◌, bit_and, bit_or, bit_xor, ◌++◌, map, IsSome, unwrap_or}
use Rattle.ot_model.specs.declared.expr.Cell.{Cell}
use Rattle.ot_model.specs.declared.expr.Section.{Section}
use Rattle.ot_model.specs.declared.expr.Op.{Op}
use Rattle.ot_model.specs.declared.fold.Fold.{Fold as Operation}
use Rattle.ot_model.specs.declared.stmt.Use.{Use}
use Rattle.std.specs.List.{range_with_len}
use Rattle.ot_model.specs.declared.expr.Op.TheVariants.{Plus, Minus, Times, And, Or, Xor, Less, Equal, Min, Max}

-- a value: a number, a cell's number, an operation on two values, or the cell of a section at a value
pub data E : Type 0 where
  Literal : ℕ → E
  CellAt : Cell → E
  Apply : Op → E → E → E
  PickFrom : Section → E → E

mutual
  -- a statement
  pub data S : Type 0 where
    Set : Cell → E → S
    Fold : Operation → Cell → E → S
    If : E → Body → Body → S
    Task : List Use → Body → S
    Wait : Option (List Use) → S
    Group : Operation → List Cell → Body → S

  -- statements in their order
  pub data Body : Type 0 where
    End : Body
    Next : S → Body → Body

abbrev pub body_of : List S → Body
body_of [] = End
body_of (s ∷ ss) = Next s (body_of ss)

-- one body, then the other
abbrev pub append : Body → Body → Body
append End b = b
append (Next s rest) b = Next s (append rest b)

-- How many statements and task statements a body has, those inside its statements among them.

abbrev mutual
  pub size_one : S → ℕ
  size_one (Set c e) = 1
  size_one (Fold o c e) = 1
  size_one (If e a b) = 1 + size a + size b
  size_one (Task d b) = 1 + size b
  size_one (Wait w) = 1
  size_one (Group o cs b) = 1 + size b

  pub size : Body → ℕ
  size End = 0
  size (Next s rest) = size_one s + size rest

abbrev mutual
  pub tasks_in_one : S → ℕ
  tasks_in_one (Set c e) = 0
  tasks_in_one (Fold o c e) = 0
  tasks_in_one (If e a b) = tasks_in a + tasks_in b
  tasks_in_one (Task d b) = 1 + tasks_in b
  tasks_in_one (Wait w) = 0
  tasks_in_one (Group o cs b) = tasks_in b

  pub tasks_in : Body → ℕ
  tasks_in End = 0
  tasks_in (Next s rest) = tasks_in_one s + tasks_in rest

-- The value of an expression.

-- addition, subtraction and multiplication are modulo 2^64, as in the base language
abbrev pub applied : Op → ℕ → ℕ → ℕ
applied Plus a b = (a + b) % 2 ^ 64
applied Minus a b = ((2 ^ 64 + a) - b) % 2 ^ 64
applied Times a b = (a * b) % 2 ^ 64
applied And a b = bit_and a b
applied Or a b = bit_or a b
applied Xor a b = bit_xor a b
applied Less a b = if nat_lt a b then 1 else 0
applied Equal a b = if a == b then 1 else 0
applied Min a b = min a b
applied Max a b = max a b

-- the cell of the section at k
abbrev pub cell_at : Section → ℕ → Cell
cell_at s k = record { array = s.array; index = s.start + k }

-- the cells of a section in their order
abbrev pub cells_of : Section → List Cell
cells_of s = map (cell_at s) (range_with_len 0 s.len)

-- the cells that a value names, of a pick every cell of its section
abbrev pub cells_named : E → List Cell
cells_named (Literal n) = []
cells_named (CellAt c) = c ∷ []
cells_named (Apply o a b) = cells_named a ++ cells_named b
cells_named (PickFrom s e) = cells_of s ++ cells_named e

-- the value where each cell has the number that is looked up
abbrev pub val : (Cell → Option ℕ) → E → ℕ
val look (Literal n) = n
val look (CellAt c) = unwrap_or (look c) 0
val look (Apply o a b) = applied o (val look a) (val look b)
val look (PickFrom s e) = unwrap_or (look (cell_at s (val look e % s.len))) 0

-- each cell that the expression names is there
abbrev pub HasAll : (Cell → Option ℕ) → E → Type 0
HasAll look (Literal n) = Unit {0}
HasAll look (CellAt c) = IsSome (look c)
HasAll look (Apply o a b) = HasAll look a × HasAll look b
HasAll look (PickFrom s e) =
    (0 < s.len) × (s.start + s.len ≤ 2 ^ 32) × ((k : ℕ) → k < s.len → IsSome (look (cell_at s k))) × HasAll look e
