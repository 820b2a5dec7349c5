-- Whether each cell that a program names is in a shape, told by the lengths of its arrays.
use Rattle.std.specs.Prelude.{◌≡◌, ℕ, ◌+◌, ◌<◌, ◌≤◌, ◌^◌, List, Some, slice_get, All, None}
use Rattle.ot_model.specs.Tree.{E, Literal, CellAt, Apply, PickFrom, S, Set, Fold, If, Task, Wait, Group, Body, End, Next}
use Rattle.ot_model.specs.declared.expr.Cell.{Cell}
use Rattle.ot_model.specs.declared.expr.Section.{Section}
use Rattle.ot_model.specs.declared.stmt.Use.{Use}

-- the cell's array is there, and longer than the cell's index
pub record IsInShape (lens : List ℕ) (c : Cell) : Type 0 where
  pub len : ℕ
  pub array : slice_get lens c.array ≡ Some len
  pub within : c.index < len

-- the section's array is there, and as long as the section asks
pub record FitsShape (lens : List ℕ) (s : Section) : Type 0 where
  pub len : ℕ
  pub array : slice_get lens s.array ≡ Some len
  pub within : s.start + s.len ≤ len
  pub short : s.start + s.len ≤ 2 ^ 32
  pub some : 0 < s.len

-- each of these cells is in the shape
abbrev pub AreInShape : List ℕ → List Cell → Type 0
AreInShape lens cells = All (IsInShape lens) cells

-- each declared cell is
abbrev pub AreDeclaredIn : List ℕ → List Use → Type 0
AreDeclaredIn lens uses = All (λ u. IsInShape lens u.cell) uses

abbrev pub ValueNamedIn : List ℕ → E → Type 0
ValueNamedIn lens (Literal n) = Unit {0}
ValueNamedIn lens (CellAt c) = IsInShape lens c
ValueNamedIn lens (Apply o a b) = ValueNamedIn lens a × ValueNamedIn lens b
ValueNamedIn lens (PickFrom s e) = FitsShape lens s × ValueNamedIn lens e

abbrev mutual
  pub OneNamedIn : List ℕ → S → Type 0
  OneNamedIn lens (Set c e) = IsInShape lens c × ValueNamedIn lens e
  OneNamedIn lens (Fold o c e) = IsInShape lens c × ValueNamedIn lens e
  OneNamedIn lens (If e a b) = ValueNamedIn lens e × NamedIn lens a × NamedIn lens b
  OneNamedIn lens (Task d b) = AreDeclaredIn lens d × NamedIn lens b
  OneNamedIn lens (Wait None) = Unit {0}
  OneNamedIn lens (Wait (Some d)) = AreDeclaredIn lens d
  OneNamedIn lens (Group o cs b) = AreInShape lens cs × NamedIn lens b

  pub NamedIn : List ℕ → Body → Type 0
  NamedIn lens End = Unit {0}
  NamedIn lens (Next x rest) = OneNamedIn lens x × NamedIn lens rest
