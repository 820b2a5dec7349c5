-- Two groups that are open, one inside the other, both by one operation.
use Rattle.std.specs.Prelude.{◌≡◌, ℕ, true, List, [], ◌∷◌, All}
use Rattle.ot_model.specs.declared.expr.Cell.{Cell}
use Rattle.ot_model.specs.declared.fold.Fold.{Fold as Operation}
use Rattle.ot_model.specs.declared.stmt.Mode.TheVariants.{Folds}
use Rattle.ot_model.specs.declared.stmt.Use.{Use}
use Rattle.ot_owner.specs.Owning.{Summed, names}

-- a cell of the only array
abbrev pub nth : ℕ → Cell
nth i = record { array = 0; index = i }

-- the cell is the only one of these, to fold values into it by some operation
abbrev pub IsFoldOf : ℕ → List Use → Type 0
IsFoldOf i uses = (o : Operation) × (uses ≡ record { cell = nth i; mode = Folds o } ∷ [])

-- the group has this number and this operation, and names this cell and no other
pub record IsOver (n : ℕ) (o : Operation) (i : ℕ) (g : Summed) : Type 0 where
  pub number : g.group ≡ n
  pub op : g.op ≡ o
  pub named : names (nth i) g ≡ true
  pub only : All (λ u. u.cell ≡ nth i) g.uses

-- the outer one names the first cell, and the inner one the second
abbrev pub AreTwo : Operation → List Summed → Type 0
AreTwo o (outer ∷ inner ∷ []) = IsOver 1 o 0 outer × IsOver 2 o 1 inner
AreTwo o gs = ⊥
