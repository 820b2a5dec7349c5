-- What a piece holds of the cells that it touches.
use Rattle.std.specs.Prelude.{◌≡◌, ◌⊎◌, true, false}
use Rattle.ot_model.specs.declared.fold.Fold.{Fold as Operation}
use Rattle.ot_model.specs.declared.stmt.Mode.{Mode}
use Rattle.ot_model.specs.declared.stmt.Mode.TheVariants.{Reads, Writes, Folds}
use Rattle.ot_model.specs.declared.expr.Cell.{Cell}
use Rattle.ot_model.specs.declared.stmt.Use.{Use}
use Rattle.ot_check.specs.Offences.{use_as, Declared, folds_to}

-- a right that a piece with these touches may hold: as Folds where it folds by an operation that its body declares, as
-- Writes where it writes, or folds by one that its body doesn't declare, as Reads where it reads
abbrev pub IsRight : Declared → (Use → Type 0) → Use → Type 0
IsRight own Touched u = RightIn own Touched u.cell u.mode
  where
    RightIn : Declared → (Use → Type 0) → Cell → Mode → Type 0
    RightIn own Touched c Reads = Touched (use_as Reads c)
    RightIn own Touched c Writes = Touched (use_as Writes c) ⊎ ((o : Operation) × Touched (use_as (Folds o) c) × (folds_to own o c ≡ false))
    RightIn own Touched c (Folds o) = Touched (use_as (Folds o) c) × (folds_to own o c ≡ true)
