-- A body whose picks have indexes of 32 bits, as those of a program that was read.
use Rattle.ot_model.specs.Tree.{S, Set, Fold, If, Task, Wait, Group, Body, End, Next}
use Rattle.ot_parts.specs.Modes.{PicksFit}

abbrev mutual
  pub FitsOne : S → Type 0
  FitsOne (Set c e) = PicksFit e
  FitsOne (Fold o c e) = PicksFit e
  FitsOne (If e a b) = PicksFit e × Fits a × Fits b
  FitsOne (Task d b) = Fits b
  FitsOne (Wait w) = Unit {0}
  FitsOne (Group o cs b) = Fits b

  pub Fits : Body → Type 0
  Fits End = Unit {0}
  Fits (Next x rest) = FitsOne x × Fits rest
