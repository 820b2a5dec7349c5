use Rattle.std.proofs.Common.{◌≡◌, List, take}
use Rattle.ot_model.specs.declared.stmt.Use.{Use}
use Rattle.ot_owner.specs.Owning.{folds_in}
use Rattle.ot_owner.proofs.slip.folding.Given as goal

abbrev pub invariant-loop-used : goal.invariant-loop-used
invariant-loop-used l = (named : List Use) → folds_in named l.folds.items ≡ folds_in named (take l.used-index l.uses)
