-- What a body declares, by the mode in which its declaration has a cell.
use Rattle.std.proofs.Common.{◌≡◌, ◌&&◌, List, sym, ap, ◌∙◌}
use Rattle.std.specs.Prelude.{Bool, Option, Some}
use Rattle.std.specs.List.{list_any}
use Rattle.ot_model.specs.Cells.{same_cell, AreInOrder, mode_in}
use Rattle.ot_model.specs.declared.expr.Cell.{Cell}
use Rattle.ot_model.specs.declared.fold.Fold.{Fold as Operation}
use Rattle.ot_model.specs.declared.stmt.Mode.{Mode}
use Rattle.ot_model.specs.declared.stmt.Use.{Use}
use Rattle.ot_model.proofs.DeclaredLemmas.{by_mode, any-by_mode}
use Rattle.ot_check.specs.Offences.{Declared, covers, allows, folds_by, folds_to}

told-of : (test : Mode → Bool) (decl : List Use) (c : Cell) (o r : Option Mode) → AreInOrder decl → r ≡ mode_in decl c → r ≡ o
    → list_any (λ d. same_cell d.cell c && test d.mode) decl ≡ by_mode test o
told-of test decl c o r order found told = any-by_mode test decl c order ∙ ap (by_mode test) (sym found ∙ told)

pub allows-told : (own : Declared) (decl : List Use) (used : Use) (o r : Option Mode) → own ≡ Some decl → AreInOrder decl
    → r ≡ mode_in decl used.cell → r ≡ o → by_mode (λ m. covers m used.mode) o ≡ allows own used
allows-told own decl used o r is order found told =
    sym (ap (λ own. allows own used) is ∙ told-of (λ m. covers m used.mode) decl used.cell o r order found told)

pub folds-told : (own : Declared) (decl : List Use) (op : Operation) (c : Cell) (o r : Option Mode) → own ≡ Some decl → AreInOrder decl
    → r ≡ mode_in decl c → r ≡ o → by_mode (folds_by op) o ≡ folds_to own op c
folds-told own decl op c o r is order found told =
    sym (ap (λ own. folds_to own op c) is ∙ told-of (folds_by op) decl c o r order found told)
