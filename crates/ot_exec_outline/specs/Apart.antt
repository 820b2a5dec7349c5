-- Tasks that are executed at once (`if(0)`, `final`), by declarations and waits.
use Rattle.std.specs.Prelude.{◌≡◌, ◌++◌, Bool, true, false, List, [], ◌∷◌, Some}
use Rattle.std.specs.List.{list_any}
use Rattle.ot_model.specs.Cells.{same_cell, depends_on}
use Rattle.ot_model.specs.declared.expr.Cell.{Cell}
use Rattle.ot_model.specs.declared.stmt.Mode.TheVariants.{Reads, Writes}
use Rattle.ot_model.specs.declared.stmt.Use.{Use}
use Rattle.ot_check.specs.Offences.{use_as, awaits}

-- ---- tasks that are executed at once (OpenMP API 5.2, section 12.5)

-- whether a declaration names a cell
abbrev pub names : Cell → List Use → Bool
names c uses = list_any (λ u. same_cell u.cell c) uses

-- what an undeferred task declares: also that it writes a cell of its own, which nothing else names
abbrev pub at_once : Cell → List Use → List Use
at_once c d = d ++ use_as Writes c ∷ []

-- what the task around it waits for behind it: for that cell alone
abbrev pub its_end : Cell → List Use
its_end c = use_as Reads c ∷ []

-- its end awaits it
abbrev pub AwaitsIt : Type 0
AwaitsIt = (c : Cell) (d : List Use) → awaits (Some (its_end c)) (at_once c d) ≡ true

-- and no other
abbrev pub AwaitsNoOther : Type 0
AwaitsNoOther = (c : Cell) (other : List Use) → names c other ≡ false → awaits (Some (its_end c)) other ≡ false

-- and the cell makes no dependence with what doesn't name it, neither on earlier nor on later siblings
abbrev pub OrdersNoOther : Type 0
OrdersNoOther = (c : Cell) (d other : List Use) → names c other ≡ false
    → (depends_on (at_once c d) other ≡ depends_on d other) × (depends_on other (at_once c d) ≡ depends_on other d)
