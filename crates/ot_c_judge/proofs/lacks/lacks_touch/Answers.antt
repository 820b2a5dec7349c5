use Rattle.std.proofs.Common.{Bool, ◌∷◌, [], map, sym, ◌∙◌}
use Rattle.std.specs.Prelude.{not, option_map}
use Rattle.ot_model.specs.View.{expr_of}
use Rattle.ot_model.specs.Tree.{cells_named}
use Rattle.ot_model.specs.declared.stmt.Mode.TheVariants.{Reads}
use Rattle.ot_model.specs.declared.stmt.Use.{Use}
use Rattle.ot_check.specs.Offences.{use_as, Declared, allows}
use Rattle.ot_c_judge.proofs.LacksLemmas.{found-left, found-right}
use Rattle.ot_c_judge.proofs.lacks.lacks_touch.Goals as goal

-- whether a use isn't allowed
abbrev bad : Declared → Use → Bool
bad own u = not (allows own u)

pub returns-in-Some : goal.returns-in-Some
returns-in-Some c =
    let own : Declared = option_map (λ d. d.now) c.args.own in
    found-left (bad own) (map (use_as Reads) (cells_named (expr_of c.args.value.now))) (use_as c.args.mode c.args.cell ∷ []) c.in-Some.used
    (sym c.in-Some.is ∙ c.lacks_value.ensures)

pub returns-in-None : goal.returns-in-None
returns-in-None c =
    let own : Declared = option_map (λ d. d.now) c.args.own in
    found-right (bad own) (map (use_as Reads) (cells_named (expr_of c.args.value.now))) (use_as c.args.mode c.args.cell ∷ []) c.lacks_use.result
    (sym c.in-None.is ∙ c.lacks_value.ensures) c.lacks_use.ensures
