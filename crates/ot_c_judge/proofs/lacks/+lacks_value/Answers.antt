use Rattle.std.proofs.Common.{Bool, ap, sym, ◌∙◌, map}
use Rattle.std.specs.Prelude.{not, find, Option, option_map}
use Rattle.ot_model.specs.View.{expr_of}
use Rattle.ot_model.specs.Tree.{cells_named, cells_of}
use Rattle.ot_model.specs.declared.expr.Expr.{Expr}
use Rattle.ot_model.specs.declared.stmt.Mode.TheVariants.{Reads}
use Rattle.ot_model.specs.declared.stmt.Use.{Use}
use Rattle.ot_check.specs.Offences.{use_as, Declared, allows}
use Rattle.ot_c_judge.proofs.LacksLemmas.{found-in_front, found-behind}
use Rattle.ot_c_judge.proofs.lacks.+lacks_value.Goals as goal

-- whether a use isn't allowed
abbrev bad : Declared → Use → Bool
bad own u = not (allows own u)

-- the first that a value reads
abbrev first : Declared → Expr → Option Use
first own e = find (bad own) (map (use_as Reads) (cells_named (expr_of e)))

pub returns-in-Some : goal.returns-in-Some
returns-in-Some t c =
    let own : Declared = option_map (λ d. d.now) c.args.own in
    found-in_front (bad own) (use_as Reads) (cells_named (expr_of c.in-Op.one.value)) (cells_named (expr_of c.in-Op.two.value)) c.in-Some.used
    (sym c.in-Some.is ∙ c.lacks_value.ensures ∙ ap (first own) c.deref.ensures)
    ∙ ap (first own) (sym c.in-Op.is)

pub returns-in-None : goal.returns-in-None
returns-in-None t c =
    let own : Declared = option_map (λ d. d.now) c.args.own in
    found-behind (bad own) (use_as Reads) (cells_named (expr_of c.in-Op.one.value)) (cells_named (expr_of c.in-Op.two.value)) c.lacks_value-in-None.result
    (sym c.in-None.is ∙ c.lacks_value.ensures ∙ ap (first own) c.deref.ensures)
    (c.lacks_value-in-None.ensures ∙ ap (first own) c.deref-in-None.ensures)
    ∙ ap (first own) (sym c.in-Op.is)

pub returns-in-Some-lacks_section : goal.returns-in-Some-lacks_section
returns-in-Some-lacks_section t c =
    let own : Declared = option_map (λ d. d.now) c.args.own in
    found-in_front (bad own) (use_as Reads) (cells_of c.in-Pick.section) (cells_named (expr_of c.in-Pick.chosen.value)) c.in-Some-lacks_section.used
    (sym c.in-Some-lacks_section.is ∙ c.lacks_section.ensures)
    ∙ ap (first own) (sym c.in-Pick.is)

pub returns-in-None-lacks_section : goal.returns-in-None-lacks_section
returns-in-None-lacks_section t c =
    let own : Declared = option_map (λ d. d.now) c.args.own in
    found-behind (bad own) (use_as Reads) (cells_of c.in-Pick.section) (cells_named (expr_of c.in-Pick.chosen.value)) c.lacks_value-in-None-lacks_section.result
    (sym c.in-None-lacks_section.is ∙ c.lacks_section.ensures)
    (c.lacks_value-in-None-lacks_section.ensures ∙ ap (first own) c.deref-in-None-lacks_section.ensures)
    ∙ ap (first own) (sym c.in-Pick.is)
