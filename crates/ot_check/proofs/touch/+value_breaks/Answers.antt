use Rattle.std.proofs.Common.{Bool, ap, sym, ◌∙◌, map}
use Rattle.std.specs.List.{list_any, range_with_len}
use Rattle.ot_model.specs.View.{expr_of}
use Rattle.ot_model.specs.Tree.{cell_at, cells_named}
use Rattle.ot_model.specs.declared.expr.Cell.{Cell}
use Rattle.ot_model.specs.declared.expr.Expr.{Expr}
use Rattle.ot_model.specs.declared.stmt.Mode.TheVariants.{Reads}
use Rattle.ot_check.specs.Offences.{Touch, use_as, Declared, Openings}
use Rattle.ot_check.specs.Discipline.{Children, may_break}
use Rattle.ot_check.specs.declared.fault.Offence.{Offence}
use Rattle.ot_check.proofs.StandingLemmas.{either-then, either-else}
use Rattle.ot_check.proofs.touch.+value_breaks.Goals as goal

-- whether the reading of a cell is the offence
abbrev read : Declared → Openings → Children → Offence → Cell → Bool
read own opened children offence d = may_break own opened children (Touch (use_as Reads d)) offence

abbrev reads : Declared → Openings → Children → Offence → Expr → Bool
reads own opened children offence e = list_any (read own opened children offence) (cells_named (expr_of e))

pub returns-then-value_breaks : goal.returns-then-value_breaks
returns-then-value_breaks n c = λ own opened children decls h.
    either-then (read own opened children c.args.offence) (cells_named (expr_of c.in-Op.one.value)) (cells_named (expr_of c.in-Op.two.value)) c.value_breaks.result
    (c.value_breaks.ensures own opened children decls h ∙ ap (reads own opened children c.args.offence) c.deref.ensures) c.if-value_breaks.true
    ∙ ap (reads own opened children c.args.offence) (sym c.in-Op.is)

pub returns-else-value_breaks : goal.returns-else-value_breaks
returns-else-value_breaks n c = λ own opened children decls h.
    either-else (read own opened children c.args.offence) (cells_named (expr_of c.in-Op.one.value)) (cells_named (expr_of c.in-Op.two.value))
    c.value_breaks.result c.value_breaks-else-value_breaks.result
    (c.value_breaks.ensures own opened children decls h ∙ ap (reads own opened children c.args.offence) c.deref.ensures) c.if-value_breaks.false
    (c.value_breaks-else-value_breaks.ensures own opened children decls h ∙ ap (reads own opened children c.args.offence) c.deref-else-value_breaks.ensures)
    ∙ ap (reads own opened children c.args.offence) (sym c.in-Op.is)

pub returns-then-section_breaks : goal.returns-then-section_breaks
returns-then-section_breaks n c = λ own opened children decls h.
    either-then (read own opened children c.args.offence) (map (cell_at c.in-Pick.section) (range_with_len 0 c.in-Pick.section.len))
    (cells_named (expr_of c.in-Pick.chosen.value)) c.section_breaks.result
    (c.section_breaks.ensures own opened children decls h) c.if-section_breaks.true
    ∙ ap (reads own opened children c.args.offence) (sym c.in-Pick.is)

pub returns-else-section_breaks : goal.returns-else-section_breaks
returns-else-section_breaks n c = λ own opened children decls h.
    either-else (read own opened children c.args.offence) (map (cell_at c.in-Pick.section) (range_with_len 0 c.in-Pick.section.len))
    (cells_named (expr_of c.in-Pick.chosen.value)) c.section_breaks.result c.value_breaks-else-section_breaks.result
    (c.section_breaks.ensures own opened children decls h) c.if-section_breaks.false
    (c.value_breaks-else-section_breaks.ensures own opened children decls h ∙ ap (reads own opened children c.args.offence) c.deref-else-section_breaks.ensures)
    ∙ ap (reads own opened children c.args.offence) (sym c.in-Pick.is)
