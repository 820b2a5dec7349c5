use Rattle.std.proofs.Common.{◌∙◌, sym, ap}
use Rattle.std.specs.List.{list_any}
use Rattle.ot_model.specs.Cells.{same_cell}
use Rattle.ot_model.specs.declared.stmt.Mode.TheVariants.{Writes}
use Rattle.ot_check.proofs.Cited.{stmt_of-Group}
use Rattle.ot_why_blame.specs.Races.{uses_of}
use Rattle.ot_why_blame.specs.Walk.{is_use_against}
use Rattle.ot_why_blame.proofs.TouchLemmas.{used-so}
use Rattle.ot_why_blame.proofs.touch.uses_against.Goals as goal

pub returns-then-conflicts : goal.returns-then-conflicts
returns-then-conflicts c =
    used-so c.args.mode Writes c.args.cell c.in-Group.cells.items c.has.result (sym c.conflicts.ensures ∙ c.if-conflicts.true)
    (c.has.ensures ∙ ap (list_any (λ d. same_cell d c.args.cell)) c.deref.ensures.value)
    ∙ ap (λ x. list_any (is_use_against c.args.mode c.args.cell) (uses_of x)) (sym (stmt_of-Group _ _ _ _ c.in-Group.is))
