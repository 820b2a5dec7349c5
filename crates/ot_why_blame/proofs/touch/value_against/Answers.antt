use Rattle.std.proofs.Common.{◌∙◌, sym}
use Rattle.ot_model.specs.View.{expr_of}
use Rattle.ot_model.specs.Tree.{cells_named}
use Rattle.ot_model.specs.declared.stmt.Mode.TheVariants.{Reads}
use Rattle.ot_why_blame.proofs.TouchLemmas.{used-so, used-not}
use Rattle.ot_why_blame.proofs.touch.value_against.Goals as goal

pub returns-then-conflicts : goal.returns-then-conflicts
returns-then-conflicts c =
    used-so c.args.mode Reads c.args.cell (cells_named (expr_of c.args.expr.now)) c.reads.result (sym c.conflicts.ensures ∙ c.if-conflicts.true) c.reads.ensures

pub returns-else-conflicts : goal.returns-else-conflicts
returns-else-conflicts c =
    c.if-conflicts.false ∙ used-not c.args.mode Reads c.args.cell (cells_named (expr_of c.args.expr.now)) (sym c.conflicts.ensures ∙ c.if-conflicts.false)
