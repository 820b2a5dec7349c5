use Rattle.std.proofs.Common.{[], ◌∷◌, ap, sym, ◌∙◌}
use Rattle.ot_model.specs.declared.stmt.Mode.TheVariants.{Writes}
use Rattle.ot_check.specs.Offences.{Enter, use_as, clashes}
use Rattle.ot_check.specs.Discipline.{may_break}
use Rattle.ot_check.proofs.Bits.{or_none}
use Rattle.ot_check.proofs.RegionLemmas.{stands-clash}
use Rattle.ot_check.proofs.standing.Standing.cell_breaks.Goals as goal

pub returns-in-ConflictsWithChild : goal.returns-in-ConflictsWithChild
returns-in-ConflictsWithChild c = λ own opened children decls h op.
    c.clash.ensures ∙ stands-clash own opened children decls c.args.self.now.region c.args.self.now.tasks h (use_as Writes c.args.cell) ∙ sym (or_none (children (clashes (use_as Writes c.args.cell))))
    ∙ sym (ap (may_break own opened children (Enter op (c.args.cell ∷ []))) c.in-ConflictsWithChild.is)
