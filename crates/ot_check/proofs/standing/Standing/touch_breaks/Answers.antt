use Rattle.std.proofs.Common.{ap, sym, ◌∙◌}
use Rattle.ot_check.specs.Offences.{Touch}
use Rattle.ot_check.specs.Discipline.{may_break}
use Rattle.ot_check.proofs.RegionLemmas.{stands-clash}
use Rattle.ot_check.proofs.standing.Standing.touch_breaks.Goals as goal

pub returns-in-ConflictsWithChild : goal.returns-in-ConflictsWithChild
returns-in-ConflictsWithChild c = λ own opened children decls h.
    c.clash.ensures ∙ stands-clash own opened children decls c.args.self.now.region c.args.self.now.tasks h c.args.used
    ∙ sym (ap (may_break own opened children (Touch c.args.used)) c.in-ConflictsWithChild.is)
