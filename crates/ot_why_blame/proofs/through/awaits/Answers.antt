use Rattle.std.proofs.Common.{sym, ap, ◌∙◌}
use Rattle.ot_check.specs.Offences.{awaits}
use Rattle.ot_why_blame.proofs.AwaitsLemmas.{depends_on-is}
use Rattle.ot_why_blame.proofs.through.awaits.Goals as goal

pub returns-in-Some : goal.returns-in-Some
returns-in-Some c =
    let child = c.args.decl.now in
    depends_on-is c.depends_on.result child c.in-Some.declared c.depends_on.ensures ∙ ap (λ wait. awaits wait child) (sym c.in-Some.is)
