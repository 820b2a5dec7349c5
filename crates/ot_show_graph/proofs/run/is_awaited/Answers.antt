use Rattle.std.proofs.Common.{sym, ap, ◌∙◌}
use Rattle.std.specs.Prelude.{option_copied}
use Rattle.ot_check.specs.Offences.{awaits}
use Rattle.ot_show_graph.proofs.RunLemmas.{depends_on-is}
use Rattle.ot_show_graph.proofs.run.is_awaited.Goals as goal

pub returns-in-Some : goal.returns-in-Some
returns-in-Some c =
    let child = c.args.child.now in
    depends_on-is c.depends_on.result child c.in-Some.decl.now c.depends_on.ensures ∙ ap (λ wait. awaits (option_copied wait) child) (sym c.in-Some.is)
