use Rattle.std.proofs.Common.{sym, ◌∙◌}
use Rattle.ot_parts.proofs.UseLemmas.{all_before}
use Rattle.ot_parts.proofs.held.comes_last.Goals as goal

pub returns-in-Some : goal.returns-in-Some
returns-in-Some c = λ yes. all_before c.args.list.now c.args.cell c.in-Some.last.now c.requires (sym c.in-Some.ensures.value) (sym c.is_before.ensures ∙ yes)
