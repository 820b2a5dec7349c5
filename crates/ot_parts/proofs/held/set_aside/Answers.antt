use Rattle.std.proofs.Common.{◌++◌, ◌∙◌, append-nil, ap}
use Rattle.ot_parts.specs.Modes.{strongest}
use Rattle.ot_parts.proofs.StrongestLemmas.{strongest-in_order, strongest-push}
use Rattle.ot_parts.proofs.held.set_aside.Goals as goal

pub returns-in_ok-gather-clause-added : goal.returns-in_ok-gather-clause-added
returns-in_ok-gather-clause-added c = λ cell.
    let list = c.gather.new.list.items in
    ap (λ us. strongest us cell) (ap (λ us. list ++ us) c.in_ok-gather.ensures.empty ∙ append-nil list)
    ∙ strongest-in_order list cell c.in_ok-gather.ensures.ordered ∙ c.in_ok-gather.ensures.exact cell
    ∙ ap (λ us. strongest (c.args.list.now.items ++ us) cell) c.in_ok-push.ensures.items
    ∙ strongest-push c.args.list.now.items c.args.aside.now.items c.args.used cell
