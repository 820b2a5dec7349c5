use Rattle.std.proofs.Common.{◌∙◌, ap}
use Rattle.std.proofs.lemmas.Result.{on_ok_weaker}
use Rattle.ot_parts.specs.Modes.{mode_added, strongest}
use Rattle.ot_parts.proofs.StrongestLemmas.{strongest-front}
use Rattle.ot_parts.proofs.held.Held.add.Goals as goal

pub returns : goal.returns
returns c = on_ok_weaker c.put.result (λ is cell.
    strongest-front c.self.inside.list.items c.put.new.list.items c.self.inside.aside.items c.args.used cell c.self.invariant c.put.ensures.ordered (is cell)
    ∙ ap (λ us. mode_added cell (strongest us cell) c.args.used) c.self.view_is) c.put.ensures.added
