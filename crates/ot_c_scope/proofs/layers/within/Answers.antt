use Rattle.std.proofs.Common.{◌++◌, ◌∙◌, ap, append-nil}
use Rattle.ot_c_scope.specs.Layers.{opened_in, portions_in}
use Rattle.ot_c_scope.proofs.LayerLemmas.{opened_within, portions_within}
use Rattle.ot_c_scope.proofs.layers.within.Goals as goal

pub returns-clause-opened : goal.returns-clause-opened
returns-clause-opened c =
    ap (λ os. os ++ opened_in c.push.new.self.items) c.no_frame.ensures.openings ∙ ap opened_in c.in_ok-push.ensures.items ∙ opened_within c.args.around.items c.args.layer

pub returns-clause-portions : goal.returns-clause-portions
returns-clause-portions c =
    ap (λ ps. portions_in c.push.new.self.items ++ ps) c.no_frame.ensures.portions ∙ append-nil (portions_in c.push.new.self.items)
    ∙ ap portions_in c.in_ok-push.ensures.items ∙ portions_within c.args.around.items c.args.layer
