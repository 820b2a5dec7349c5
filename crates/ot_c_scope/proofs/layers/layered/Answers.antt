use Rattle.std.proofs.Common.{◌++◌, ◌∙◌, ap, true}
use Rattle.ot_c_scope.specs.Layers.{opened_in, portions_in}
use Rattle.ot_c_scope.proofs.LayerLemmas.{opened_within, portions_within}
use Rattle.ot_c_scope.proofs.layers.layered.Goals as goal

pub returns-clause-opened : goal.returns-clause-opened
returns-clause-opened c =
    ap opened_in c.in_ok-push.ensures.items ∙ opened_within c.args.around.items (record { frame = c.in_ok-new.field-0; own = true })
    ∙ ap (λ f. f.openings ++ opened_in c.args.around.items) c.in_ok-new.ensures.ok

pub returns-clause-portions : goal.returns-clause-portions
returns-clause-portions c =
    ap portions_in c.in_ok-push.ensures.items ∙ portions_within c.args.around.items (record { frame = c.in_ok-new.field-0; own = true })
    ∙ ap (λ f. portions_in c.args.around.items ++ f.portions) c.in_ok-new.ensures.ok
