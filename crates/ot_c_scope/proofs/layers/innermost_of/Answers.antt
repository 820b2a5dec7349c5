use Rattle.std.proofs.Common.{◌++◌, ◌≡◌, ◌∙◌, ap, sym, IfOk, subst}
use Rattle.ot_c_scope.specs.Layers.{opened_in, portions_in}
use Rattle.ot_c_scope.proofs.LayerLemmas.{opened_within, portions_within}
use Rattle.ot_c_scope.proofs.layers.innermost_of.Goals as goal

pub returns-in-Some-clause-opened : goal.returns-in-Some-clause-opened
returns-in-Some-clause-opened c =
    subst (λ os. IfOk c.unshared.result (λ i. i.frame.openings ++ opened_in i.around.items ≡ os))
    (sym (ap opened_in c.in-Some.ensures.items ∙ opened_within c.pop.new.self.items c.in-Some.layer)) c.unshared.ensures.opened

pub returns-in-Some-clause-portions : goal.returns-in-Some-clause-portions
returns-in-Some-clause-portions c =
    subst (λ ps. IfOk c.unshared.result (λ i. portions_in i.around.items ++ i.frame.portions ≡ ps))
    (sym (ap portions_in c.in-Some.ensures.items ∙ portions_within c.pop.new.self.items c.in-Some.layer)) c.unshared.ensures.portions
