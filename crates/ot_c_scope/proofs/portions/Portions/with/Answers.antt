use Rattle.std.proofs.Common.{◌==◌, ◌∙◌, ap, sym, map, find, nat_eq}
use Rattle.indexmap.specs.IndexMap.{get}
use Rattle.ot_c_scope.specs.Scopes.{extent_of}
use Rattle.ot_c_scope.proofs.KeptLemmas.{oldest_next}
use Rattle.ot_c_scope.proofs.portions.Portions.with.Goals as goal

pub invariant_of-result : goal.invariant_of-result
invariant_of-result c = λ x.
    oldest_next c.self.inside.made.items c.args.portion x (get nat_eq c.self.inside.oldest x) (get nat_eq c.in_ok-oldest.oldest x) (c.self.invariant x) (c.in_ok-oldest.ensures x)
    ∙ ap (λ items. find (λ e. e.array == x) (map extent_of items)) (sym c.in_ok-push.ensures.items)
