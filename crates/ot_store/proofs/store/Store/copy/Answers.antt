use Rattle.std.proofs.Common.{sym, ◌∙◌, subst}
use Rattle.ot_store.specs.Arrays.{AreCounted}
use Rattle.ot_store.proofs.HeldLemmas.{named_of-clone}
use Rattle.ot_store.proofs.store.Store.copy.Goals as goal

pub invariant_of-result : goal.invariant_of-result
invariant_of-result c =
    subst (λ arrays. AreCounted arrays c.self.inside.count) (sym (named_of-clone c.self.inside.arrays.entries c.in_ok-arrays.arrays.entries c.in_ok-arrays.ensures.cases)) c.self.invariant

pub returns : goal.returns
returns c = named_of-clone c.self.inside.arrays.entries c.in_ok-arrays.arrays.entries c.in_ok-arrays.ensures.cases ∙ c.self.view_is
