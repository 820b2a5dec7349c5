use Rattle.std.proofs.Common.{sym, subst}
use Rattle.ot_store.specs.Arrays.{named_of, AreCounted}
use Rattle.ot_store.proofs.HeldLemmas.{AreCounted-empty}
use Rattle.ot_store.proofs.store.Store.empty.Goals as goal

pub invariant_of-result : goal.invariant_of-result
invariant_of-result c = subst (λ entries. AreCounted (named_of entries) 0) (sym c.new.ensures.empty) AreCounted-empty
