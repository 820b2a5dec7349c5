use Rattle.std.proofs.Common.{sym, subst}
use Rattle.ot_model.specs.Programs.{AreShort}
use Rattle.ot_store.proofs.ArraysLemmas.{AreShort-listed}
use Rattle.ot_store.proofs.store.Store.shape.Goals as goal

pub new-requires : goal.new-requires
new-requires c = subst AreShort (sym c.in_ok-arrays.ensures.listed) (AreShort-listed c.args.self.now c.list.ensures.sound)
