use Rattle.ot_core.proofs.ToldLemmas.{same-told, same-whole}
use Rattle.ot_core.proofs.world.worlds_agree.Goals as goal

pub returns-clause-same_losses : goal.returns-clause-same_losses
returns-clause-same_losses c = λ i alike a b here there.
    same-told a b (c.tells.ensures c.args.tenant a here).0 (c.tells-2.ensures c.args.tenant b there).0 (c.requires a b here there) i (alike a b here there)

pub returns-clause-whole : goal.returns-clause-whole
returns-clause-whole c = λ none_here none_there i a b here there.
    same-told a b (c.tells.ensures c.args.tenant a here).0 (c.tells-2.ensures c.args.tenant b there).0 (c.requires a b here there) i
    (same-whole a b (none_here a here) (none_there b there) i)
