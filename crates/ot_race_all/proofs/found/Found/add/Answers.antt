use Rattle.std.proofs.Common.{sym, subst}
use Rattle.ot_race_all.specs.Found.{HasPairs}
use Rattle.ot_race_all.proofs.FoundLemmas.{pairs_more}
use Rattle.ot_race_all.proofs.found.Found.add.Goals as goal

pub returns-in_ok-push-clause-pairs : goal.returns-in_ok-push-clause-pairs
returns-in_ok-push-clause-pairs c =
    subst (HasPairs c.insert.new.self) (sym c.in_ok-push.ensures.items)
    (pairs_more c.args.self.now.pairs c.insert.new.self c.args.self.now.all.items c.args.race c.requires c.in_ok-insert.ensures.updates)
