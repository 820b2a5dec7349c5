use Rattle.ot_owner.proofs.SlotLemmas.{held-more}
use Rattle.ot_owner.proofs.rights.Rights.put.Goals as goal

pub returns-clause-put : goal.returns-clause-put
returns-clause-put c =
    let put = c.insert_reserved in
    held-more c.args.loan c.args.self.now.loans.slots put.new.self.slots put.result put.ensures.was_vacant put.ensures.updates.changed put.ensures.updates.others
