use Rattle.std.proofs.Common.{set}
use Rattle.ot_check.proofs.ClashLemmas.{blocks-entered, row-entered}
use Rattle.ot_check.proofs.users.Row.enter.Goals as goal

pub returns-in-Some-clause-users : goal.returns-in-Some-clause-users
returns-in-Some-clause-users c = λ test.
    row-entered test c.args.self.now (set c.args.self.now.earlier.items c.in-Some.at c.insert-in-Some.new.self) (test c.args.user)
    (blocks-entered test c.args.self.now.earlier.items c.in-Some.at c.in-Some.ensures.0 c.index_mut.result.now c.insert-in-Some.new.self (test c.args.user)
    c.in-Some.ensures.1 c.index_mut.ensures.value (c.insert-in-Some.ensures test))
