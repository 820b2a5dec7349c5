use Rattle.std.proofs.Common.{sym, subst}
use Rattle.ot_owner.specs.Lending.{Lease, MayChange}
use Rattle.test_book.specs.TwoGroups.{IsFoldOf}
use Rattle.test_book.proofs.TwoLemmas.{may-fold}
use Rattle.test_book.proofs.rows.Groups.put.Goals as goal

pub set-requires : goal.set-requires
set-requires c = subst (MayChange c.args.lent) (sym c.cell.ensures) (may-fold c.args.lent c.args.index c.requires.lent)

pub back-requires-clause-lent : goal.back-requires-clause-lent
back-requires-clause-lent c = subst (λ (l : Lease). IsFoldOf c.args.index l.uses) (sym c.set.ensures.lease) c.requires.lent
