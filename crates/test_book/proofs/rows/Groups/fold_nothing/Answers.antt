use Rattle.ot_owner.specs.Owning.{loan_of}
use Rattle.ot_owner.proofs.OutLemmas.{contains_begun}
use Rattle.test_book.proofs.TwoLemmas.{none-left}
use Rattle.test_book.proofs.rows.Groups.fold_nothing.Goals as goal

pub back-requires-clause-out : goal.back-requires-clause-out
back-requires-clause-out c = contains_begun (loan_of 1 c.in_ok-lent.lent) c.args.self.now c.lend.new.self c.in_ok-lent.ensures.out

pub returns : goal.returns
returns c = none-left (loan_of 1 c.in_ok-lent.lent) c.args.self.now c.lend.new.self c.back.new.self c.requires c.in_ok-lent.ensures.out c.back.ensures
