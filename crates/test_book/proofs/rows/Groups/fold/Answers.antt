use Rattle.ot_owner.specs.Owning.{loan_of}
use Rattle.ot_owner.proofs.OutLemmas.{contains_begun}
use Rattle.test_book.proofs.TwoLemmas.{none-left}
use Rattle.test_book.proofs.rows.Groups.fold.Goals as goal

pub put-requires-clause-out : goal.put-requires-clause-out
put-requires-clause-out c = contains_begun (loan_of c.args.worker c.in_ok-lent.lent) c.args.self.now c.lend.new.self c.in_ok-lent.ensures.out

pub returns : goal.returns
returns c = none-left (loan_of c.args.worker c.in_ok-lent.lent) c.args.self.now c.lend.new.self c.put.new.self c.requires.none c.in_ok-lent.ensures.out c.put.ensures
