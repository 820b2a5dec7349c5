use Rattle.ot_owner.specs.Owning.{loan_of}
use Rattle.ot_owner.proofs.OutLemmas.{contains_begun}
use Rattle.test_book.proofs.rights.lend_and_end.Goals as goal

pub drop_right-requires : goal.drop_right-requires
drop_right-requires c = contains_begun (loan_of 1 c.in_ok-lent.lent) c.args.owners.now.owned.out c.lend.new.owners.owned.out c.in_ok-lent.ensures.out
