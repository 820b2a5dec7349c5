use Rattle.std.proofs.Common.{sym, subst, List, Contains}
use Rattle.ot_owner.specs.Owning.{Loan, loan_of}
use Rattle.ot_owner.proofs.OutLemmas.{contains_begun}
use Rattle.test_book.proofs.rows.Groups.is_free_beside.Goals as goal

pub drop_right-requires : goal.drop_right-requires
drop_right-requires c =
    subst (λ (out : List Loan). Contains out (loan_of 1 c.in_ok-lent.lent)) (sym c.self.view_is)
    (contains_begun (loan_of 1 c.in_ok-lent.lent) c.args.self.now c.lend.new.self c.in_ok-lent.ensures.out)
