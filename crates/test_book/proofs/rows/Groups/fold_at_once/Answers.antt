use Rattle.std.proofs.Common.{◌∷◌, IsPermutation}
use Rattle.ot_owner.specs.Owning.{Loan, loan_of}
use Rattle.ot_owner.proofs.OutLemmas.{contains_begun, contains_kept}
use Rattle.test_book.proofs.TwoLemmas.{none-left, second-left}
use Rattle.test_book.proofs.rows.Groups.fold_at_once.Goals as goal

pub put-requires-clause-out : goal.put-requires-clause-out
put-requires-clause-out c =
    let one : Loan = loan_of 3 c.in_ok-one.one in
    contains_kept (loan_of 3 c.in-Ok.two) one c.lend.new.self c.lend-2.new.self c.in-Ok.ensures.out (contains_begun one c.args.self.now c.lend.new.self c.in_ok-one.ensures.out)

pub put-requires-2-clause-out : goal.put-requires-2-clause-out
put-requires-2-clause-out c =
    let one : Loan = loan_of 3 c.in_ok-one.one in
    let two : Loan = loan_of 3 c.in-Ok.two in
    contains_begun two c.args.self.now c.put.new.self (second-left one two c.args.self.now c.lend.new.self c.lend-2.new.self c.put.new.self c.in_ok-one.ensures.out c.in-Ok.ensures.out c.put.ensures)

pub returns : goal.returns
returns c =
    let one : Loan = loan_of 3 c.in_ok-one.one in
    let two : Loan = loan_of 3 c.in-Ok.two in
    let left : IsPermutation (two ∷ c.args.self.now) c.put.new.self =
    second-left one two c.args.self.now c.lend.new.self c.lend-2.new.self c.put.new.self c.in_ok-one.ensures.out c.in-Ok.ensures.out c.put.ensures in
    none-left two c.args.self.now c.put.new.self c.put-2.new.self c.requires left c.put-2.ensures
