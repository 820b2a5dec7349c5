use Rattle.std.proofs.Common.{◌∷◌, ap, arith}
use Rattle.std.proofs.lemmas.Map.Made.{Contains-tail}
use Rattle.std.proofs.lemmas.List.Sorted.{Contains-permutation}
use Rattle.ot_owner.specs.Owning.{Loan, loan_of}
use Rattle.ot_owner.proofs.OutLemmas.{contains_begun, contains_kept}
use Rattle.test_book.proofs.rights.read_twice.Goals as goal

pub give_back-requires-clause-out : goal.give_back-requires-clause-out
give_back-requires-clause-out c =
    contains_kept (loan_of 2 c.in-Ok.two) (loan_of 1 c.in_ok-one.one) c.lend.new.owners.owned.out c.lend-2.new.owners.owned.out c.in-Ok.ensures.out
    (contains_begun (loan_of 1 c.in_ok-one.one) c.args.owners.now.owned.out c.lend.new.owners.owned.out c.in_ok-one.ensures.out)

pub drop_right-requires : goal.drop_right-requires
drop_right-requires c =
    let one = loan_of 1 c.in_ok-one.one in
    let two = loan_of 2 c.in-Ok.two in
    let left = c.give_back.new.self.owned.out in
    Contains-tail one left two (λ same. omega (arith, ap (λ (l : Loan). l.worker) same))
    (Contains-permutation c.lend-2.new.owners.owned.out (one ∷ left) two c.give_back.ensures.ended
    (contains_begun two c.lend.new.owners.owned.out c.lend-2.new.owners.owned.out c.in-Ok.ensures.out))
