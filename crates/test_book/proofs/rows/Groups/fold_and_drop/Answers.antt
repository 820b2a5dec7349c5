use Rattle.std.proofs.Common.{◌∷◌, sym, subst, List, Contains, IsPermutation}
use Rattle.ot_owner.specs.Lending.{Lease, MayChange}
use Rattle.ot_owner.specs.Owning.{Loan, loan_of}
use Rattle.ot_owner.proofs.OutLemmas.{contains_begun}
use Rattle.test_book.proofs.TwoLemmas.{may-fold, none-left}
use Rattle.test_book.proofs.rows.Groups.fold_and_drop.Goals as goal

pub set-requires : goal.set-requires
set-requires c = subst (MayChange c.in_ok-lent.lent) (sym c.cell.ensures) (may-fold c.in_ok-lent.lent 0 c.in_ok-lent.ensures.lent)

pub drop_right-requires : goal.drop_right-requires
drop_right-requires c =
    subst (λ (out : List Loan). Contains out (loan_of 1 c.set.new.self)) (sym c.self.view_is)
    (subst (λ (l : Lease). Contains c.lend.new.self (let loan : Loan = record { worker = 1; lease = l } in loan)) (sym c.set.ensures.lease)
    (contains_begun (loan_of 1 c.in_ok-lent.lent) c.args.self.now c.lend.new.self c.in_ok-lent.ensures.out))

pub returns : goal.returns
returns c =
    let loan : Loan = loan_of 1 c.set.new.self in
    let begun : IsPermutation (loan ∷ c.args.self.now) c.lend.new.self =
    subst (λ (l : Lease). IsPermutation ((let loan : Loan = record { worker = 1; lease = l } in loan) ∷ c.args.self.now) c.lend.new.self) (sym c.set.ensures.lease) c.in_ok-lent.ensures.out in
    none-left loan c.args.self.now c.self.inside.owners.owned.out c.drop_right.new.self.owned.out c.requires
    (subst (λ (out : List Loan). IsPermutation (loan ∷ c.args.self.now) out) (sym c.self.view_is) begun) c.drop_right.ensures.ended
