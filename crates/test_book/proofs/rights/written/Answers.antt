use Rattle.std.proofs.Common.{◌≡◌, ◌≢◌, sym, subst, List, [], ◌∷◌, refl, arith, Contains}
use Rattle.ot_model.specs.declared.expr.Cell.{Cell}
use Rattle.ot_model.specs.declared.stmt.Mode.TheVariants.{Reads, Writes}
use Rattle.ot_owner.specs.declared.lent.LentCell.{LentCell}
use Rattle.ot_owner.specs.Lending.{Lease, copy_of, MayChange}
use Rattle.ot_owner.specs.Owning.{Loan, loan_of}
use Rattle.ot_owner.proofs.OutLemmas.{contains_begun}
use Rattle.test_book.proofs.rights.written.Goals as goal

-- the only lent cell may be changed, where it isn't only read
only_changes : (l : LentCell) (lent : List LentCell) (cell : Cell) → lent ≡ l ∷ [] → l.cell ≡ cell → l.mode ≢ Reads → MayChange lent cell
only_changes l lent cell is same mode = subst (λ ls. MayChange ls cell) (sym is) (0, l, omega arith, refl, (same, mode))

pub set-requires : goal.set-requires
set-requires c =
    only_changes (copy_of c.args.cells.now (record { cell = record { array = 0; index = 1 }; mode = Writes })) c.in_ok-lent.lent c.cell-2.result
    c.in_ok-lent.ensures.lent (sym c.cell-2.ensures) (λ same. cc)

pub give_back-requires-clause-out : goal.give_back-requires-clause-out
give_back-requires-clause-out c =
    subst (λ (l : Lease). Contains c.lend.new.owners.owned.out (let loan : Loan = record { worker = 1; lease = l } in loan)) (sym c.set.ensures.lease)
    (contains_begun (loan_of 1 c.in_ok-lent.lent) c.args.owners.now.owned.out c.lend.new.owners.owned.out c.in_ok-lent.ensures.out)
