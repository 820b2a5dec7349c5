use Rattle.std.proofs.Common.{◌≡◌, ℕ, sym, subst, List, All, Option}
use Rattle.ot_job.proofs.Common.{Operation, Folds, Loan, IsFreeFor, Summed, IsSummedBy, left_open}
use Rattle.ot_job.proofs.lending.lend.Goals as goal

pub lease-requires-2-clause-last : goal.lease-requires-2-clause-last
lease-requires-2-clause-last c = c.close_group.ensures.slips c.args.slip c.requires.last

pub lease-requires-2-clause-free : goal.lease-requires-2-clause-free
lease-requires-2-clause-free c = subst (λ (out : List Loan). IsFreeFor out c.args.slip.uses) (sym c.close_group.ensures.out) c.requires.free

pub lease-requires-clause-summed : goal.lease-requires-clause-summed
lease-requires-clause-summed c =
    subst (λ (passed : Option ℕ). All (λ u. (op : Operation) → u.mode ≡ Folds op → IsSummedBy (left_open passed c.args.owners.now.owned.groups) op u.cell) c.args.slip.uses)
    c.in_default.is c.requires.summed

pub lease-requires-2-clause-summed : goal.lease-requires-2-clause-summed
lease-requires-2-clause-summed c =
    subst (λ (gs : List Summed). All (λ u. (op : Operation) → u.mode ≡ Folds op → IsSummedBy gs op u.cell) c.args.slip.uses) (sym c.close_group.ensures.groups)
    (subst (λ (passed : Option ℕ). All (λ u. (op : Operation) → u.mode ≡ Folds op → IsSummedBy (left_open passed c.args.owners.now.owned.groups) op u.cell) c.args.slip.uses)
    c.in-Some.is c.requires.summed)
