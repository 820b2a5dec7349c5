use Rattle.std.proofs.Common.{◌≢◌, sym, subst, List, All, Option, IfSome}
use Rattle.ot_job.proofs.Common.{Operation, Use, all_back, loan_of, Summed, IsSummed, MayOpen}
use Rattle.ot_owner.proofs.ShareLemmas.{bares-back, new-alike, summed-alike}
use Rattle.ot_job.proofs.lending.take_back.Goals.{In-Some}
use Rattle.ot_job.proofs.lending.take_back.Goals as goal

opens : (c : In-Some) → MayOpen c.args.owners.now.owned (loan_of c.args.worker c.args.done.lent) c.args.group c.in-Some.room
opens c = subst (λ (r : Option (Operation × List Use)). IfSome r (λ r. MayOpen c.args.owners.now.owned (loan_of c.args.worker c.args.done.lent) c.args.group r.1)) c.in-Some.is c.requires.opens

pub open_group-requires-clause-new : goal.open_group-requires-clause-new
open_group-requires-clause-new c =
    let before = c.args.owners.now.owned in
    let lent = c.args.done.lent in
    subst (λ (gs : List Summed). All (λ g. g.group ≢ c.args.group) gs) (sym c.give_back.ensures.groups)
    (new-alike before.groups (all_back c.args.worker lent before.groups) c.args.group (bares-back c.args.worker lent before.groups) (opens (goal.at.open_group-requires-clause-new c).In-Some).new)

pub open_group-requires-clause-unnamed : goal.open_group-requires-clause-unnamed
open_group-requires-clause-unnamed c = λ cell named summed.
    let before = c.args.owners.now.owned in
    let lent = c.args.done.lent in
    (opens (goal.at.open_group-requires-clause-unnamed c).In-Some).unnamed cell named
    (summed-alike (all_back c.args.worker lent before.groups) before.groups cell (sym (bares-back c.args.worker lent before.groups))
    (subst (λ (gs : List Summed). IsSummed gs cell) c.give_back.ensures.groups summed))

pub open_group-requires-clause-unused : goal.open_group-requires-clause-unused
open_group-requires-clause-unused c =
    (opens (goal.at.open_group-requires-clause-unused c).In-Some).unused c.give_back.new.owners.owned.out c.give_back.ensures.ended
