use Rattle.std.proofs.Common.{◌≡◌, ◌∙◌, List, ap, sym, subst, IsSome, Contains, ◌-◌}
use Rattle.std.specs.Prelude.{All, true, vec_capacity, vec_len}
use Rattle.ot_model.specs.Cells.{cell_of, is_fold}
use Rattle.ot_model.specs.declared.stmt.Mode.TheVariants.{Writes}
use Rattle.ot_owner.specs.declared.lent.LentCell.{LentCell}
use Rattle.ot_owner.specs.Worth.{AreStored, all_back, worth, AreJoined}
use Rattle.ot_owner.specs.Keeping.{IsSound, IsLast, Made, HasRow, Prepared}
use Rattle.ot_owner.specs.Kept.{loans_in, spare_in, summeds_of, mades_of}
use Rattle.ot_owner.specs.Lending.{lease_of}
use Rattle.ot_owner.specs.Owning.{Loan, Summed, IsSummed, copy_among, folds_in}
use Rattle.ot_owner.proofs.GivingLemmas.{worth_with, joined-worth}
use Rattle.ot_owner.proofs.OpenLemmas.{Copies, Own, all-at, copies-lent, own-lent, back-sound}
use Rattle.ot_owner.proofs.owners.Owners.give_back.Goals as goal

pub give_all-requires-clause-rows : goal.give_all-requires-clause-rows
give_all-requires-clause-rows c =
    let gs = summeds_of c.self.inside.groups.items in
    let loan : Loan = record { worker = c.args.worker; lease = lease_of c.args.lent } in
    let out : Contains (loans_in c.self.inside.rights) loan = subst (λ xs. Contains xs loan) (ap (λ k. k.owned.out) (sym c.self.view_is)) c.requires.out in
    subst (λ (ls : List LentCell). All (λ l. is_fold l.mode ≡ true → IsSome (copy_among gs c.args.worker l.cell)) ls) (sym c.cells.ensures.cells)
    (copies-lent gs c.args.worker c.args.lent (all-at (Copies gs) (loans_in c.self.inside.rights) loan c.self.invariant.copies out))

pub invariant_of-self : goal.invariant_of-self
invariant_of-self c =
    let out = loans_in c.self.inside.rights in
    subst (λ (gs : List Summed). IsSound (record { out = out; groups = gs })) (sym c.give_all.ensures.back)
    (back-sound out (summeds_of c.self.inside.groups.items) c.args.worker c.cells.result.now c.give_all.ensures.small c.self.invariant)

pub returns-clause-worth : goal.returns-clause-worth
returns-clause-worth c = λ none.
    let before = summeds_of c.self.inside.groups.items in
    let after = summeds_of c.give_all.new.groups.items in
    let lent : List LentCell = c.args.lent in
    let cells = c.cells.ensures.cells in
    let loan : Loan = record { worker = c.args.worker; lease = lease_of lent } in
    let was : before ≡ c.args.self.now.owned.groups = ap (λ k. k.owned.groups) c.self.view_is in
    let now : all_back c.args.worker lent before ≡ c.drop_right.new.self.owned.groups =
    ap (λ ls. all_back c.args.worker ls before) (sym cells) ∙ sym c.give_all.ensures.back ∙ sym c.drop_right.ensures.groups in
    let out : Contains (loans_in c.self.inside.rights) loan = subst (λ xs. Contains xs loan) (ap (λ k. k.owned.out) (sym c.self.view_is)) c.requires.out in
    let rows : All (λ l. is_fold l.mode ≡ true → IsSome (copy_among before c.args.worker l.cell)) lent =
    copies-lent before c.args.worker lent (all-at (Copies before) (loans_in c.self.inside.rights) loan c.self.invariant.copies out) in
    let joined : AreJoined lent (worth_with before (cell_of c.args.cells.now)) (worth_with (all_back c.args.worker lent before) (cell_of c.give_all.new.cells)) =
    joined-worth c.args.worker lent before c.cells.ensures.ordered rows
    (subst (λ (gs : List Summed). All (λ l. l.mode ≡ Writes → ¬ IsSummed gs l.cell) lent) (sym was) none)
    (own-lent before lent (all-at (Own before) (loans_in c.self.inside.rights) loan c.self.invariant.own out)) (cell_of c.args.cells.now) (cell_of c.give_all.new.cells)
    (subst (λ (ls : List LentCell). AreStored ls (cell_of c.args.cells.now) (cell_of c.give_all.new.cells)) cells c.give_all.ensures.stored) in
    subst (λ (gs : List Summed). AreJoined lent (worth_with gs (cell_of c.args.cells.now)) (worth c.drop_right.new.self.owned c.give_all.new.cells)) was
    (subst (λ (gs : List Summed). AreJoined lent (worth_with before (cell_of c.args.cells.now)) (worth_with gs (cell_of c.give_all.new.cells))) now joined)

pub returns-clause-slips : goal.returns-clause-slips
returns-clause-slips c = λ (s : Prepared) last.
    let was : IsLast (record {
      owned = record { out = loans_in c.self.inside.rights; groups = summeds_of c.self.inside.groups.items };
      made = mades_of c.self.inside.groups.items;
      loans = spare_in c.self.inside.rights;
      places = vec_capacity c.self.inside.groups - vec_len c.self.inside.groups;
    }) s = subst (λ k. IsLast k s) (sym c.self.view_is) last in
    c.drop_right.ensures.slips s (record {
      place = was.place;
      rows = subst (λ (ms : List Made). All (λ m. folds_in m.uses s.uses ≡ true → HasRow s.worker m) ms) (sym c.give_all.ensures.made) was.rows;
    })
