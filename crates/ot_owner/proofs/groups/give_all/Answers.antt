use Rattle.std.proofs.Common.{◌∙◌, ◌<◌, ◌^◌, get_or, ap, sym, subst, IsSome}
use Rattle.std.proofs.lemmas.List.{get_or_default}
use Rattle.ot_model.specs.Cells.{cell_of}
use Rattle.ot_model.specs.declared.stmt.Mode.TheVariants.{Reads}
use Rattle.ot_owner.specs.declared.lent.LentCell.{LentCell}
use Rattle.ot_owner.specs.Kept.{summeds_of}
use Rattle.ot_owner.specs.Worth.{taken_back}
use Rattle.ot_owner.specs.Owning.{copy_among}
use Rattle.ot_owner.proofs.OpenLemmas.{back-more, taken-still}
use Rattle.ot_owner.proofs.GivingLemmas.{stored-more, all-more}
use Rattle.ot_owner.proofs.groups.give_all.Goals as goal

pub loop-copy-preserved : goal.loop-copy-preserved
loop-copy-preserved c =
    let nothing : LentCell = record { cell = record { array = 0; index = 0 }; mode = Reads; first = 0; value = 0 } in
    let lent = c.args.lent.now in
    let k = c.loop-copy.copy-index in
    let x : LentCell = get_or lent k nothing in
    let is = get_or_default lent k nothing x c.loop-copy-test.true in
    let mid = summeds_of c.loop-copy.groups.items in
    record {
      stored = stored-more lent k x (cell_of c.args.cells.now) (cell_of c.loop-copy.cells) (cell_of c.give_one.new.cells) c.requires.ordered c.loop-copy-test.true is c.loop-copy.invariant.stored
          c.give_one.ensures.stored c.give_one.ensures.others;
      rows = λ i d within folds. subst (λ gs. IsSome (copy_among gs c.args.worker (get_or lent i d).cell)) (sym c.give_one.ensures.back)
          (taken-still c.args.worker x mid c.args.worker (get_or lent i d).cell (c.loop-copy.invariant.rows i d within folds));
      small = all-more (λ (l : LentCell). l.value < 2 ^ 64) lent k x c.loop-copy-test.true is c.loop-copy.invariant.small c.give_one.ensures.small;
      back = c.give_one.ensures.back ∙ ap (taken_back c.args.worker x) c.loop-copy.invariant.back
          ∙ sym (back-more c.args.worker lent k x (summeds_of c.args.groups.now.items) c.loop-copy-test.true is);
      lengths = c.give_one.ensures.lengths ∙ c.loop-copy.invariant.lengths;
      made = c.give_one.ensures.made ∙ c.loop-copy.invariant.made;
      capacity = c.give_one.ensures.capacity ∙ c.loop-copy.invariant.capacity;
      len = c.give_one.ensures.len ∙ c.loop-copy.invariant.len;
    }
