use Rattle.std.proofs.Common.{◌≡◌, ◌<◌, ◌^◌, take, true, IsSome, All}
use Rattle.std.specs.Prelude.{vec_len, vec_capacity}
use Rattle.ot_model.specs.Cells.{cell_of, lengths, is_fold}
use Rattle.ot_owner.specs.Worth.{AreStored, all_back}
use Rattle.ot_owner.specs.Kept.{summeds_of, mades_of}
use Rattle.ot_owner.specs.Owning.{copy_among}
use Rattle.ot_owner.proofs.groups.give_all.Given as goal

abbrev pub invariant-loop-copy : goal.invariant-loop-copy
invariant-loop-copy l = record {
  stored : AreStored (take l.copy-index l.lent) (cell_of l.initial.cells) (cell_of l.cells);
  back : summeds_of l.groups.items ≡ all_back l.worker (take l.copy-index l.lent) (summeds_of l.initial.groups.items);
  rows : All (λ l2. is_fold l2.mode ≡ true → IsSome (copy_among (summeds_of l.groups.items) l.worker l2.cell)) l.lent;
  small : All (λ l2. l2.value < 2 ^ 64) (take l.copy-index l.lent);
  lengths : lengths l.cells ≡ lengths l.initial.cells;
  made : mades_of l.groups.items ≡ mades_of l.initial.groups.items;
  capacity : vec_capacity l.groups ≡ vec_capacity l.initial.groups;
  len : vec_len l.groups ≡ vec_len l.initial.groups;
}
