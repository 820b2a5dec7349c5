use Rattle.std.proofs.Common.{◌≡◌}
use Rattle.std.specs.Prelude.{vec_len, vec_capacity, if◌then◌else◌}
use Rattle.ot_owner.specs.Kept.{summeds_of, mades_of}
use Rattle.ot_owner.specs.Owning.{Summed, folds_in, begun_in}
use Rattle.ot_owner.proofs.RowLemmas.{front}
use Rattle.ot_owner.proofs.groups.begin_rows.Given as goal

abbrev pub invariant-loop-i : goal.invariant-loop-i
invariant-loop-i l = record {
  begun : summeds_of l.groups.items ≡ front (λ (g : Summed). if folds_in g.uses l.uses then begun_in l.worker g else g) l.i (summeds_of l.initial.groups.items);
  made : mades_of l.groups.items ≡ mades_of l.initial.groups.items;
  len : vec_len l.groups ≡ vec_len l.initial.groups;
  capacity : vec_capacity l.groups ≡ vec_capacity l.initial.groups;
}
