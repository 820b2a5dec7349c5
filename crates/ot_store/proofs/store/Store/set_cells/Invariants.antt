use Rattle.std.proofs.Common.{◌≡◌, ◌+◌, length, map}
use Rattle.std.specs.Vec.Iter.{into_iter_items, into_iter_len}
use Rattle.ot_store.specs.Arrays.{with_cells, named_of}
use Rattle.ot_store.proofs.RefillLemmas.{refilled}
use Rattle.ot_store.proofs.store.Store.set_cells.Given as goal

abbrev pub invariant-loop-place : goal.invariant-loop-place
invariant-loop-place l = record {
  left :
      refilled (named_of l.self-inside.arrays.entries) l.place-iterator.count (map (λ v. v.items) (into_iter_items l.place-iterator.iter))
      ≡ with_cells l.fn.self l.fn.cells;
  long : l.place-iterator.count + length (into_iter_items l.place-iterator.iter) ≡ length l.self-inside.arrays.entries;
  size : into_iter_len l.place-iterator.iter ≡ length (into_iter_items l.place-iterator.iter);
  count : l.self-inside.count ≡ l.initial.self-inside.count;
}
