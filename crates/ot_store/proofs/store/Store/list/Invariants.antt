use Rattle.std.proofs.Common.{◌≡◌, ◌<◌, ◌^◌, ◌++◌}
use Rattle.ot_model.specs.Programs.{arrays_of}
use Rattle.ot_store.specs.Arrays.{cell_count, arrays_listed, named_of}
use Rattle.ot_store.proofs.store.Store.list.Given as goal

abbrev pub invariant-loop-name : goal.invariant-loop-name
invariant-loop-name l =
    (arrays_of l.arrays.items ++ arrays_listed (named_of l.name-iterator) ≡ arrays_listed (named_of l.initial.name-iterator))
    × (cell_count (named_of l.name-iterator) < 2 ^ 32)
