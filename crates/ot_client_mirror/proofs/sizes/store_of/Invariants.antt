use Rattle.std.proofs.Common.{◌≡◌, take}
use Rattle.ot_model.specs.Programs.{arrays_of}
use Rattle.ot_store.specs.Arrays.{arrays_listed}
use Rattle.ot_client_mirror.specs.Mirrors.{MayHave}
use Rattle.ot_client_mirror.proofs.sizes.store_of.Given as goal

-- those so far are made
abbrev pub invariant-loop-array : goal.invariant-loop-array
invariant-loop-array l = (arrays_listed l.store ≡ arrays_of (take l.array-index l.arrays)) × MayHave (arrays_listed l.store)
