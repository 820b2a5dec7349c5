use Rattle.std.proofs.Common.{◌≡◌, ◌++◌, drop, map}
use Rattle.serde_json.specs.View.{view}
use Rattle.ot_c_arrays.specs.Arrays.{c_array}
use Rattle.ot_c_program.specs.Files.{array_shown}
use Rattle.ot_c_program.proofs.lowered.shows.Given as goal

-- those that are left follow
abbrev pub invariant-loop-array : goal.invariant-loop-array
invariant-loop-array l = map view l.shows.items ++ map array_shown (map c_array (drop l.array-index l.arrays)) ≡ map array_shown (map c_array l.arrays)
