use Rattle.std.proofs.Common.{◌≡◌, ◌++◌, drop, map}
use Rattle.serde_json.specs.View.{view}
use Rattle.ot_c_arrays.specs.Arrays.{c_array}
use Rattle.ot_c_text.specs.Requests as meant
use Rattle.ot_c_text.proofs.requests.making.Given as goal

-- those that are left follow
abbrev pub invariant-loop-array : goal.invariant-loop-array
invariant-loop-array l = map view l.requests.items ++ meant.making (map c_array (drop l.array-index l.arrays)) ≡ meant.making (map c_array l.arrays)
