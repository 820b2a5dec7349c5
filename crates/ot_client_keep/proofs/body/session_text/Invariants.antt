use Rattle.std.proofs.Common.{map, take}
use Rattle.ot_client_keep.specs.Arrays.{named_by}
use Rattle.ot_client_keep.specs.Files.{Makes}
use Rattle.ot_client_keep.proofs.body.session_text.Given as goal

-- the text makes the arrays so far
abbrev pub invariant-loop-array : goal.invariant-loop-array
invariant-loop-array l = Makes (map named_by (take l.array-index l.arrays)) l.text.items
