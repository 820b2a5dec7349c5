use Rattle.std.proofs.Common.{◌≡◌, ◌++◌, take}
use Rattle.std.specs.Prelude.{string_bytes}
use Rattle.ot_why_reason.specs.Places.{path_words}
use Rattle.ot_why_reason.proofs.place.put_path.Given as goal

abbrev pub invariant-loop-index : goal.invariant-loop-index
invariant-loop-index l = string_bytes l.said ≡ string_bytes l.fn.said ++ path_words (take l.index-index l.path)
