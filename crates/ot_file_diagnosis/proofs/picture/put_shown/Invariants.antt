use Rattle.std.proofs.Common.{◌≡◌, ◌++◌, take}
use Rattle.std.specs.Prelude.{flat_map}
use Rattle.ot_file_diagnosis.specs.Pictures.{shown_of}
use Rattle.ot_file_diagnosis.proofs.picture.put_shown.Given as goal

abbrev pub invariant-loop-byte : goal.invariant-loop-byte
invariant-loop-byte l = l.out.items ≡ l.fn.out.items ++ flat_map shown_of (take l.byte-index l.bytes)
