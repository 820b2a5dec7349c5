use Rattle.std.proofs.Common.{◌≡◌, ◌++◌, take}
use Rattle.std.specs.Prelude.{flat_map}
use Rattle.ot_file_diagnosis.specs.Pictures.{lead_of}
use Rattle.ot_file_diagnosis.proofs.picture.put_lead.Given as goal

abbrev pub invariant-loop-byte : goal.invariant-loop-byte
invariant-loop-byte l = l.out.items ≡ l.fn.out.items ++ flat_map lead_of (take l.byte-index l.bytes)
