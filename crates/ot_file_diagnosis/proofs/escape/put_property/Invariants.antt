use Rattle.std.proofs.Common.{◌≡◌, ◌++◌, take}
use Rattle.ot_file_diagnosis.specs.Escapes.{property_text}
use Rattle.ot_file_diagnosis.proofs.escape.put_property.Given as goal

abbrev pub invariant-loop-byte : goal.invariant-loop-byte
invariant-loop-byte l = l.out.items ≡ l.fn.out.items ++ property_text (take l.byte-index l.property)
