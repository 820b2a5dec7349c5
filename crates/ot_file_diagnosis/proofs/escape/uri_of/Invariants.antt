use Rattle.std.proofs.Common.{◌≡◌, string_bytes, take}
use Rattle.ot_file_diagnosis.specs.Escapes.{uri_text}
use Rattle.ot_file_diagnosis.proofs.escape.uri_of.Given as goal

abbrev pub invariant-loop-byte : goal.invariant-loop-byte
invariant-loop-byte l = string_bytes l.uri ≡ uri_text (take l.byte-index l.byte-items)
