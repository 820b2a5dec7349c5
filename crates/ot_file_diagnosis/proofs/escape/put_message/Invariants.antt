use Rattle.std.proofs.Common.{◌≡◌, ◌++◌, take}
use Rattle.ot_file_diagnosis.specs.Escapes.{message_text}
use Rattle.ot_file_diagnosis.proofs.escape.put_message.Given as goal

abbrev pub invariant-loop-byte : goal.invariant-loop-byte
invariant-loop-byte l = l.out.items ≡ l.fn.out.items ++ message_text (take l.byte-index l.message)
