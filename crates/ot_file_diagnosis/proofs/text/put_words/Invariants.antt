use Rattle.std.proofs.Common.{◌≡◌, ◌++◌, map, take}
use Rattle.ot_file_diagnosis.specs.Texts.{one_line_byte}
use Rattle.ot_file_diagnosis.proofs.text.put_words.Given as goal

abbrev pub invariant-loop-byte : goal.invariant-loop-byte
invariant-loop-byte l = l.out.items ≡ l.fn.out.items ++ map one_line_byte (take l.byte-index l.words)
