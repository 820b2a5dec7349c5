use Rattle.std.proofs.Common.{◌≡◌, ◌++◌, take}
use Rattle.ot_show_races.specs.Pictures.{quoted_text}
use Rattle.ot_show_races.proofs.drawing.put_quoted.Given as goal

abbrev pub invariant-loop-byte : goal.invariant-loop-byte
invariant-loop-byte l = l.out.items ≡ l.fn.out.items ++ quoted_text (take l.byte-index l.text)
