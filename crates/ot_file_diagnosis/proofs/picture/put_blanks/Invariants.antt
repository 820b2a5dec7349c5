use Rattle.std.proofs.Common.{◌≡◌, ◌++◌, replicate}
use Rattle.ot_file_diagnosis.proofs.picture.put_blanks.Given as goal

abbrev pub invariant-loop-column : goal.invariant-loop-column
invariant-loop-column l = l.out.items ≡ l.fn.out.items ++ replicate l._column 32
