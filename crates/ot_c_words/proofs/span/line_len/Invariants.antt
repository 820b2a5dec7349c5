use Rattle.std.proofs.Common.{◌≡◌, ◌+◌, drop}
use Rattle.ot_c_words.specs.Spans.{line_len}
use Rattle.ot_c_words.proofs.span.line_len.Given as goal

-- what is left tells how many
abbrev pub invariant-loop-i : goal.invariant-loop-i
invariant-loop-i l = l.i + line_len (drop l.i l.bytes) ≡ line_len l.bytes
