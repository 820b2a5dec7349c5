use Rattle.std.proofs.Common.{◌≡◌, ◌+◌, drop}
use Rattle.std.specs.Prelude.{option_map}
use Rattle.ot_c_words.specs.Spans.{comment_len}
use Rattle.ot_c_words.proofs.span.comment_len.Given as goal

-- what is left tells whether the comment ends, and where
abbrev pub invariant-loop-i : goal.invariant-loop-i
invariant-loop-i l = option_map (λ n. l.i + n) (comment_len (drop l.i l.bytes)) ≡ comment_len l.bytes
