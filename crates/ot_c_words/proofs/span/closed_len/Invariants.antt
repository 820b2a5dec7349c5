use Rattle.std.proofs.Common.{◌≡◌, ◌+◌, drop}
use Rattle.std.specs.Prelude.{option_map}
use Rattle.ot_c_words.specs.Spans.{closed_len}
use Rattle.ot_c_words.proofs.span.closed_len.Given as goal

-- what is left tells whether the mark comes, and where
abbrev pub invariant-loop-i : goal.invariant-loop-i
invariant-loop-i l = option_map (λ n. l.i + n) (closed_len l.mark (drop l.i l.bytes)) ≡ closed_len l.mark l.bytes
