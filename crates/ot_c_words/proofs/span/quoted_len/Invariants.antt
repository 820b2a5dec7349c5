use Rattle.std.proofs.Common.{◌≡◌, ◌+◌, drop, false}
use Rattle.std.specs.Prelude.{option_map}
use Rattle.ot_c_words.specs.Spans.{quoted_len}
use Rattle.ot_c_words.proofs.span.quoted_len.Given as goal

-- what is left tells whether the string ends, and where
abbrev pub invariant-loop-i : goal.invariant-loop-i
invariant-loop-i l = option_map (λ n. l.i + n) (quoted_len l.taken (drop l.i l.bytes)) ≡ quoted_len false l.bytes
