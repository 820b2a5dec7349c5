use Rattle.std.proofs.Common.{◌≡◌, drop}
use Rattle.ot_c_words.specs.Spans.{has_trigraph}
use Rattle.ot_c_words.proofs.span.has_trigraph.Given as goal

-- what is left decides
abbrev pub invariant-loop-i : goal.invariant-loop-i
invariant-loop-i l = has_trigraph (drop l.i l.bytes) ≡ has_trigraph l.bytes
