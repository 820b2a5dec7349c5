use Rattle.std.proofs.Common.{◌≡◌, drop, false}
use Rattle.ot_c_words.specs.Spans.{spliced_behind}
use Rattle.ot_c_words.proofs.span.is_spliced.Given as goal

-- what is left decides
abbrev pub invariant-loop-byte : goal.invariant-loop-byte
invariant-loop-byte l = spliced_behind l.spliced (drop l.byte-index l.line) ≡ spliced_behind false l.line
