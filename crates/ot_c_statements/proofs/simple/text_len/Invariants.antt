use Rattle.std.proofs.Common.{◌≡◌, ◌+◌, drop}
use Rattle.std.specs.List.{prefix_len}
use Rattle.ot_c_statements.specs.Simple.{is_text}
use Rattle.ot_c_statements.proofs.simple.text_len.Given as goal

-- what is left tells how many
abbrev pub invariant-loop-i : goal.invariant-loop-i
invariant-loop-i l = l.i + prefix_len is_text (drop l.i l.words) ≡ prefix_len is_text l.words
