use Rattle.std.proofs.Common.{◌≡◌, ◌+◌, drop}
use Rattle.std.specs.List.{prefix_len}
use Rattle.ot_c_words.specs.Names.{in_name}
use Rattle.ot_c_words.proofs.span.name_len.Given as goal

-- what is left tells how many
abbrev pub invariant-loop-i : goal.invariant-loop-i
invariant-loop-i l = l.i + prefix_len in_name (drop l.i l.bytes) ≡ prefix_len in_name l.bytes
