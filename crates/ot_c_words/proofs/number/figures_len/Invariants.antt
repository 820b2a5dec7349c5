use Rattle.std.proofs.Common.{◌≡◌, ◌+◌, drop}
use Rattle.ot_c_words.specs.Numbers.{figures_len}
use Rattle.ot_c_words.proofs.number.figures_len.Given as goal

-- what is left tells how many
abbrev pub invariant-loop-i : goal.invariant-loop-i
invariant-loop-i l = l.i + figures_len l.fn.base (drop l.i l.text) ≡ figures_len l.fn.base l.text
