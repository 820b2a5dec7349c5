use Rattle.std.proofs.Common.{◌≡◌, ◌<◌, drop}
use Rattle.ot_c_words.specs.Numbers.{value_behind}
use Rattle.ot_c_words.proofs.number.value_of.Given as goal

-- the digits that are left complete the number
abbrev pub invariant-loop-digit : goal.invariant-loop-digit
invariant-loop-digit l = (value_behind l.fn.base l.value (drop l.digit-index l.digits) ≡ value_behind l.fn.base 0 l.digits) × (l.value < 18446744073709551616)
