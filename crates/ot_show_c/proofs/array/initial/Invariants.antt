use Rattle.std.proofs.Common.{◌≡◌, ◌++◌, drop}
use Rattle.std.specs.Prelude.{codes}
use Rattle.ot_show_c.specs.Programs.{further_numbers, initial}
use Rattle.ot_show_c.proofs.array.initial.Given as goal

-- those that are left follow
abbrev pub invariant-loop-number : goal.invariant-loop-number
invariant-loop-number l =
    (l.out.names ≡ l.fn.out.names)
    × (l.out.text ++ further_numbers (drop l.number-index l.number-items) ++ codes "}" ≡ l.fn.out.text ++ initial l.numbers)
