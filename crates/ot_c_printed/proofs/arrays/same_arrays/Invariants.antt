use Rattle.std.proofs.Common.{◌≡◌, map}
use Rattle.std.specs.Prelude.{◌↔◌}
use Rattle.ot_model.specs.Programs.{arrays_of, expanded_of}
use Rattle.ot_show_c.specs.Programs.{lists_of}
use Rattle.ot_show_c.proofs.DeclaredLemmas.{left}
use Rattle.ot_c_arrays.specs.Arrays.{c_array}
use Rattle.ot_c_printed.specs.Printed.{starting_array, named_arrays}
use Rattle.ot_c_printed.proofs.arrays.same_arrays.Given as goal

-- those that are left decide
abbrev pub invariant-loop-number : goal.invariant-loop-number
invariant-loop-number l =
    (map c_array l.rest ≡ map starting_array (left (expanded_of l.program) l.number l.arrays l.before))
    ↔ (map c_array l.back ≡ named_arrays (arrays_of l.arrays) (lists_of l.before) (expanded_of l.program))
