use Rattle.std.proofs.Common.{◌≡◌, ◌≤◌, [], length, map, min, subst}
use Rattle.std.specs.Prelude.{◌↔◌}
use Rattle.ot_model.specs.Programs.{arrays_of, expanded_of}
use Rattle.ot_show_c.specs.Programs.{lists_of}
use Rattle.ot_show_c.proofs.DeclaredLemmas.{left, none_left}
use Rattle.ot_c_arrays.specs.Arrays.{c_array}
use Rattle.ot_c_printed.specs.Printed.{starting_array, named_arrays}
use Rattle.ot_c_printed.proofs.ArrayLemmas.{empty_decides}
use Rattle.ot_c_printed.proofs.arrays.same_arrays.Goals as goal

pub returns : goal.returns
returns c =
    let p = expanded_of c.args.program.now in
    let xs = c.args.arrays.now in
    let vs = c.args.before.now in
    let whole = map c_array c.args.back.now ≡ named_arrays (arrays_of xs) (lists_of vs) p in
    let behind : min (length xs) (length vs) ≤ c.loop-number.number = subst (λ n. n ≤ c.loop-number.number) c.min-number-end.ensures c.loop-number-test.false in
    empty_decides c.loop-number.rest.now c.is_empty.result whole c.is_empty.ensures
    (subst (λ ds. (map c_array c.loop-number.rest.now ≡ map starting_array ds) ↔ whole) (none_left p c.loop-number.number xs vs behind) c.loop-number.invariant)
