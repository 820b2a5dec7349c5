use Rattle.std.proofs.Common.{◌≡◌, ◌++◌, drop}
use Rattle.std.specs.Prelude.{◌||◌}
use Rattle.ot_model.specs.Programs.{expanded_of, arrays_of}
use Rattle.ot_show_c.specs.Programs.{any_declared, each_declared, declared_from, lists_of}
use Rattle.ot_show_c.proofs.whole.declarations.Given as goal

-- those that are left follow
abbrev pub invariant-loop-number : goal.invariant-loop-number
invariant-loop-number l =
    let p = expanded_of l.program in
    let left = declared_from p l.number (arrays_of (drop l.number l.arrays)) (lists_of (drop l.number l.before)) in
    let all = declared_from p 0 (arrays_of l.arrays) (lists_of l.before) in
    (l.out.names ≡ l.fn.out.names)
    × (l.out.text ++ each_declared l.margin left ≡ l.fn.out.text ++ each_declared l.margin all)
    × ((l.any || any_declared left) ≡ any_declared all)
