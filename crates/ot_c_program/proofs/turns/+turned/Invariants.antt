use Rattle.std.proofs.Common.{◌≡◌, ◌∷◌, ◌-◌, drop, length}
use Rattle.std.specs.List.{range_with_len}
use Rattle.ot_c_statements.specs.Tree.{body_of, list_of}
use Rattle.ot_why_place.specs.Spots.{trail_bindings}
use Rattle.ot_c_arrays.specs.Each.{each_or_refused}
use Rattle.ot_c_lines.specs.Lines.{lines_of, none}
use Rattle.ot_c_program.specs.Statements.{bounds_of, source_of}
use Rattle.ot_c_program.specs.Turns.{turn_step, turned_from}
use Rattle.ot_c_program.proofs.turns.+turned.Given as goal

-- those that are left complete what there is
abbrev pub invariant-turned_body-loop-stmt : goal.invariant-turned_body-loop-stmt
invariant-turned_body-loop-stmt l =
    turned_from (source_of l.course.source) (trail_bindings l.course.numbers) l.scope (lines_of l.lines) (body_of (list_of (drop l.stmt-index l.stmts)))
    ≡ turned_from (source_of l.course.source) (trail_bindings l.course.numbers) l.scope none (body_of (list_of l.stmts))

-- the turns that are left complete the loop
abbrev pub invariant-looped-loop-number : goal.invariant-looped-loop-number
invariant-looped-loop-number l =
    let step = turn_step l.course.source.words l.whole.left (bounds_of l.whole.bounds.now)
    (λ k. turned_from (source_of l.course.source) ((l.whole.name.now, k) ∷ trail_bindings l.course.numbers) l.around none (body_of (list_of l.stmts))) in
    each_or_refused step (lines_of l.lines) (range_with_len l.number (l.fn.range.1 - l.number)) ≡ each_or_refused step none (range_with_len l.fn.range.0 (l.fn.range.1 - l.fn.range.0))
