use Rattle.std.proofs.Common.{◌≡◌, ◌+◌, drop}
use Rattle.ot_model.specs.View.{stmts_of}
use Rattle.ot_model.specs.Tree.{size}
use Rattle.ot_exec_outline.specs.Tree.{outline}
use Rattle.ot_exec_outline.specs.View.{steps_in}
use Rattle.ot_exec_outline.specs.Appended.{append_steps}
use Rattle.ot_exec_outline.proofs.outline.+outline.Given as goal

-- what is left, behind what stands, is the whole
abbrev pub invariant-outline-loop-stmt : goal.invariant-outline-loop-stmt
invariant-outline-loop-stmt l =
    (append_steps (steps_in l.steps.items) (outline l.next (stmts_of (drop l.stmt-index l.body.items))) ≡ outline l.initial.next (stmts_of l.body.items))
    × (l.next + size (stmts_of (drop l.stmt-index l.body.items)) ≡ l.initial.next + size (stmts_of l.body.items))
