use Rattle.std.proofs.Common.{◌≡◌, ◌++◌, ℕ, take}
use Rattle.std.specs.Prelude.{replicate}
use Rattle.ot_depend.specs.Siblings.{times}
use Rattle.ot_show_graph.specs.Written.{cells_with}
use Rattle.ot_show_graph.proofs.met.put_all.Given as goal

abbrev pub invariant-loop-child : goal.invariant-loop-child
invariant-loop-child l = (e : ℕ) → cells_with l.met e ≡ cells_with l.initial.met e ++ replicate (times e (take l.child-index l.children)) l.cell
