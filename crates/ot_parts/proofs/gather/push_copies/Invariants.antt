use Rattle.std.proofs.Common.{◌≡◌, drop}
use Rattle.ot_model.specs.Tree.{append}
use Rattle.ot_parts.specs.Assigns.{assigns_of}
use Rattle.ot_parts.proofs.gather.push_copies.Given as goal

-- what is put there, with what is left
abbrev pub invariant-loop-assign : goal.invariant-loop-assign
invariant-loop-assign l =
    append (assigns_of l.run.items) (assigns_of (drop l.assign-index l.more)) ≡ append (assigns_of l.fn.run.items) (assigns_of l.more)
