use Rattle.std.proofs.Common.{◌≡◌, drop}
use Rattle.ot_c_statements.specs.Tree.{body_of, list_of}
use Rattle.ot_c_program.specs.Regions.{has_group}
use Rattle.ot_c_program.proofs.region.+groups.Given as goal

-- none stands in those that were passed
abbrev pub invariant-has_group-loop-stmt : goal.invariant-has_group-loop-stmt
invariant-has_group-loop-stmt l = has_group (body_of (list_of (drop l.stmt-index l.stmts))) ≡ has_group (body_of (list_of l.stmts))
