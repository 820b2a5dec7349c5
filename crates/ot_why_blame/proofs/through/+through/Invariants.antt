use Rattle.std.proofs.Common.{◌≡◌, drop}
use Rattle.ot_model.specs.View.{stmts_of}
use Rattle.ot_check.specs.Discipline.{through}
use Rattle.ot_why_blame.proofs.through.+through.Given as goal

abbrev pub invariant-through-loop-stmt : goal.invariant-through-loop-stmt
invariant-through-loop-stmt l = through l.decl (stmts_of l.body.items) ≡ through l.decl (stmts_of (drop l.stmt-index l.body.items))
