use Rattle.std.proofs.Common.{◌≡◌, drop}
use Rattle.ot_c_expressions.specs.Tree.{clauses_of}
use Rattle.ot_c_program.specs.Regions as meant
use Rattle.ot_c_program.proofs.region.listed.Given as goal

-- those that are left complete what there is
abbrev pub invariant-loop-clause : goal.invariant-loop-clause
invariant-loop-clause l = meant.shown_clauses l.meanings l.seen.items (clauses_of (drop l.clause-index l.clauses)) ≡ meant.meanings_listed l.meanings (clauses_of l.clauses)
