use Rattle.std.proofs.Common.{◌≡◌, ◌+◌, drop}
use Rattle.std.specs.Prelude.{option_map}
use Rattle.ot_model.specs.View.{stmts_of}
use Rattle.ot_model.specs.Tree.{size}
use Rattle.ot_c_judge.specs.Lacks.{stood_in_body}
use Rattle.ot_c_judge.specs.Fits.{Fits}
use Rattle.ot_c_judge.proofs.found.+find.Given as goal

abbrev pub invariant-find_in-loop-stmt : goal.invariant-find_in-loop-stmt
invariant-find_in-loop-stmt l = record {
  next : l.next + size (stmts_of (drop l.stmt-index l.body.items)) ≡ l.place + size (stmts_of l.body.items);
  fits : Fits (stmts_of (drop l.stmt-index l.body.items));
  found : stood_in_body l.goal (option_map (λ d. d.now) l.own) l.place (stmts_of l.body.items) ≡ stood_in_body l.goal (option_map (λ d. d.now) l.own) l.next (stmts_of (drop l.stmt-index l.body.items));
}
