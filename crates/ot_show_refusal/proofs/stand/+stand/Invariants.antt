use Rattle.std.proofs.Common.{◌≡◌, ◌+◌, ◌++◌, drop}
use Rattle.ot_model.specs.View.{stmts_of}
use Rattle.ot_model.specs.Tree.{size}
use Rattle.ot_show_refusal.specs.Stands.{stands}
use Rattle.ot_show_refusal.specs.StandView.{standings_of}
use Rattle.ot_show_refusal.proofs.stand.+stand.Given as goal

-- what is left of the body adds what the whole body adds, and ends where it does
abbrev pub invariant-put_all-loop-stmt : goal.invariant-put_all-loop-stmt
invariant-put_all-loop-stmt l = record {
  next : l.next + size (stmts_of (drop l.stmt-index l.body.items)) ≡ l.place + size (stmts_of l.body.items);
  found : standings_of l.found.items ++ stands l.owner l.next (stmts_of (drop l.stmt-index l.body.items))
      ≡ standings_of l.initial.found.items ++ stands l.owner l.place (stmts_of l.body.items);
}
