use Rattle.std.proofs.Common.{◌≡◌, sym, subst, arith, rules}
use Rattle.ot_model.specs.View.{stmts_of}
use Rattle.ot_model.proofs.CountsLemmas.{tasks_in-≤-size}
use Rattle.ot_show_graph.specs.Graphs.{marks_of}
use Rattle.ot_show_graph.specs.Passing.{passed_by, AwaitExactly}
use Rattle.ot_show_graph.proofs.UnawaitedLemmas.{await-exactly}
use Rattle.ot_show_graph.proofs.graph.graph_of.Goals as goal

pub run_all-requires-clause-tasks_fit : goal.run_all-requires-clause-tasks_fit
run_all-requires-clause-tasks_fit c =
    let p = c.checked-checked.result.now.program in
    omega (arith, tasks_in-≤-size (stmts_of p.body.items), p.statements_are, p.few)

pub returns-clause-awaited : goal.returns-clause-awaited
returns-clause-awaited c =
    let p = c.checked-checked.result.now.program in
    let passed : marks_of c.run_all.new.run.marks.items ≡ passed_by (stmts_of p.body.items) c.args.spec.now.before = search rules in
    subst AwaitExactly (sym passed) (await-exactly (stmts_of p.body.items) c.args.spec.now.before)
