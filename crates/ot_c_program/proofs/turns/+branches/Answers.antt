use Rattle.ot_c_program.proofs.TurnLemmas.{branch_found, branch_passed, branch_none}
use Rattle.ot_c_program.proofs.turns.+branches.Goals as goal

pub has_branch-loop-stmt-preserved : goal.has_branch-loop-stmt-preserved
has_branch-loop-stmt-preserved t c =
    branch_passed c.args.stmts.now c.loop-stmt.stmt-index c.stmt-item.result c.has_branch_one.result c.loop-stmt-test.true c.stmt-item.is c.has_branch_one.ensures c.if-has_branch_one.false c.loop-stmt.invariant

pub has_branch-returns-then-has_branch_one : goal.has_branch-returns-then-has_branch_one
has_branch-returns-then-has_branch_one t c =
    branch_found c.args.stmts.now c.loop-stmt.stmt-index c.stmt-item.result c.has_branch_one.result c.loop-stmt-test.true c.stmt-item.is c.has_branch_one.ensures c.if-has_branch_one.true c.loop-stmt.invariant

pub has_branch-returns : goal.has_branch-returns
has_branch-returns t c = branch_none c.args.stmts.now c.loop-stmt.stmt-index c.loop-stmt-test.false c.loop-stmt.invariant
