use Rattle.std.proofs.Common.{arith}
use Rattle.std.proofs.lemmas.Result.{err_from_is_err_and}
use Rattle.ot_exec_outline.specs.Followed.{list_answer}
use Rattle.ot_exec_machine.specs.Runs.{run_steps}
use Rattle.ot_exec_machine.specs.View.{machine_state}
use Rattle.ot_exec_machine.proofs.RunLemmas.{goes, halts, stopped, too_long}
use Rattle.ot_exec_machine.proofs.machine.Machine.go.Goals as goal

pub returns-in_err-asked : goal.returns-in_err-asked
returns-in_err-asked c =
    let code = c.args.code.now in
    let l = c.args.limits in
    let p = list_answer c.args.answers.now in
    let e = err_from_is_err_and c.from_residual.result c.from_residual.ensures.1 in
    rw (e.1, e.2) (stopped c.in_err-asked.field-0.0 code l p l.steps c.loop.counter c.loop.asked (machine_state c.loop.self) (run_steps code l p l.steps 0 (machine_state c.args.self.now))
    c.loop-test.true c.loop.invariant.0 c.in_err-asked.ensures.told)

pub returns-then-self : goal.returns-then-self
returns-then-self c =
    let code = c.args.code.now in
    let l = c.args.limits in
    let p = list_answer c.args.answers.now in
    halts code l p l.steps c.loop.counter c.loop.asked c.in_ok-asked.asked (machine_state c.loop.self) (machine_state c.next.new.self) (run_steps code l p l.steps 0 (machine_state c.args.self.now))
    c.loop-test.true c.loop.invariant.0 c.in_ok-asked.ensures.told c.if-self.true

pub loop-preserved : goal.loop-preserved
loop-preserved c =
    let code = c.args.code.now in
    let l = c.args.limits in
    let p = list_answer c.args.answers.now in (
      goes code l p l.steps c.loop.counter c.loop.asked c.in_ok-asked.asked (machine_state c.loop.self) (machine_state c.next.new.self) (run_steps code l p l.steps 0 (machine_state c.args.self.now))
          c.loop-test.true c.loop.invariant.0 c.in_ok-asked.ensures.told c.if-self.false,
      omega (arith, c.loop.invariant.1, c.in_ok-asked.ensures.one),
    )

pub returns : goal.returns
returns c =
    let code = c.args.code.now in
    let l = c.args.limits in
    let p = list_answer c.args.answers.now in
    rw c.fault.ensures (too_long code l p l.steps c.loop.counter c.loop.asked (machine_state c.loop.self) (run_steps code l p l.steps 0 (machine_state c.args.self.now))
    c.loop-test.false c.loop.invariant.0)
