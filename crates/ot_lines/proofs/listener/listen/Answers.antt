use Rattle.std.proofs.Common.{List, ℕ, subst}
use Rattle.std.specs.Prelude.{Ok, Err}
use Rattle.ot_lines.proofs.Listening.{through_nothing, goes_on, stops, ends, ends_long, ends_fault, fewer}
use Rattle.ot_lines.proofs.listener.listen.Goals as goal

pub loop-fault-init : goal.loop-fault-init
loop-fault-init g c = through_nothing g.L.Listener.took c.args.lines.now _ c.args.state.now c.args.answers.now

pub returns-in-Ok-End : goal.returns-in-Ok-End
returns-in-Ok-End g c = ends g.L.Listener.took c.loop-fault.invariant (rw c.in-Ok-End.field-0-is at c.in-Ok-End.ensures)

pub returns-in-Ok-Long : goal.returns-in-Ok-Long
returns-in-Ok-Long g c = ends_long g.L.Listener.took c.loop-fault.invariant (rw c.in-Ok-Long.field-0-is at c.in-Ok-Long.ensures)

pub returns-in-Err : goal.returns-in-Err
returns-in-Err g c = ends_fault g.L.Listener.took c.in-Err.fault c.loop-fault.invariant c.in-Err.ensures

pub returns-in-Err-take : goal.returns-in-Err-take
returns-in-Err-take g c =
    stops g.L.Listener.took c.take.new.state c.take.new.answers c.in-Err-take.why c.loop-fault.invariant (rw c.in-Ok-Line.field-0-is at c.in-Ok-Line.ensures)
    (subst (λ (line : List ℕ). g.L.Listener.took c.loop-fault.state c.loop-fault.answers line c.take.new.state c.take.new.answers (Err c.in-Err-take.why)) c.line.ensures c.in-Err-take.ensures)

pub loop-fault-smaller : goal.loop-fault-smaller
loop-fault-smaller g c = fewer (rw c.in-Ok-Line.field-0-is at c.in-Ok-Line.ensures)

pub loop-fault-preserved : goal.loop-fault-preserved
loop-fault-preserved g c =
    goes_on g.L.Listener.took c.take.new.state c.take.new.answers c.loop-fault.invariant (rw c.in-Ok-Line.field-0-is at c.in-Ok-Line.ensures)
    (subst (λ (line : List ℕ). g.L.Listener.took c.loop-fault.state c.loop-fault.answers line c.take.new.state c.take.new.answers (Ok tt)) c.line.ensures c.in_default.ensures)
