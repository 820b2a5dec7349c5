use Rattle.std.proofs.Common.{[]}
use Rattle.ot_lines.specs.Lines.{Through}
use Rattle.ot_lines.proofs.Listening.{to_come}
use Rattle.ot_lines.proofs.listener.listen.Given as goal

abbrev pub invariant-loop-fault : goal.invariant-loop-fault
invariant-loop-fault g l =
    Through g.L.Listener.took l.initial.lines
    (g.R.Source.flow l.initial.source)
    l.initial.state l.initial.answers l.lines
    (g.R.Source.flow l.source)
    l.state l.answers [] 0 0

abbrev pub decreases-loop-fault : goal.decreases-loop-fault
decreases-loop-fault g l = to_come l.lines
