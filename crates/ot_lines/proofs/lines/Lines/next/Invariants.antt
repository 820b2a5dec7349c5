use Rattle.ot_lines.proofs.Hearing.{Begun}
use Rattle.ot_lines.proofs.lines.Lines.next.Given as goal

abbrev pub invariant-loop-heard : goal.invariant-loop-heard
invariant-loop-heard g l =
    Begun l.fn.self
    (g.R.Source.flow l.initial.source)
    l.self (g.R.Source.flow l.source)

abbrev pub decreases-loop-heard : goal.decreases-loop-heard
decreases-loop-heard g l = l.self.left
