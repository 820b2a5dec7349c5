use Rattle.std.proofs.Common.{◌≡◌}
use Rattle.std.specs.Io.KnownBytes.{Consumes, prepend_known}
use Rattle.ot_lines.specs.Lines.{HasNoEnd}
use Rattle.ot_client_ask.proofs.stream.LinesOfLineSource.read_line.Given as goal

-- pieces of one line were heard, and neither the end nor a failure
abbrev pub invariant-loop : goal.invariant-loop
invariant-loop g l =
    Consumes (prepend_known l.initial.self.lines.ahead (g.R.Source.flow l.initial.self.source).ahead) (prepend_known l.self.lines.ahead (g.R.Source.flow l.self.source).ahead) l.line.items
    × HasNoEnd l.line.items
    × (l.self.ends ≡ l.initial.self.ends)
    × (l.self.failures ≡ l.initial.self.failures)
