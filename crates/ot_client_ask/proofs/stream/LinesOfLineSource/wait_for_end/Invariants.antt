use Rattle.std.proofs.Common.{◌≡◌}
use Rattle.ot_client_ask.proofs.stream.LinesOfLineSource.wait_for_end.Given as goal

-- it has neither told its end so far, nor failed
abbrev pub invariant-loop : goal.invariant-loop
invariant-loop g l = (l.self.ends ≡ l.initial.self.ends) × (l.self.failures ≡ l.initial.self.failures)
