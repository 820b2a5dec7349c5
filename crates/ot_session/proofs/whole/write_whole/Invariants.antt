use Rattle.std.proofs.Common.{◌-◌, ◌≤◌, length, take}
use Rattle.ot_session.specs.Serving.{Writes}
use Rattle.ot_session.proofs.whole.write_whole.Given as goal

-- the first `at` bytes went out, each once, and nothing failed
abbrev pub invariant-loop-at : goal.invariant-loop-at
invariant-loop-at g l =
    (l.at ≤ length l.bytes)
    × Writes (g.W.Sink.draft l.initial.sink) (g.W.Sink.draft l.sink) (take l.at l.bytes)

abbrev pub decreases-loop-at : goal.decreases-loop-at
decreases-loop-at g l = length l.bytes - l.at
