use Rattle.std.proofs.Common.{◌≡◌, ℕ, List, ◌++◌}
use Rattle.std.specs.Io.KnownBytes.{Appends}
use Rattle.ot_sim.specs.Playing.{reply_lines}
use Rattle.ot_sim.proofs.play.tell_replies.Given as goal

-- what is written, and the lines of the rest behind it
abbrev pub invariant-loop-reply : goal.invariant-loop-reply
invariant-loop-reply g l =
    (text : List ℕ)
    × Appends (g.W.Sink.draft l.initial.sink).held (g.W.Sink.draft l.sink).held text
    × (text ++ reply_lines l.name l.reply-iterator ≡ reply_lines l.name l.initial.reply-iterator)
    × ((g.W.Sink.draft l.sink).failures ≡ (g.W.Sink.draft l.initial.sink).failures)
