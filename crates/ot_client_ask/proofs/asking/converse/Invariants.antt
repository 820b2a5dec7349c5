use Rattle.std.proofs.Common.{◌≡◌, ◌≤◌, Bool, length}
use Rattle.ot_client_ask.specs.Asking.{Talk, ways, tally_of}
use Rattle.ot_client_ask.specs.Exchanges.{asked_of}
use Rattle.ot_client_ask.proofs.TallyLemmas.{Calm}
use Rattle.ot_client_ask.proofs.asking.converse.Given as goal

-- the lines so far are answered, one each turn, and counted, and none of them was to stop the session
abbrev pub invariant-loop : goal.invariant-loop
invariant-loop g l =
    (is_refused : Bool)
    × (talk : Talk g.M.Remarker.says (ways (g.T.LineSource.coming l.initial.typed) (g.H.LineSource.coming l.initial.heard) (g.W.Sink.draft l.initial.wire) (g.P.Sink.draft l.initial.printed))
    (ways (g.T.LineSource.coming l.typed) (g.H.LineSource.coming l.heard) (g.W.Sink.draft l.wire) (g.P.Sink.draft l.printed)) is_refused)
    × (length talk.lines ≡ l.counter)
    × (l.asked ≡ asked_of is_refused)
    × (l.tally ≡ tally_of talk.replies)
    × Calm l.stop is_refused talk.replies
    × (l.tally.lines ≡ l.counter)
    × (l.tally.refused ≤ l.counter)
