use Rattle.std.proofs.Common.{◌≡◌, ◌+◌, ◌≤◌, ◌++◌, List, ℕ, length}
use Rattle.std.specs.Prelude.{All}
use Rattle.std.specs.List.{concat}
use Rattle.ot_client_ask.specs.Streams.{IsWhole, link}
use Rattle.ot_client_keep.specs.Files.{AreLines}
use Rattle.ot_client_keep.specs.Saving.{AreTaken}
use Rattle.ot_client_keep.proofs.restoring.send_lines.Given as goal

-- the lines before the rest are taken
abbrev pub invariant-loop-at : goal.invariant-loop-at
invariant-loop-at g l =
    (lines : List (List ℕ))
    × All IsWhole lines
    × (concat lines ++ l.rest ≡ l.session)
    × AreLines l.rest
    × AreTaken lines (link (g.H.LineSource.coming l.fn.heard) (g.W.Sink.draft l.fn.wire))
    (link (g.H.LineSource.coming l.heard) (g.W.Sink.draft l.wire))
    × (l.taken ≡ length lines)
    × (length lines + length l.rest ≤ length l.session)

abbrev pub decreases-loop-at : goal.decreases-loop-at
decreases-loop-at g l = length l.rest
