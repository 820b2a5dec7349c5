use Rattle.std.proofs.Common.{◌≡◌, ℕ, List, ◌++◌, ◌≤◌, length, drop, map}
use Rattle.std.specs.Prelude.{string_bytes}
use Rattle.std.specs.Io.KnownBytes.{Appends}
use Rattle.ot_core.specs.Scenes.{Scene}
use Rattle.ot_sim.specs.Playing.{news}
use Rattle.ot_sim.specs.Running.{counts_at}
use Rattle.ot_sim.proofs.play.tell_news.Given as goal

-- what is written, and the news of the rest behind it
abbrev pub invariant-loop-tenant : goal.invariant-loop-tenant
invariant-loop-tenant g l =
    ((old : Scene) → l.given ≡ counts_at old (length l.names) →
    (text : List ℕ)
    × Appends (g.W.Sink.draft l.initial.sink).held (g.W.Sink.draft l.sink).held text
    × (text ++ news (drop l.tenant (map string_bytes l.name-items)) l.tenant old l.world ≡ news l.names 0 old l.world))
    × ((g.W.Sink.draft l.sink).failures ≡ (g.W.Sink.draft l.initial.sink).failures)
    × (length l.name-items ≤ 64)
    × (length l.name-items ≡ length l.given)
