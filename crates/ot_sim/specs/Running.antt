-- Sim in the middle of a line, and a whole run of it.
use Rattle.std.specs.Prelude.{◌≡◌, [], ◌≤◌, ℕ, List, ◌∷◌, ◌++◌, Option, Result, Err, ⊤, ◌≢◌, zero, suc, Some, OnOk}
use Rattle.std.specs.Io.KnownBytes.{Appends, IsAtEnd}
use Rattle.ot_lines.specs.Lines.{Flow, next_count, count_after}
use Rattle.ot_session.specs.Serving.{Draft}
use Rattle.ot_sim.specs.declared.play.Play.{Play}
use Rattle.ot_sim.specs.declared.fault.SimFault.{SimFault}
use Rattle.ot_sim.specs.Playing.{PlaysLine, count_at, world_of}
use Rattle.ot_lines.specs.declared.lines.Bounds.{Bounds}
use Rattle.ot_core.specs.Scenes.{Scene}
use Rattle.ot_sim.specs.declared.fault.SimFault.TheVariants as fault
use Rattle.ot_sim.specs.declared.fault.Untold.{Untold}
use Rattle.ot_sim.specs.declared.fault.Untold.TheVariants as untold
use Rattle.ot_sim.specs.Talk.{TalksOver}

-- what sim answers that stops at a line
abbrev pub untold_fault : Untold → SimFault
untold_fault untold.WriteFailed = fault.WriteFailed
untold_fault untold.Memory = fault.Memory

-- how many writes failed
abbrev pub untold_writes : Result ⊤ Untold → ℕ
untold_writes (Err untold.WriteFailed) = 1
untold_writes result = 0

-- a text is written of which this holds
abbrev pub WritesText : Option (List ℕ) → Option (List ℕ) → (List ℕ → Type 0) → Type 0
WritesText old new Holds = (text : List ℕ) × Holds text × Appends old new text

-- the world has begun
abbrev pub world_begun : Play → Play
world_begun p = record { names = p.names; world = Some (world_of p) }

-- how many replies the first so many tenants were given
abbrev pub counts_at : Scene → ℕ → List ℕ
counts_at s zero = []
counts_at s (suc t) = counts_at s t ++ count_at s t ∷ []

-- ---- a whole run

-- lines of at most 65,600 bytes, 65,536 bytes a read, and 1,000,000 reads
abbrev pub sim_bounds : Bounds
sim_bounds = record { line = 65600; read = 65536; reads = 1000000 }

-- a line without its LF, by what it came to
pub record PlaysHeldLine (old : Play) (earlier : Draft) (line : List ℕ) (new : Play) (later : Draft) (result : Result ⊤ Untold) : Type 0 where
  pub plays : OnOk result (WritesText earlier.held later.held (λ text. PlaysLine old line text new))
  pub failures : later.failures ≡ count_after (untold_writes result) earlier.failures

-- a run over what a source and a sink tell of themselves, before it and after it
pub record IsSimRun (before after : Flow) (earlier later : Draft) (result : Result ⊤ SimFault) : Type 0 where
  pub talks : TalksOver before.ahead after.ahead earlier.held later.held result
  pub reads : (k : ℕ) × (k ≤ 1000000) × (after.reads ≡ count_after k before.reads)
  pub turns : result ≡ Err fault.TooManyTurns → after.reads ≡ count_after 1000000 before.reads
  pub at_end : OnOk result (IsAtEnd after.ahead)
  pub end_told : OnOk result (after.ends ≡ next_count before.ends)
  pub read_failed : result ≡ Err fault.ReadFailed → after.failures ≡ next_count before.failures
  pub read_worked : result ≢ Err fault.ReadFailed → after.failures ≡ before.failures
  pub write_failed : result ≡ Err fault.WriteFailed → later.failures ≡ next_count earlier.failures
  pub write_worked : result ≢ Err fault.WriteFailed → later.failures ≡ earlier.failures
