use Rattle.std.proofs.Common.{◌≡◌, ◌≤◌, length, take, map, vec_len}
use Rattle.std.specs.Prelude.{string_bytes}
use Rattle.ot_core.specs.Openings.{opening_of}
use Rattle.ot_sim.specs.Playing.{newcomer}
use Rattle.ot_sim.proofs.names.Names.openings.Given as goal

abbrev pub invariant-loop-name : goal.invariant-loop-name
invariant-loop-name l =
    (vec_len l.openings ≡ l.name-index) × (length l.name-items ≤ 64)
    × (map opening_of l.openings.items ≡ map newcomer (map string_bytes (take l.name-index l.name-items)))
