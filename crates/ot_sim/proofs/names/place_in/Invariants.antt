use Rattle.std.proofs.Common.{◌≡◌, ◌+◌, ◌≤◌, length, map}
use Rattle.std.specs.Prelude.{option_map, string_bytes}
use Rattle.ot_sim.specs.Playing.{tenant_place}
use Rattle.ot_sim.proofs.names.place_in.Given as goal

-- the name isn't among those before the rest
abbrev pub invariant-loop-rest : goal.invariant-loop-rest
invariant-loop-rest l =
    (tenant_place (map string_bytes l.names) l.name ≡ option_map (λ k. l.place + k) (tenant_place (map string_bytes l.rest) l.name))
    × (l.place + length l.rest ≤ 64)

abbrev pub decreases-loop-rest : goal.decreases-loop-rest
decreases-loop-rest l = length l.rest
