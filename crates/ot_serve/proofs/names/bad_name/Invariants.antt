use Rattle.std.proofs.Common.{◌≡◌, length, map}
use Rattle.std.specs.Prelude.{string_bytes}
use Rattle.ot_serve.specs.Serving.{are_tenants, first_bad}
use Rattle.ot_serve.proofs.names.bad_name.Given as goal

-- the first bad name is that of the rest, and they are names of tenants where the rest are
abbrev pub invariant-loop-rest : goal.invariant-loop-rest
invariant-loop-rest l =
    (first_bad (map string_bytes l.names) ≡ first_bad (map string_bytes l.rest))
    × (are_tenants (map string_bytes l.names) ≡ are_tenants (map string_bytes l.rest))

abbrev pub decreases-loop-rest : goal.decreases-loop-rest
decreases-loop-rest l = length l.rest
