use Rattle.std.proofs.Common.{◌≡◌, ◌+◌}
use Rattle.std.specs.Prelude.{vec_len}
use Rattle.std.specs.List.{All}
use Rattle.ot_pool.proofs.pool.Pool.new.Given as goal

abbrev pub invariant-loop : goal.invariant-loop
invariant-loop g l =
    (l.rest.parts + l.counter ≡ l.workers) × (l.rest.amount ≡ 0) × (vec_len l.shares ≡ l.counter)
    × All (λ s. (s.parts ≡ 1) × (s.amount ≡ 0)) l.shares.items
