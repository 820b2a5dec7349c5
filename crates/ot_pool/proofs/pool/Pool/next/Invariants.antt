use Rattle.std.proofs.Common.{◌≡◌, ◌<◌}
use Rattle.ot_pool.proofs.pool.Pool.next.Given as goal

abbrev pub invariant-loop : goal.invariant-loop
invariant-loop g l =
    (goal.iterator-loop g).can_next l.iterator' × (goal.iterator-loop g).is_finite l.iterator'
    × (0 < l.share.parts) × (l.share.parts ≡ l.initial.share.parts)
