use Rattle.std.proofs.Common.{◌≡◌, ◌+◌}
use Rattle.std.specs.List.{sum_by}
use Rattle.ot_pool.proofs.hub.merged.Given as goal

abbrev pub invariant-loop-share : goal.invariant-loop-share
invariant-loop-share g l =
    (l.all.parts + sum_by (λ s. s.parts) l.shares.items ≡ sum_by (λ s. s.parts) l.fn.shares.items)
    × (l.all.amount + sum_by (λ s. s.amount) l.shares.items ≡ sum_by (λ s. s.amount) l.fn.shares.items)

abbrev pub decreases-loop-share : goal.decreases-loop-share
decreases-loop-share g l = goal.left-loop-share g l
