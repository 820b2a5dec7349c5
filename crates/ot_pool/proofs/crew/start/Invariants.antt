use Rattle.std.proofs.Common.{◌≡◌, ◌≤◌, ◌+◌}
use Rattle.std.specs.Prelude.{vec_len, vec_capacity}
use Rattle.std.specs.List.{All}
use Rattle.ot_pool.proofs.crew.start.Given as goal

abbrev pub invariant-loop-share : goal.invariant-loop-share
invariant-loop-share g l =
    (vec_len l.shares ≤ 16) × All (λ s. s.parts ≡ 1) l.shares.items
    × (vec_len l.threads + vec_len l.shares ≤ vec_len l.fn.shares) × (vec_len l.fn.shares ≤ vec_capacity l.threads)

abbrev pub decreases-loop-share : goal.decreases-loop-share
decreases-loop-share g l = goal.left-loop-share g l
