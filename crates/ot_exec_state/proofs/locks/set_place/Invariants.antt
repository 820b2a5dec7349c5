use Rattle.std.proofs.Common.{◌≡◌, ◌+◌, drop, map}
use Rattle.ot_exec_state.specs.Locks.{set_place}
use Rattle.ot_exec_state.proofs.locks.set_place.Given as goal

abbrev pub invariant-loop-one : goal.invariant-loop-one
invariant-loop-one l =
    (l.place ≡ l.one-index) × (l.place + set_place l.set (map (λ s. s.items) (drop l.one-index l.sets)) ≡ set_place l.set (map (λ s. s.items) l.sets))
