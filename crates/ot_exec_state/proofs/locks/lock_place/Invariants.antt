use Rattle.std.proofs.Common.{◌≡◌, ◌+◌, drop}
use Rattle.ot_exec_state.specs.Locks.{lock_place}
use Rattle.ot_exec_state.proofs.locks.lock_place.Given as goal

abbrev pub invariant-loop-one : goal.invariant-loop-one
invariant-loop-one l = (l.place ≡ l.one-index) × (l.place + lock_place l.lock (drop l.one-index l.known) ≡ lock_place l.lock l.known)
