use Rattle.std.proofs.Common.{◌≡◌, true, take}
use Rattle.std.specs.Prelude.{All}
use Rattle.ot_sets.specs.Sets.{has}
use Rattle.ot_race.proofs.history.missing.Given as goal

abbrev pub invariant-loop-earlier : goal.invariant-loop-earlier
invariant-loop-earlier l = All (λ e. has l.known e ≡ true) (take l.earlier-index l.events)
