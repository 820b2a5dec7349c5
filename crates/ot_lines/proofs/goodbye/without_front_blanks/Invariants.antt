use Rattle.std.proofs.Common.{◌≡◌, length}
use Rattle.ot_lines.specs.Goodbyes.{without_front_blanks}
use Rattle.ot_lines.proofs.goodbye.without_front_blanks.Given as goal

abbrev pub invariant-loop-rest : goal.invariant-loop-rest
invariant-loop-rest l = without_front_blanks l.rest ≡ without_front_blanks l.initial.rest

abbrev pub decreases-loop-rest : goal.decreases-loop-rest
decreases-loop-rest l = length l.rest
