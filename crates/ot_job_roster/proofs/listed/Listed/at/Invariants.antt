use Rattle.std.proofs.Common.{◌≡◌, ◌+◌, ◌*◌, length}
use Rattle.ot_job_roster.specs.Listed.{has_number}
use Rattle.ot_job_roster.proofs.ListedLemmas.{those}
use Rattle.ot_job_roster.proofs.listed.Listed.at.Given as goal

-- how many stand before the word
abbrev pub invariant-loop-i : goal.invariant-loop-i
invariant-loop-i l = length (those (has_number l.word-items) 0 (64 * l.i)) + l.left ≡ l.place
