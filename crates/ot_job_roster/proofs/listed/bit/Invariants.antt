use Rattle.std.proofs.Common.{◌≡◌, ◌<◌, ◌^◌, drop}
use Rattle.ot_job_roster.specs.Listed.{bits_in}
use Rattle.ot_job_roster.proofs.listed.bit.Given as goal

-- the bits behind those that were passed
abbrev pub invariant-loop : goal.invariant-loop
invariant-loop l = record { left : drop l.counter (bits_in l.word) ≡ bits_in l.rest; fits : l.rest < 2 ^ 64 }
