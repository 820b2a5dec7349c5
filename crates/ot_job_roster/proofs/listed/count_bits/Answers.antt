use Rattle.std.proofs.Common.{sym, arith}
use Rattle.ot_job_roster.proofs.ListedLemmas.{bits-counted}
use Rattle.ot_job_roster.proofs.listed.count_bits.Goals as goal

pub returns : goal.returns
returns c = sym (bits-counted c.args.word (omega arith))
