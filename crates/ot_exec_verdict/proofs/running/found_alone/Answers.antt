use Rattle.std.proofs.Common.{arith}
use Rattle.std.proofs.lemmas.Bool.Decides.{nat_tests}
use Rattle.ot_exec_verdict.proofs.FindingLemmas.{none_in}
use Rattle.ot_exec_verdict.proofs.running.found_alone.Goals as goal

pub returns-then-is_empty : goal.returns-then-is_empty
returns-then-is_empty c =
    none_in c.args.run c.in_ok-races.races (grind (arith, nat_tests, c.len.ensures, c.if-len-gt1.false)) c.in_ok-races.ensures
    (grind (arith, nat_tests, c.is_empty.ensures, c.if-is_empty.true))
