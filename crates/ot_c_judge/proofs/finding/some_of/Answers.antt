use Rattle.std.proofs.Common.{arith}
use Rattle.std.proofs.lemmas.Bool.Decides.{nat_tests}
use Rattle.ot_c_judge.proofs.FindingLemmas.{none_told}
use Rattle.ot_c_judge.proofs.finding.some_of.Goals as goal

pub returns-then-is_empty : goal.returns-then-is_empty
returns-then-is_empty c = λ es tells. none_told es c.args.races tells (grind (arith, nat_tests, c.is_empty.ensures, c.if-is_empty.true, c.args.races.told.ok))
