use Rattle.ot_program.proofs.PrintedAccepted.{printed_is_accepted}
use Rattle.ot_program.proofs.laws.printed_is_accepted.Goals as goal

pub returns : goal.returns
returns c = printed_is_accepted
