use Rattle.ot_program.proofs.Accepted.{accepted_is_small}
use Rattle.ot_program.proofs.laws.accepted_is_small.Goals as goal

pub returns : goal.returns
returns c = accepted_is_small
