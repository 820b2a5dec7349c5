use Rattle.ot_program.proofs.PrintedBack.{body_back}
use Rattle.ot_program.proofs.laws.printed_reads_as_itself.Goals as goal

pub returns : goal.returns
returns c = body_back
