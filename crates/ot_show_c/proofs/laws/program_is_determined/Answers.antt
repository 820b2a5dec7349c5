use Rattle.ot_show_c.proofs.ProgramLemmas.{program_law}
use Rattle.ot_show_c.proofs.laws.program_is_determined.Goals as goal

pub returns : goal.returns
returns c = program_law
