use Rattle.std.proofs.Common.{[]}
use Rattle.ot_file_text.proofs.position.position_of.Goals as goal

pub returns : goal.returns
returns c = c.behind.ensures.behind [] c.first.ensures
