use Rattle.omptask.specs.Judged.{PutsDocument}
use Rattle.omptask.proofs.judging.put_sarif.Goals as goal

pub returns : goal.returns
unfolding PutsDocument
returns c = c.put_document.ensures
