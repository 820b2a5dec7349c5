use Rattle.ot_c_expressions.proofs.SpellingLemmas.{back, ends}
use Rattle.ot_c_expressions.proofs.laws.spelled_reads_as_itself.Goals as goal

pub returns : goal.returns
returns c = λ e rest plain deep stops. (back e plain).value 72 1 rest deep (back e plain).sort (ends rest stops)
