use Rattle.ot_c_names.proofs.OwnLemmas.{comes_back}
use Rattle.ot_c_names.proofs.laws.own_name_comes_back.Goals as goal

pub returns : goal.returns
returns c = comes_back
