use Rattle.ot_c_words.specs.Numbers.{suffix_of}
use Rattle.ot_c_words.proofs.number.suffix_of.Goals as goal

pub returns : goal.returns
unfolding suffix_of
returns c = c.look_up.ensures
