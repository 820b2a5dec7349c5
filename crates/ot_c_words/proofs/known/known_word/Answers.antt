use Rattle.ot_c_words.specs.Names.{known_of}
use Rattle.ot_c_words.proofs.known.known_word.Goals as goal

pub returns : goal.returns
unfolding known_of
returns c = c.look_up.ensures
