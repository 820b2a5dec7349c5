use Rattle.std.proofs.Common.{refl}
use Rattle.ot_c_words.specs.Marks.{marks, mark_at}
use Rattle.ot_c_words.proofs.MarkLemmas.{marked_some}
use Rattle.ot_c_words.proofs.mark.mark_at.Goals as goal

pub returns : goal.returns
unfolding mark_at
returns c = record { value = c.begin.ensures.value; within = marked_some marks c.args.bytes.now refl c.begin.result c.begin.ensures.value c.begin.ensures.within }
