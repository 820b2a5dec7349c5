use Rattle.std.proofs.Common.{ap, ◌∙◌, length}
use Rattle.ot_sim.proofs.PlayLemmas.{length-counts}
use Rattle.ot_sim.proofs.play.drain.Goals as goal

pub tell_news-requires : goal.tell_news-requires
tell_news-requires g c = ap length (c.as_slice.ensures.value ∙ c.in_ok-given.ensures) ∙ length-counts c.args.world.now c.count.result ∙ c.count.ensures.is
