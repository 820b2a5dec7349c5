use Rattle.std.proofs.Common.{◌++◌, sym, ap, ◌∙◌}
use Rattle.std.specs.Prelude.{codes}
use Rattle.std.proofs.KnownBytes.{Appends-trans}
use Rattle.ot_book.specs.ReplyView.{reply_of}
use Rattle.ot_sim.specs.Playing.{reply_lines}
use Rattle.ot_sim.proofs.PlayLemmas.{reply-on}
use Rattle.ot_sim.proofs.play.tell_replies.Goals as goal

pub loop-reply-preserved : goal.loop-reply-preserved
loop-reply-preserved g c =
    let so_far = c.loop-reply.invariant in
    let name = c.args.name.now in
    let one = name ++ codes " " ++ c.as_str.result.now ++ codes "\n" in (
      so_far.0 ++ one,
      Appends-trans _ _ _ so_far.0 one so_far.1 c.in_ok-tell.ensures.told,
      reply-on name so_far.0 (reply_of c.in-Some.reply) c.next.new.self one _
          (ap (λ rs. so_far.0 ++ reply_lines name rs) (sym c.in-Some.ensures.steps) ∙ so_far.2)
          (ap (λ text. name ++ codes " " ++ text ++ codes "\n") (c.as_str.ensures.value ∙ c.in_ok-text.ensures)),
      c.in_ok-tell.ensures.failures ∙ so_far.3,
    )
