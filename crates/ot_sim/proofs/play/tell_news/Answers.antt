use Rattle.std.proofs.Common.{◌++◌, ap, ◌∙◌, ◌<◌, arith, drop, get_or, length}
use Rattle.std.proofs.KnownBytes.{Appends-trans}
use Rattle.ot_sim.specs.Playing.{reply_lines, replies_at}
use Rattle.ot_sim.proofs.PlayLemmas.{counts-lookup, news-on}
use Rattle.ot_sim.proofs.play.tell_news.Goals as goal

pub loop-tenant-preserved : goal.loop-tenant-preserved
loop-tenant-preserved g c =
    let so_far = c.loop-tenant.invariant in
    let t = c.loop-tenant.tenant in
    let items = c.as_slice-name-items.result.now in
    let within : t < length c.args.names.now = omega (arith, so_far.3, c.loop-tenant-test.true, c.requires) in
    let given = get_or c.args.given.now t 0 in
    let one = reply_lines c.as_str.result.now (drop given (replies_at c.args.world.now t)) in (
      (λ old same.
          let text = so_far.0 old same in (
            text.0 ++ one,
            Appends-trans _ _ _ text.0 one text.1 c.in_ok-tell_behind.ensures.told,
            news-on items t c.name-item.result old c.args.world.now text.0 _ c.as_str.result.now given c.loop-tenant-test.true c.name-item.is
                c.as_str.ensures.value
                (ap (λ gs. get_or gs t 0) same ∙ counts-lookup old (length c.args.names.now) t within)
                text.2,
          )),
      c.in_ok-tell_behind.ensures.failures ∙ so_far.1,
      so_far.2,
      so_far.3,
    )
