use Rattle.std.proofs.Common.{◌≡◌, ◌||◌, ◌&&◌, ◌∙◌, Ok, Err, true, false, refl, sym, ap, subst, rules, arith, length, filter, ◌+◌, ◌≤◌}
use Rattle.std.proofs.lemmas.List.Elements.{All-nil}
use Rattle.ot_client_ask.specs.Exchanges.{asked_after}
use Rattle.ot_client_ask.specs.Asking.{ways, is_untaken}
use Rattle.ot_client_ask.specs.Streams.{is_refusal}
use Rattle.ot_client_ask.specs.declared.asked.Tally.{Tally}
use Rattle.ot_client_ask.specs.declared.asked.AskFault.TheVariants.{TooManyLines}
use Rattle.ot_client_ask.specs.declared.exchange.Step.TheVariants.{Answered, Bye, CutShort}
use Rattle.ot_client_ask.proofs.TallyLemmas.{untaken_few}
use Rattle.ot_client_ask.proofs.TalkLemmas.{asked_of-or, talk_on, talk_none, talks, talks_broken, talks_bye, talks_cut, talks_left}
use Rattle.ot_client_ask.proofs.asking.converse.Goals as goal

pub loop-init : goal.loop-init
loop-init g c =
    let counted = c.new-tally.ensures in
    let none : c.new-tally.result.refused ≡ 0 = ap (λ (t : Tally). t.refused) counted in (
      false,
      talk_none g.M.Remarker.says _,
      refl,
      refl,
      counted,
      record { none = λ stops. refl; all = λ stops. All-nil (λ reply. is_refusal reply ≡ false) },
      ap (λ (t : Tally). t.lines) counted,
      omega (arith, none),
    )

-- the reply ends a session that is to stop
pub returns-then-is_refused : goal.returns-then-is_refused
returns-then-is_refused g c =
    let so_far = c.loop.invariant in
    let is : c.exchange.result ≡ Ok (Answered c.in-Ok-Answered.is_refused) = search rules in
    let stops : c.args.stop ≡ true = search rules in
    let refused : c.in-Ok-Answered.is_refused ≡ true = search rules in
    talks_left g.M.Remarker.says c.args.stop _ _ _ _ so_far.0 c.in-Ok-Answered.is_refused _ c.exchange.result _ _ so_far.1 so_far.5 so_far.4 c.with-tally.ensures c.exchange.ensures is stops refused c.leave.ensures refl refl

pub returns-in-Ok-Bye : goal.returns-in-Ok-Bye
returns-in-Ok-Bye g c =
    let so_far = c.loop.invariant in
    let is : c.exchange.result ≡ Ok Bye = search rules in
    talks_bye g.M.Remarker.says _ _ _ _ so_far.0 _ c.exchange.result _ so_far.1 so_far.5 so_far.3 so_far.4 c.exchange.ensures is

pub returns-in-Ok-CutShort : goal.returns-in-Ok-CutShort
returns-in-Ok-CutShort g c =
    let so_far = c.loop.invariant in
    let is : c.exchange.result ≡ Ok CutShort = search rules in
    talks_cut g.M.Remarker.says _ _ _ _ so_far.0 c.exchange.result _ _ so_far.1 so_far.5 so_far.4 c.with.ensures c.exchange.ensures is

pub returns-in-Err : goal.returns-in-Err
returns-in-Err g c =
    let so_far = c.loop.invariant in
    let is : c.exchange.result ≡ Err c.in-Err.fault = search rules in
    talks_broken g.M.Remarker.says _ _ _ _ so_far.0 c.in-Err.fault c.exchange.result _ so_far.1 so_far.5 so_far.4 c.exchange.ensures is

pub loop-preserved : goal.loop-preserved
loop-preserved g c =
    let so_far = c.loop.invariant in
    let is_refused = c.in-Ok-Answered.is_refused in
    let is : c.exchange.result ≡ Ok (Answered is_refused) = search rules in
    let on : (c.args.stop && is_refused) ≡ false = search rules in
    let new = c.exchange.new in
    let more = talk_on g.M.Remarker.says c.args.stop _ _
    (ways (g.T.LineSource.coming new.typed) (g.H.LineSource.coming new.heard) (g.W.Sink.draft new.wire) (g.P.Sink.draft new.printed))
    so_far.0 is_refused c.exchange.result _ _ c.with-tally.result so_far.1 so_far.2 so_far.4 so_far.5 c.with-tally.ensures on c.exchange.ensures is in (
      so_far.0 || is_refused,
      more.0,
      more.1,
      c.asked_after-asked.ensures ∙ ap (λ asked. asked_after asked is_refused) so_far.3 ∙ asked_of-or so_far.0 is_refused,
      more.2,
      more.3,
      ap (λ (t : Tally). t.lines) more.2 ∙ more.0.each ∙ more.1,
      subst (λ (t : Tally). t.refused ≤ c.loop.counter + 1) (sym more.2)
          (subst (λ n. length (filter is_untaken more.0.replies) ≤ n) (more.0.each ∙ more.1) (untaken_few more.0.replies)),
    )

pub returns : goal.returns
returns g c =
    let so_far = c.loop.invariant in
    let all = c.loop-test.false in
    let most = c.loop.auto.counter-end in
    let many = so_far.2 in
    talks g.M.Remarker.says _ _ _ _ so_far.0 (Err TooManyLines) _ so_far.1 so_far.5 (omega (arith, all, most, many), refl) so_far.4
