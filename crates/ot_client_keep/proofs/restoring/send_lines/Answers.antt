use Rattle.std.proofs.Common.{◌∙◌, ◌+◌, [], ◌∷◌, ◌++◌, ap, append-nil, arith, length, length-append, length-drop, refl, subst, sym}
use Rattle.std.specs.List.{concat}
use Rattle.std.proofs.lemmas.List.Elements.{All-nil, All-push}
use Rattle.ot_client_ask.specs.Streams.{link, IsWhole}
use Rattle.ot_client_keep.specs.Questions.{TurnFails, Line}
use Rattle.ot_client_keep.proofs.KeepLemmas.{stops_later, stops_now, takes_stop}
use Rattle.ot_client_keep.proofs.LineLemmas.{joined_here, joined_more, line_whole, lines_after, no_rest, one_longer, taken_more}
use Rattle.ot_client_keep.proofs.restoring.send_lines.Goals as goal

pub loop-at-init : goal.loop-at-init
loop-at-init g c = ([], All-nil IsWhole, refl, c.requires, record { turns = []; asked = refl; talk = refl }, refl, omega arith)

pub loop-at-preserved : goal.loop-at-preserved
loop-at-preserved g c =
    let so_far = c.loop-at.invariant in
    let rest = c.loop-at.rest.now in
    let at = c.in-Some.at in
    let line = c.split_at.result.0.now in
    let after = c.split_at.result.1.now in
    let first = c.in-Some.ensures in
    let within = first.0.high in
    let size = ap length c.split_at.ensures.back ∙ length-drop (at + 1) rest in
    let longer = length-append so_far.0 (line ∷ []) in
    let bound = so_far.6 in (
      so_far.0 ++ line ∷ [],
      All-push IsWhole so_far.0 line so_far.1 (line_whole rest line at first c.split_at.ensures.front),
      joined_more so_far.0 line after rest c.args.session.now (at + 1) c.split_at.ensures.front c.split_at.ensures.back so_far.2,
      lines_after rest after (at + 1) so_far.3 c.split_at.ensures.back,
      taken_more so_far.0 line (link (g.H.LineSource.coming c.args.heard.now) (g.W.Sink.draft c.args.wire.now)) (link (g.H.LineSource.coming c.loop-at.heard) (g.W.Sink.draft c.loop-at.wire)) (link (g.H.LineSource.coming c.ask_line.new.heard) (g.W.Sink.draft c.ask_line.new.wire)) c.in-Ok.field-0 so_far.4 c.in-Ok.ensures,
      one_longer so_far.0 line c.loop-at.taken so_far.5,
      omega (arith, size, longer, within, bound),
    )

pub returns-in-Err-StrangeReply : goal.returns-in-Err-StrangeReply
returns-in-Err-StrangeReply g c =
    let so_far = c.loop-at.invariant in
    let rest = c.loop-at.rest.now in
    let line = c.split_at.result.0.now in
    record {
      lines = so_far.0;
      line = line;
      rest = c.split_at.result.1.now;
      whole = All-push IsWhole so_far.0 line so_far.1 (line_whole rest line c.in-Some.at c.in-Some.ensures c.split_at.ensures.front);
      is = joined_here so_far.0 line c.split_at.result.1.now rest c.args.session.now (c.in-Some.at + 1) c.split_at.ensures.front c.split_at.ensures.back so_far.2;
      mid = link (g.H.LineSource.coming c.loop-at.heard) (g.W.Sink.draft c.loop-at.wire);
      taken = so_far.4;
      fails = subst (TurnFails (Line line) (link (g.H.LineSource.coming c.loop-at.heard) (g.W.Sink.draft c.loop-at.wire)) (link (g.H.LineSource.coming c.ask_line.new.heard) (g.W.Sink.draft c.ask_line.new.wire))) c.in-Err-StrangeReply.field-0-is c.in-Err-StrangeReply.ensures;
      count = ap (λ n. n + 1) so_far.5;
    }

pub returns-in-Err : goal.returns-in-Err
returns-in-Err g c =
    let taken = c.loop-at.invariant.4 in
    let start = link (g.H.LineSource.coming c.args.heard.now) (g.W.Sink.draft c.args.wire.now) in
    let now = link (g.H.LineSource.coming c.loop-at.heard) (g.W.Sink.draft c.loop-at.wire) in
    let new = link (g.H.LineSource.coming c.ask_line.new.heard) (g.W.Sink.draft c.ask_line.new.wire) in
    takes_stop c.args.session.now start new c.in-Err.fault
    (stops_later start now new taken.turns c.in-Err.fault taken.talk (stops_now now new (Line c.split_at.result.0.now) c.in-Err.fault c.in-Err.ensures))

pub returns : goal.returns
returns g c =
    let so_far = c.loop-at.invariant in
    let none = no_rest c.loop-at.rest.now so_far.3 c.in_default.ensures in
    record {
      lines = so_far.0;
      whole = so_far.1;
      all = sym (append-nil (concat so_far.0)) ∙ ap (λ l. concat so_far.0 ++ l) (sym none) ∙ so_far.2;
      taken = so_far.4;
    }
