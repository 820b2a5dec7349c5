use Rattle.std.proofs.Common.{◌∙◌, ap, map, subst}
use Rattle.ot_session.specs.Serving.{Writes, BreaksOffIn}
use Rattle.ot_client_ask.specs.Streams.{link}
use Rattle.ot_client_keep.specs.Arrays.{named_by}
use Rattle.ot_client_keep.specs.Files.{Makes, file_text}
use Rattle.ot_client_keep.specs.Saving.{IsText}
use Rattle.ot_client_keep.proofs.saving.save.Goals as goal

pub returns-in-Err-write_whole : goal.returns-in-Err-write_whole
returns-in-Err-write_whole g c =
    let session = c.in-Ok-session_text.session.items in
    let text = c.in-Ok-file_text.text.items in
    let tells : IsText c.args.name.now (link (g.H.LineSource.coming c.args.heard.now) (g.W.Sink.draft c.args.wire.now)) (link (g.H.LineSource.coming c.read_tenant.new.heard) (g.W.Sink.draft c.read_tenant.new.wire)) c.in-Ok.tenant.next c.in-Ok.tenant.used text = record {
      greeted = link (g.H.LineSource.coming c.greet.new.heard) (g.W.Sink.draft c.greet.new.wire);
      arrays = map named_by c.in-Ok.tenant.arrays.items;
      session = session;
      greets = c.in_default.ensures;
      told = c.in-Ok.ensures;
      makes = subst (λ l. Makes (map named_by l) session) c.as_slice.ensures.value c.in-Ok-session_text.ensures;
      is = c.in-Ok-file_text.ensures ∙ ap (λ l. file_text l c.in-Ok.tenant.next c.in-Ok.tenant.used) c.as_slice-2.ensures.value;
    } in (
      c.in-Ok.tenant.next,
      c.in-Ok.tenant.used,
      text,
      tells,
      subst (BreaksOffIn (g.O.Sink.draft c.args.out.now) (g.O.Sink.draft c.write_whole.new.sink)) c.as_slice-3.ensures.value c.in-Err-write_whole.ensures.err,
    )

pub returns : goal.returns
returns g c =
    let session = c.in-Ok-session_text.session.items in
    let text = c.in-Ok-file_text.text.items in
    let tells : IsText c.args.name.now (link (g.H.LineSource.coming c.args.heard.now) (g.W.Sink.draft c.args.wire.now)) (link (g.H.LineSource.coming c.read_tenant.new.heard) (g.W.Sink.draft c.read_tenant.new.wire)) c.in-Ok.tenant.next c.in-Ok.tenant.used text = record {
      greeted = link (g.H.LineSource.coming c.greet.new.heard) (g.W.Sink.draft c.greet.new.wire);
      arrays = map named_by c.in-Ok.tenant.arrays.items;
      session = session;
      greets = c.in_default.ensures;
      told = c.in-Ok.ensures;
      makes = subst (λ l. Makes (map named_by l) session) c.as_slice.ensures.value c.in-Ok-session_text.ensures;
      is = c.in-Ok-file_text.ensures ∙ ap (λ l. file_text l c.in-Ok.tenant.next c.in-Ok.tenant.used) c.as_slice-2.ensures.value;
    } in (
      link (g.H.LineSource.coming c.read_tenant.new.heard) (g.W.Sink.draft c.read_tenant.new.wire),
      text,
      tells,
      subst (Writes (g.O.Sink.draft c.args.out.now) (g.O.Sink.draft c.write_whole.new.sink)) c.as_slice-3.ensures.value c.in-Ok-write_whole.ensures.ok,
      c.say_bye.ensures,
    )
