use Rattle.std.proofs.Common.{◌≡◌, subst}
use Rattle.std.specs.Prelude.{MatchOption}
use Rattle.ot_client_ask.specs.Streams.{link}
use Rattle.ot_client_keep.specs.Files.{AreLines, IsNoFile, file_text}
use Rattle.ot_client_keep.proofs.KeepLemmas.{restores_clears, restores_compares, restores_takes}
use Rattle.ot_client_keep.proofs.restoring.restore.Goals as goal

pub returns-in-Err-clear : goal.returns-in-Err-clear
returns-in-Err-clear g c =
    restores_clears c.args.name.now c.args.file.now c.args.replace (link (g.H.LineSource.coming c.args.heard.now) (g.W.Sink.draft c.args.wire.now)) (link (g.H.LineSource.coming c.greet.new.heard) (g.W.Sink.draft c.greet.new.wire)) (link (g.H.LineSource.coming c.clear.new.heard) (g.W.Sink.draft c.clear.new.wire)) c.in-Err-clear.fault
    c.in_default.ensures c.in-Err-clear.ensures

pub returns-in-Err-send_lines : goal.returns-in-Err-send_lines
returns-in-Err-send_lines g c =
    let kept = subst (λ k. MatchOption k (IsNoFile c.args.file.now) (λ f. AreLines f.session.now × (c.args.file.now ≡ file_text f.session.now f.next f.used))) c.in-Ok-Some.field-0-is c.in-Ok-Some.ensures in
    let f = c.in-Ok-Some.kept in
    restores_takes c.args.name.now c.args.file.now f.session.now c.args.replace (link (g.H.LineSource.coming c.args.heard.now) (g.W.Sink.draft c.args.wire.now)) (link (g.H.LineSource.coming c.greet.new.heard) (g.W.Sink.draft c.greet.new.wire)) (link (g.H.LineSource.coming c.clear.new.heard) (g.W.Sink.draft c.clear.new.wire)) (link (g.H.LineSource.coming c.send_lines.new.heard) (g.W.Sink.draft c.send_lines.new.wire)) f.next f.used c.in-Err-send_lines.fault
    c.in_default.ensures c.in_default-clear.ensures kept.1 c.in-Err-send_lines.ensures

pub returns-in-Err-compare : goal.returns-in-Err-compare
returns-in-Err-compare g c =
    let kept = subst (λ k. MatchOption k (IsNoFile c.args.file.now) (λ f. AreLines f.session.now × (c.args.file.now ≡ file_text f.session.now f.next f.used))) c.in-Ok-Some.field-0-is c.in-Ok-Some.ensures in
    let f = c.in-Ok-Some.kept in
    restores_compares c.args.name.now c.args.file.now f.session.now c.args.replace (link (g.H.LineSource.coming c.args.heard.now) (g.W.Sink.draft c.args.wire.now)) (link (g.H.LineSource.coming c.greet.new.heard) (g.W.Sink.draft c.greet.new.wire)) (link (g.H.LineSource.coming c.clear.new.heard) (g.W.Sink.draft c.clear.new.wire)) (link (g.H.LineSource.coming c.send_lines.new.heard) (g.W.Sink.draft c.send_lines.new.wire)) (link (g.H.LineSource.coming c.compare.new.heard) (g.W.Sink.draft c.compare.new.wire)) f.next f.used
    c.in-Err-compare.fault c.in_default.ensures c.in_default-clear.ensures kept.1 c.in_default-send_lines.ensures c.in-Err-compare.ensures
