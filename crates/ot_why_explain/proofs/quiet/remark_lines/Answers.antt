use Rattle.ot_why_explain.proofs.QuietLemmas.{by_stop, by_end, by_long}
use Rattle.ot_why_explain.proofs.quiet.remark_lines.Goals as goal

pub returns-in-Ok-Stopped : goal.returns-in-Ok-Stopped
returns-in-Ok-Stopped g c =
    by_stop g.W.Sink.draft c.args.lines.now c.listen.new.lines _ _ c.args.talk.now c.listen.new.state c.args.sink.now c.listen.new.answers
    c.in-Ok-Stopped.field-0 c.in-Ok-Stopped.ended c.in-Ok-Stopped.field-0-is c.requires.begun c.requires.closed c.requires.says c.in-Ok-Stopped.ensures

pub returns-in-Ok-End : goal.returns-in-Ok-End
returns-in-Ok-End g c =
    by_end g.W.Sink.draft c.args.lines.now c.listen.new.lines _ _ c.args.talk.now c.listen.new.state c.args.sink.now c.listen.new.answers
    c.in-Ok-End.field-0 c.in-Ok-End.field-0-is c.requires.begun c.requires.closed c.requires.says c.in-Ok-End.ensures

pub returns-in-Ok-Long : goal.returns-in-Ok-Long
returns-in-Ok-Long g c =
    by_long g.W.Sink.draft c.args.lines.now c.listen.new.lines _ _ c.args.talk.now c.listen.new.state c.args.sink.now c.listen.new.answers
    c.in-Ok-Long.field-0 c.in-Ok-Long.field-0-is c.requires.begun c.requires.closed c.requires.says c.in-Ok-Long.ensures
