use Rattle.ot_session.proofs.LineLemmas.{by_stop, by_end, by_long, by_read_failed, by_turns}
use Rattle.ot_session.proofs.session.serve_lines.Goals as goal

pub returns-in-Ok-Stopped : goal.returns-in-Ok-Stopped
returns-in-Ok-Stopped g c =
    by_stop g.W.Sink.draft c.args.lines.now c.listen.new.lines _ _ c.args.book.now c.listen.new.state c.args.sink.now c.listen.new.answers
    c.in-Ok-Stopped.field-0 c.in-Ok-Stopped.stop c.result.result c.in-Ok-Stopped.field-0-is c.result.ensures c.requires.begun c.requires.closed c.in-Ok-Stopped.ensures

pub returns-in-Ok-End : goal.returns-in-Ok-End
returns-in-Ok-End g c =
    by_end g.W.Sink.draft c.args.lines.now c.listen.new.lines _ _ c.args.book.now c.listen.new.state c.args.sink.now c.listen.new.answers
    c.in-Ok-End.field-0 c.in-Ok-End.field-0-is c.requires.begun c.requires.closed c.in-Ok-End.ensures

pub returns-in-Ok-Long : goal.returns-in-Ok-Long
returns-in-Ok-Long g c =
    by_long g.W.Sink.draft c.args.lines.now c.listen.new.lines _ _ c.args.book.now c.listen.new.state c.args.sink.now c.listen.new.answers c.tell_long.new.sink
    c.in-Ok-Long.field-0 c.tell_long.result c.in-Ok-Long.field-0-is c.requires.begun c.requires.closed c.in-Ok-Long.ensures
    c.tell_long.ensures.told c.tell_long.ensures.cut

pub returns-in-Err-ReadFailed : goal.returns-in-Err-ReadFailed
returns-in-Err-ReadFailed g c =
    by_read_failed g.W.Sink.draft c.args.lines.now c.listen.new.lines _ _ c.args.book.now c.listen.new.state c.args.sink.now c.listen.new.answers
    c.in-Err-ReadFailed.field-0 c.in-Err-ReadFailed.field-0-is c.requires.begun c.requires.closed c.in-Err-ReadFailed.ensures

pub returns-in-Err-TooManyReads : goal.returns-in-Err-TooManyReads
returns-in-Err-TooManyReads g c =
    by_turns g.W.Sink.draft c.args.lines.now c.listen.new.lines _ _ c.args.book.now c.listen.new.state c.args.sink.now c.listen.new.answers
    c.in-Err-TooManyReads.field-0 c.in-Err-TooManyReads.field-0-is c.requires.begun c.requires.closed c.in-Err-TooManyReads.ensures
