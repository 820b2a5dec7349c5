use Rattle.ot_why_explain.proofs.ListenLemmas.{by_stop, by_end, by_long, by_read_failed, by_turns}
use Rattle.ot_why_explain.proofs.explaining.explain_lines.Goals as goal

pub returns-in-Ok-Stopped-clause-explains : goal.returns-in-Ok-Stopped-clause-explains
returns-in-Ok-Stopped-clause-explains g c = (by_stop g.W.Sink.draft c.args.lines.now c.listen.new.lines _ _ c.args.talk.now c.listen.new.state c.args.sink.now c.listen.new.answers
    c.in-Ok-Stopped.field-0 c.in-Ok-Stopped.ended c.in-Ok-Stopped.field-0-is c.requires.begun c.requires.closed c.requires.says c.in-Ok-Stopped.ensures).explains

pub returns-in-Ok-Stopped-clause-remarks : goal.returns-in-Ok-Stopped-clause-remarks
returns-in-Ok-Stopped-clause-remarks g c = (by_stop g.W.Sink.draft c.args.lines.now c.listen.new.lines _ _ c.args.talk.now c.listen.new.state c.args.sink.now c.listen.new.answers
    c.in-Ok-Stopped.field-0 c.in-Ok-Stopped.ended c.in-Ok-Stopped.field-0-is c.requires.begun c.requires.closed c.requires.says c.in-Ok-Stopped.ensures).remarks

pub returns-in-Ok-End-clause-explains : goal.returns-in-Ok-End-clause-explains
returns-in-Ok-End-clause-explains g c = (by_end g.W.Sink.draft c.args.lines.now c.listen.new.lines _ _ c.args.talk.now c.listen.new.state c.args.sink.now c.listen.new.answers
    c.in-Ok-End.field-0 c.in-Ok-End.field-0-is c.requires.begun c.requires.closed c.requires.says c.in-Ok-End.ensures).explains

pub returns-in-Ok-End-clause-remarks : goal.returns-in-Ok-End-clause-remarks
returns-in-Ok-End-clause-remarks g c = (by_end g.W.Sink.draft c.args.lines.now c.listen.new.lines _ _ c.args.talk.now c.listen.new.state c.args.sink.now c.listen.new.answers
    c.in-Ok-End.field-0 c.in-Ok-End.field-0-is c.requires.begun c.requires.closed c.requires.says c.in-Ok-End.ensures).remarks

pub returns-in-Ok-Long-clause-explains : goal.returns-in-Ok-Long-clause-explains
returns-in-Ok-Long-clause-explains g c = (by_long g.W.Sink.draft c.args.lines.now c.listen.new.lines _ _ c.args.talk.now c.listen.new.state c.args.sink.now c.listen.new.answers c.tell_long.new.sink
    c.in-Ok-Long.field-0 c.tell_long.result c.in-Ok-Long.field-0-is c.requires.begun c.requires.closed c.requires.says c.in-Ok-Long.ensures c.tell_long.ensures.told c.tell_long.ensures.cut).explains

pub returns-in-Ok-Long-clause-remarks : goal.returns-in-Ok-Long-clause-remarks
returns-in-Ok-Long-clause-remarks g c = (by_long g.W.Sink.draft c.args.lines.now c.listen.new.lines _ _ c.args.talk.now c.listen.new.state c.args.sink.now c.listen.new.answers c.tell_long.new.sink
    c.in-Ok-Long.field-0 c.tell_long.result c.in-Ok-Long.field-0-is c.requires.begun c.requires.closed c.requires.says c.in-Ok-Long.ensures c.tell_long.ensures.told c.tell_long.ensures.cut).remarks

pub returns-in-Err-ReadFailed-clause-explains : goal.returns-in-Err-ReadFailed-clause-explains
returns-in-Err-ReadFailed-clause-explains g c = (by_read_failed g.W.Sink.draft c.args.lines.now c.listen.new.lines _ _ c.args.talk.now c.listen.new.state c.args.sink.now c.listen.new.answers
    c.in-Err-ReadFailed.field-0 c.in-Err-ReadFailed.field-0-is c.requires.begun c.requires.closed c.requires.says c.in-Err-ReadFailed.ensures).explains

pub returns-in-Err-TooManyReads-clause-explains : goal.returns-in-Err-TooManyReads-clause-explains
returns-in-Err-TooManyReads-clause-explains g c = (by_turns g.W.Sink.draft c.args.lines.now c.listen.new.lines _ _ c.args.talk.now c.listen.new.state c.args.sink.now c.listen.new.answers
    c.in-Err-TooManyReads.field-0 c.in-Err-TooManyReads.field-0-is c.requires.begun c.requires.closed c.requires.says c.in-Err-TooManyReads.ensures).explains
