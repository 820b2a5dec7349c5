use Rattle.ot_show_last.proofs.HearingLemmas.{by_stop, by_end, by_long, by_read_failed, by_turns}
use Rattle.ot_show_last.proofs.reading.hear_all.Goals as goal

pub returns-in-Ok-Stopped-clause-hears : goal.returns-in-Ok-Stopped-clause-hears
returns-in-Ok-Stopped-clause-hears g c = (by_stop c.args.lines.now c.listen.new.lines _ _ c.args.book.now c.listen.new.state c.args.last.now c.listen.new.answers
    c.in-Ok-Stopped.field-0 c.in-Ok-Stopped.stop c.result.result c.in-Ok-Stopped.field-0-is c.result.ensures c.requires.begun c.requires.begins c.in-Ok-Stopped.ensures).hears

pub returns-in-Ok-Stopped-clause-read_failed : goal.returns-in-Ok-Stopped-clause-read_failed
returns-in-Ok-Stopped-clause-read_failed g c = (by_stop c.args.lines.now c.listen.new.lines _ _ c.args.book.now c.listen.new.state c.args.last.now c.listen.new.answers
    c.in-Ok-Stopped.field-0 c.in-Ok-Stopped.stop c.result.result c.in-Ok-Stopped.field-0-is c.result.ensures c.requires.begun c.requires.begins c.in-Ok-Stopped.ensures).read_failed

pub returns-in-Ok-Stopped-clause-read_worked : goal.returns-in-Ok-Stopped-clause-read_worked
returns-in-Ok-Stopped-clause-read_worked g c = (by_stop c.args.lines.now c.listen.new.lines _ _ c.args.book.now c.listen.new.state c.args.last.now c.listen.new.answers
    c.in-Ok-Stopped.field-0 c.in-Ok-Stopped.stop c.result.result c.in-Ok-Stopped.field-0-is c.result.ensures c.requires.begun c.requires.begins c.in-Ok-Stopped.ensures).read_worked

pub returns-in-Ok-End-clause-hears : goal.returns-in-Ok-End-clause-hears
returns-in-Ok-End-clause-hears g c = (by_end c.args.lines.now c.listen.new.lines _ _ c.args.book.now c.listen.new.state c.args.last.now c.listen.new.answers
    c.in-Ok-End.field-0 c.in-Ok-End.field-0-is c.requires.begun c.requires.begins c.in-Ok-End.ensures).hears

pub returns-in-Ok-End-clause-read_failed : goal.returns-in-Ok-End-clause-read_failed
returns-in-Ok-End-clause-read_failed g c = (by_end c.args.lines.now c.listen.new.lines _ _ c.args.book.now c.listen.new.state c.args.last.now c.listen.new.answers
    c.in-Ok-End.field-0 c.in-Ok-End.field-0-is c.requires.begun c.requires.begins c.in-Ok-End.ensures).read_failed

pub returns-in-Ok-End-clause-read_worked : goal.returns-in-Ok-End-clause-read_worked
returns-in-Ok-End-clause-read_worked g c = (by_end c.args.lines.now c.listen.new.lines _ _ c.args.book.now c.listen.new.state c.args.last.now c.listen.new.answers
    c.in-Ok-End.field-0 c.in-Ok-End.field-0-is c.requires.begun c.requires.begins c.in-Ok-End.ensures).read_worked

pub returns-in-Ok-Long-clause-hears : goal.returns-in-Ok-Long-clause-hears
returns-in-Ok-Long-clause-hears g c = (by_long c.args.lines.now c.listen.new.lines _ _ c.args.book.now c.listen.new.state c.args.last.now c.listen.new.answers
    c.in-Ok-Long.field-0 c.next_number.result c.in-Ok-Long.field-0-is c.next_number.ensures c.requires.begun c.requires.begins c.in-Ok-Long.ensures).hears

pub returns-in-Ok-Long-clause-read_failed : goal.returns-in-Ok-Long-clause-read_failed
returns-in-Ok-Long-clause-read_failed g c = (by_long c.args.lines.now c.listen.new.lines _ _ c.args.book.now c.listen.new.state c.args.last.now c.listen.new.answers
    c.in-Ok-Long.field-0 c.next_number.result c.in-Ok-Long.field-0-is c.next_number.ensures c.requires.begun c.requires.begins c.in-Ok-Long.ensures).read_failed

pub returns-in-Ok-Long-clause-read_worked : goal.returns-in-Ok-Long-clause-read_worked
returns-in-Ok-Long-clause-read_worked g c = (by_long c.args.lines.now c.listen.new.lines _ _ c.args.book.now c.listen.new.state c.args.last.now c.listen.new.answers
    c.in-Ok-Long.field-0 c.next_number.result c.in-Ok-Long.field-0-is c.next_number.ensures c.requires.begun c.requires.begins c.in-Ok-Long.ensures).read_worked

pub returns-in-Err-ReadFailed-clause-hears : goal.returns-in-Err-ReadFailed-clause-hears
returns-in-Err-ReadFailed-clause-hears g c = (by_read_failed c.args.lines.now c.listen.new.lines _ _ c.args.book.now c.listen.new.state c.args.last.now c.listen.new.answers
    c.in-Err-ReadFailed.field-0 c.in-Err-ReadFailed.field-0-is c.requires.begun c.in-Err-ReadFailed.ensures).hears

pub returns-in-Err-ReadFailed-clause-read_failed : goal.returns-in-Err-ReadFailed-clause-read_failed
returns-in-Err-ReadFailed-clause-read_failed g c = (by_read_failed c.args.lines.now c.listen.new.lines _ _ c.args.book.now c.listen.new.state c.args.last.now c.listen.new.answers
    c.in-Err-ReadFailed.field-0 c.in-Err-ReadFailed.field-0-is c.requires.begun c.in-Err-ReadFailed.ensures).read_failed

pub returns-in-Err-ReadFailed-clause-read_worked : goal.returns-in-Err-ReadFailed-clause-read_worked
returns-in-Err-ReadFailed-clause-read_worked g c = (by_read_failed c.args.lines.now c.listen.new.lines _ _ c.args.book.now c.listen.new.state c.args.last.now c.listen.new.answers
    c.in-Err-ReadFailed.field-0 c.in-Err-ReadFailed.field-0-is c.requires.begun c.in-Err-ReadFailed.ensures).read_worked

pub returns-in-Err-TooManyReads-clause-hears : goal.returns-in-Err-TooManyReads-clause-hears
returns-in-Err-TooManyReads-clause-hears g c = (by_turns c.args.lines.now c.listen.new.lines _ _ c.args.book.now c.listen.new.state c.args.last.now c.listen.new.answers
    c.in-Err-TooManyReads.field-0 c.in-Err-TooManyReads.field-0-is c.requires.begun c.in-Err-TooManyReads.ensures).hears

pub returns-in-Err-TooManyReads-clause-read_failed : goal.returns-in-Err-TooManyReads-clause-read_failed
returns-in-Err-TooManyReads-clause-read_failed g c = (by_turns c.args.lines.now c.listen.new.lines _ _ c.args.book.now c.listen.new.state c.args.last.now c.listen.new.answers
    c.in-Err-TooManyReads.field-0 c.in-Err-TooManyReads.field-0-is c.requires.begun c.in-Err-TooManyReads.ensures).read_failed

pub returns-in-Err-TooManyReads-clause-read_worked : goal.returns-in-Err-TooManyReads-clause-read_worked
returns-in-Err-TooManyReads-clause-read_worked g c = (by_turns c.args.lines.now c.listen.new.lines _ _ c.args.book.now c.listen.new.state c.args.last.now c.listen.new.answers
    c.in-Err-TooManyReads.field-0 c.in-Err-TooManyReads.field-0-is c.requires.begun c.in-Err-TooManyReads.ensures).read_worked
