use Rattle.std.proofs.Common.{sym, ap, ◌∙◌}
use Rattle.ot_why_explain.specs.declared.explaining.Explained.TheVariants.{SomeRefused}
use Rattle.ot_why_explain.proofs.RemarkLemmas.{said_on}
use Rattle.ot_why_explain.proofs.ExplainLemmas.{stops_served, stops_in_remarks, explaining_on}
use Rattle.ot_why_explain.proofs.ListenLemmas.{closed_book, begun_line, served_on, served_stop}
use Rattle.ot_why_explain.proofs.explaining.explain_line.Goals as goal

-- the session ended at the line
pub returns-in-Err-clause-goes : goal.returns-in-Err-clause-goes
returns-in-Err-clause-goes g c = λ first start bytes closed clean short e.
    let held = (g.W.Sink.draft c.args.sink.now).held in
    let now = (g.W.Sink.draft c.take_line.new.sink).held in
    let line = c.args.line.now in
    stops_served line c.take_line.new.book now c.result.result e clean
    (served_stop c.in-Err.stop c.result.result c.result.ensures
    (c.in-Err.ensures.goes c.args.talk.now.book held line (closed_book closed e) (begun_line c.args.talk.now.book held line clean short)))

-- it goes on
pub returns-then-refused-clause-goes : goal.returns-then-refused-clause-goes
returns-then-refused-clause-goes g c = λ first start bytes closed clean short e.
    let held = (g.W.Sink.draft c.args.sink.now).held in
    let mid = (g.W.Sink.draft c.take_line.new.sink).held in
    let now = (g.W.Sink.draft c.tell_last.new.sink).held in
    let line = c.args.line.now in
    explaining_on line c.take_line.new.book mid now SomeRefused e clean
    (served_on (c.in_default.ensures.goes c.args.talk.now.book held line (closed_book closed e) (begun_line c.args.talk.now.book held line clean short))) c.in-Ok.ensures.told
    (ap (said_on c.args.talk.now.said) (sym c.if-refused.true ∙ c.in-Ok.ensures.refused))

pub returns-else-refused-clause-goes : goal.returns-else-refused-clause-goes
returns-else-refused-clause-goes g c = λ first start bytes closed clean short e.
    let held = (g.W.Sink.draft c.args.sink.now).held in
    let mid = (g.W.Sink.draft c.take_line.new.sink).held in
    let now = (g.W.Sink.draft c.tell_last.new.sink).held in
    let line = c.args.line.now in
    explaining_on line c.take_line.new.book mid now c.args.talk.now.said e clean
    (served_on (c.in_default.ensures.goes c.args.talk.now.book held line (closed_book closed e) (begun_line c.args.talk.now.book held line clean short))) c.in-Ok.ensures.told
    (ap (said_on c.args.talk.now.said) (sym c.if-refused.false ∙ c.in-Ok.ensures.refused))

-- the remarks broke off
pub returns-in-Err-tell_last-clause-goes : goal.returns-in-Err-tell_last-clause-goes
returns-in-Err-tell_last-clause-goes g c = λ first start bytes closed clean short e.
    let held = (g.W.Sink.draft c.args.sink.now).held in
    let mid = (g.W.Sink.draft c.take_line.new.sink).held in
    let now = (g.W.Sink.draft c.tell_last.new.sink).held in
    let line = c.args.line.now in
    stops_in_remarks line c.take_line.new.book mid now c.in-Err-tell_last.fault e clean
    (served_on (c.in_default.ensures.goes c.args.talk.now.book held line (closed_book closed e) (begun_line c.args.talk.now.book held line clean short)))
    c.in-Err-tell_last.ensures.cut c.in-Err-tell_last.ensures.fails
