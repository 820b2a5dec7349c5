use Rattle.std.proofs.Common.{◌++◌, sym, ap, ◌∙◌}
use Rattle.std.specs.Prelude.{None}
use Rattle.ot_why_explain.specs.declared.explaining.Explained.TheVariants.{SomeRefused}
use Rattle.ot_why_explain.proofs.RemarkLemmas.{said_on}
use Rattle.ot_why_explain.proofs.ListenLemmas.{begun_line}
use Rattle.ot_why_explain.proofs.QuietLemmas.{hushed_closed, hushed_begun, hushed_on, hushed_stop}
use Rattle.ot_why_explain.proofs.quiet.remark_line.Goals as goal

-- the session ended at the line
pub returns-in-Err-clause-goes : goal.returns-in-Err-clause-goes
returns-in-Err-clause-goes g c = λ first start bytes closed clean short h.
    let line = c.args.line.now in
    let book = c.args.talk.now.book in
    hushed_stop first bytes book start line c.take_line.new.book (g.W.Sink.draft c.args.sink.now).held c.args.talk.now.said c.in-Err.stop c.result.result c.result.ensures clean
    (c.in-Err.ensures.goes first None (bytes ++ line) closed (hushed_begun line h clean short))
    (c.in-Err.ensures.goes book None line (hushed_closed closed h) (begun_line book None line clean short))

-- it goes on
pub returns-then-refused-clause-goes : goal.returns-then-refused-clause-goes
returns-then-refused-clause-goes g c = λ first start bytes closed clean short h.
    let line = c.args.line.now in
    let book = c.args.talk.now.book in
    hushed_on line c.take_line.new.book (g.W.Sink.draft c.tell_last.new.sink).held SomeRefused h clean
    (c.in_default.ensures.goes first None (bytes ++ line) closed (hushed_begun line h clean short))
    (c.in_default.ensures.goes book None line (hushed_closed closed h) (begun_line book None line clean short))
    c.in-Ok.ensures.told (ap (said_on c.args.talk.now.said) (sym c.if-refused.true ∙ c.in-Ok.ensures.refused))

pub returns-else-refused-clause-goes : goal.returns-else-refused-clause-goes
returns-else-refused-clause-goes g c = λ first start bytes closed clean short h.
    let line = c.args.line.now in
    let book = c.args.talk.now.book in
    hushed_on line c.take_line.new.book (g.W.Sink.draft c.tell_last.new.sink).held c.args.talk.now.said h clean
    (c.in_default.ensures.goes first None (bytes ++ line) closed (hushed_begun line h clean short))
    (c.in_default.ensures.goes book None line (hushed_closed closed h) (begun_line book None line clean short))
    c.in-Ok.ensures.told (ap (said_on c.args.talk.now.said) (sym c.if-refused.false ∙ c.in-Ok.ensures.refused))
