use Rattle.std.proofs.Common.{subst}
use Rattle.ot_front.specs.Greetings.{greeting_of, Answers}
use Rattle.ot_front.proofs.GreetingLemmas.{greets_whole, greets_long}
use Rattle.ot_front.proofs.greeting.greet_from.Goals as goal

pub returns-in-Ok-Line-clause-greets : goal.returns-in-Ok-Line-clause-greets
returns-in-Ok-Line-clause-greets g c =
    let line = c.hear_first.new.lines.line in
    greets_whole (g.B.Rack.names c.args.rack.now) (g.R.Source.flow c.args.source.now).ahead (g.R.Source.flow c.hear_first.new.source).ahead _ (g.W.Sink.draft c.args.sink.now).held (g.W.Sink.draft c.answer_line.new.sink).held
    c.answer_line.result line c.in-Ok-Line.field-0 c.in-Ok-Line.field-0-is
    c.in-Ok-Line.ensures.bytes c.in-Ok-Line.ensures.one (λ same is not. c.in-Ok-Line.ensures.short (λ long. not (cc)))
    (subst (λ l. Answers (g.B.Rack.names c.args.rack.now) (greeting_of l) (g.W.Sink.draft c.args.sink.now).held (g.W.Sink.draft c.answer_line.new.sink).held c.answer_line.result)
    c.line.ensures c.answer_line.ensures.answers)

pub returns-in-Ok-Long-clause-greets : goal.returns-in-Ok-Long-clause-greets
returns-in-Ok-Long-clause-greets g c =
    let line = c.hear_first.new.lines.line in
    greets_long (g.B.Rack.names c.args.rack.now) (g.R.Source.flow c.args.source.now).ahead (g.R.Source.flow c.hear_first.new.source).ahead _ (g.W.Sink.draft c.args.sink.now).held (g.W.Sink.draft c.refuse.new.sink).held
    c.refuse.result line c.in-Ok-Long.field-0 c.in-Ok-Long.field-0-is
    c.in-Ok-Long.ensures.bytes c.in-Ok-Long.ensures.one (λ same is long. c.in-Ok-Long.ensures.long (cc)) c.refuse.ensures.writes c.refuse.ensures.none
