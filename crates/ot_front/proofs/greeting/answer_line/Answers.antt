use Rattle.ot_front.specs.Greetings.{greeting_of}
use Rattle.ot_front.proofs.GreetingLemmas.{answers_given}
use Rattle.ot_front.proofs.RackLemmas.{hands_welcomed}
use Rattle.ot_front.proofs.greeting.answer_line.Goals as goal

pub returns-in-Ok-clause-answers : goal.returns-in-Ok-clause-answers
returns-in-Ok-clause-answers g c =
    answers_given (g.B.Rack.names c.args.rack.now) (greeting_of c.args.line.now) c.in-Ok.book _ _ c.welcome.result c.in-Ok.ensures.given c.welcome.ensures.writes c.welcome.ensures.given

pub returns-in-Ok-clause-hands : goal.returns-in-Ok-clause-hands
returns-in-Ok-clause-hands g c =
    hands_welcomed c.in-Ok.book (g.B.Rack.moves c.args.rack.now) _ _ c.welcome.result c.in-Ok.ensures.taken c.welcome.ensures.kept c.welcome.ensures.laid c.welcome.ensures.given
