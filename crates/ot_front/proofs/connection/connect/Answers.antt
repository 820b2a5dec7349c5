use Rattle.std.proofs.Common.{◌≡◌, inl, refl, subst}
use Rattle.std.specs.Prelude.{⊤, IfSome}
use Rattle.ot_session.specs.declared.fault.FrontFault.TheVariants.{Memory}
use Rattle.ot_front.proofs.ConnectionLemmas.{tells_behind}
use Rattle.ot_front.proofs.GreetingLemmas.{greets_nothing}
use Rattle.ot_front.proofs.RackLemmas.{over_session, over_nothing, over_fault}
use Rattle.ot_front.proofs.connection.connect.Goals as goal

pub returns-in-Ok-Some-clause-connects : goal.returns-in-Ok-Some-clause-connects
returns-in-Ok-Some-clause-connects g c =
    over_session (g.B.Rack.names c.args.rack.now) (g.R.Source.flow c.args.source.now).ahead (g.R.Source.flow c.greet_from.new.source).ahead (g.R.Source.flow c.hold_session.new.source).ahead _
    (g.W.Sink.draft c.args.sink.now).held (g.W.Sink.draft c.greet_from.new.sink).held (g.W.Sink.draft c.hold_session.new.sink).held
    (g.B.Rack.moves c.args.rack.now) _ _ c.in-Ok-Some.field-0 c.in-Ok-Some.book c.in-Ok-Some.field-0-is c.in-Ok-Some.ensures.greets c.in-Ok-Some.ensures.hands
    _ (record { after = c.hold_session.ensures.0; latest = (g.R.Source.flow c.hold_session.new.source).latest; serves = c.hold_session.ensures.1.serves }) c.hold_session.ensures.2

pub returns-in-Ok-Some-clause-tells : goal.returns-in-Ok-Some-clause-tells
returns-in-Ok-Some-clause-tells g c =
    let before = g.R.Source.flow c.args.source.now in
    let mid = g.R.Source.flow c.greet_from.new.source in
    tells_behind _ _ before mid (g.R.Source.flow c.hold_session.new.source) (g.W.Sink.draft c.args.sink.now) _ _ _ c.in-Ok-Some.ensures.reads
    (subst (λ o. IfSome o (λ _. mid.ends ≡ before.ends)) c.in-Ok-Some.field-0-is c.in-Ok-Some.ensures.end_untold)
    (c.in-Ok-Some.ensures.read_worked (λ is. absurd (cc))) (c.in-Ok-Some.ensures.write_worked (λ is. absurd (cc))) c.hold_session.ensures.1

pub returns-in-Ok-None-clause-connects : goal.returns-in-Ok-None-clause-connects
returns-in-Ok-None-clause-connects g c =
    over_nothing (g.B.Rack.names c.args.rack.now) (g.R.Source.flow c.args.source.now).ahead (g.R.Source.flow c.greet_from.new.source).ahead _
    (g.W.Sink.draft c.args.sink.now).held (g.W.Sink.draft c.greet_from.new.sink).held (g.B.Rack.moves c.args.rack.now) _ c.in-Ok-None.field-0 c.in-Ok-None.field-0-is
    c.in-Ok-None.ensures.greets c.in-Ok-None.ensures.hands

pub returns-clause-connects : goal.returns-clause-connects
returns-clause-connects g c =
    over_fault (g.B.Rack.names c.args.rack.now) (g.R.Source.flow c.args.source.now).ahead (g.R.Source.flow c.greet_from.new.source).ahead _
    (g.W.Sink.draft c.args.sink.now).held (g.W.Sink.draft c.greet_from.new.sink).held (g.B.Rack.moves c.args.rack.now) _ _ c.in-Err.ensures.greets c.in-Err.ensures.hands

pub returns-in_default-clause-connects : goal.returns-in_default-clause-connects
returns-in_default-clause-connects g c =
    over_fault (g.B.Rack.names c.args.rack.now) (g.R.Source.flow c.args.source.now).ahead (g.R.Source.flow c.args.source.now).ahead ⊤
    (g.W.Sink.draft c.args.sink.now).held (g.W.Sink.draft c.args.sink.now).held (g.B.Rack.moves c.args.rack.now) (g.B.Rack.moves c.args.rack.now) Memory
    (greets_nothing (g.B.Rack.names c.args.rack.now) (g.R.Source.flow c.args.source.now).ahead ⊤ (g.W.Sink.draft c.args.sink.now).held) (inl refl)
