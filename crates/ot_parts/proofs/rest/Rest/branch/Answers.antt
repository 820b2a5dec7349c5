use Rattle.std.proofs.Common.{◌≡◌, ◌∙◌, ap, sym}
use Rattle.std.specs.Prelude.{Some, None, option_map}
use Rattle.std.specs.Arc.{arc_value}
use Rattle.ot_parts.specs.Parts.{control_next, body_in, branch_of, part_of}
use Rattle.ot_parts.proofs.RestLemmas.{hidden-next, if-shown, none-branched, other-shown}
use Rattle.ot_parts.proofs.rest.Rest.branch.Goals as goal

pub returns-in_default-clause-branched : goal.returns-in_default-clause-branched
returns-in_default-clause-branched c =
    sym (none-branched c.args.taken c.args.self.now
    (ap control_next (sym c.self.view_is) ∙ hidden-next c.self.inside.passed c.self.inside.frames c.self.invariant c.in_default.ensures))

pub returns-in_default-2-clause-branched : goal.returns-in_default-2-clause-branched
returns-in_default-2-clause-branched c =
    let other : branch_of c.args.taken (part_of c.in-Some.part.now).control ≡ None = sym c.in_ok-body.ensures ∙ ap (option_map body_in) c.in_default-2.is in
    other-shown c.args.taken c.self.inside.passed c.self.inside.frames c.args.self.now c.in-Some.part.now c.self.view_is c.in-Some.ensures other

pub returns-clause-branched : goal.returns-clause-branched
returns-clause-branched c =
    let is : branch_of c.args.taken (part_of c.in-Some.part.now).control ≡ Some (body_in c.in-Some-2.body) = sym c.in_ok-body.ensures ∙ ap (option_map body_in) c.in-Some-2.is in
    c.trim.ensures.same
    ∙ if-shown c.args.taken c.self.inside.passed c.self.inside.frames c.go_into.new.self c.args.self.now c.in-Some.part.now (arc_value c.in-Some-2.body).items c.self.view_is c.in-Some.ensures is
    c.in_ok-go_into.ensures.gone
