use Rattle.std.proofs.Common.{get_or, ◌∙◌, sym}
use Rattle.ot_model.specs.Meeting.{asked}
use Rattle.ot_model.specs.declared.stmt.Mode.TheVariants.{Reads}
use Rattle.ot_model.specs.declared.stmt.Use.{Use}
use Rattle.ot_model.proofs.MeetingLemmas.{stands, pass-one, pass-two, pass-both}
use Rattle.ot_model.proofs.meeting.meet.Goals as goal

-- what stands past the end of a list
none : Use
none = record { cell = record { array = 0; index = 0 }; mode = Reads }

pub loop-i-preserved-then-is_before : goal.loop-i-preserved-then-is_before
unfolding none
loop-i-preserved-then-is_before c =
    let ones = c.args.ones.now in
    let twos = c.args.twos.now in
    pass-one (asked c.args.question) ones twos c.loop-i.i c.loop-i.j (get_or ones c.loop-i.i none) (get_or twos c.loop-i.j none) c.requires.twos
    (stands ones c.loop-i.i none c.loop-i-test.true) (stands twos c.loop-i.j none c.if-j-twos.true)
    (sym c.is_before.ensures ∙ c.if-is_before.true) c.loop-i.invariant

pub loop-i-preserved-then-is_before-2 : goal.loop-i-preserved-then-is_before-2
unfolding none
loop-i-preserved-then-is_before-2 c =
    let ones = c.args.ones.now in
    let twos = c.args.twos.now in
    pass-two (asked c.args.question) ones twos c.loop-i.i c.loop-i.j (get_or ones c.loop-i.i none) (get_or twos c.loop-i.j none) c.requires.ones
    (stands ones c.loop-i.i none c.loop-i-test.true) (stands twos c.loop-i.j none c.if-j-twos.true)
    (sym c.is_before-else-is_before.ensures ∙ c.if-is_before-2.true) c.loop-i.invariant

pub loop-i-preserved : goal.loop-i-preserved
unfolding none
loop-i-preserved c =
    let ones = c.args.ones.now in
    let twos = c.args.twos.now in
    pass-both (asked c.args.question) ones twos c.loop-i.i c.loop-i.j (get_or ones c.loop-i.i none) (get_or twos c.loop-i.j none) c.requires.ones c.requires.twos
    (stands ones c.loop-i.i none c.loop-i-test.true) (stands twos c.loop-i.j none c.if-j-twos.true)
    (sym c.is_before.ensures ∙ c.if-is_before.false) (sym c.is_before-else-is_before.ensures ∙ c.if-is_before-2.false)
    (sym c.is_met.ensures ∙ c.if-is_met.false) c.loop-i.invariant
