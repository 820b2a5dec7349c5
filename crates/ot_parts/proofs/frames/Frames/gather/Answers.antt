use Rattle.std.proofs.Common.{◌≡◌, ◌∙◌, ◌++◌, [], List, drop, sym, ap, subst}
use Rattle.std.specs.Prelude.{Vec}
use Rattle.std.specs.Global.{Global}
use Rattle.std.proofs.lemmas.List.{nil_from_length}
use Rattle.ot_model.specs.Tree.{append}
use Rattle.ot_model.proofs.TreeLemmas as tree
use Rattle.ot_parts.specs.Assigns.{assigns_of}
use Rattle.ot_parts.specs.Parts.{leading, after_parts, test_of, part_of, parts_of}
use Rattle.ot_parts.specs.Left.{PassesAll, StopsAt, frame_parts, outer_parts, parts_left}
use Rattle.ot_parts.specs.declared.part.Part.{Part}
use Rattle.ot_parts.specs.declared.frames.Frame.{Frame}
use Rattle.ot_parts.proofs.FrameLemmas.{outer-push}
use Rattle.ot_parts.proofs.GatherLemmas.{Gathered, joined-on, passed, stopped}
use Rattle.ot_parts.proofs.frames.Frames.gather.Goals as goal

pub returns-in-Some-clause-run : goal.returns-in-Some-clause-run
returns-in-Some-clause-run c =
    let self = c.args.self.now in
    let whole = assigns_of c.args.run.now.items in
    let more = assigns_of c.gather.new.run.items in
    let stops : StopsAt (frame_parts self.inner) whole more (part_of c.in-Some.part.now) =
    subst (λ (v : Vec Part Global). StopsAt (drop self.inner.at v.items) whole more (part_of c.in-Some.part.now)) c.deref.ensures (rw c.in-Some.is at c.in_ok-part.ensures) in
    (stopped (frame_parts self.inner) (outer_parts self.outer.items) whole more (part_of c.in-Some.part.now) stops).0

pub returns-in-Some-clause-condition : goal.returns-in-Some-clause-condition
returns-in-Some-clause-condition c =
    let self = c.args.self.now in
    let whole = assigns_of c.args.run.now.items in
    let more = assigns_of c.gather.new.run.items in
    let stops : StopsAt (frame_parts self.inner) whole more (part_of c.in-Some.part.now) =
    subst (λ (v : Vec Part Global). StopsAt (drop self.inner.at v.items) whole more (part_of c.in-Some.part.now)) c.deref.ensures (rw c.in-Some.is at c.in_ok-part.ensures) in
    (stopped (frame_parts self.inner) (outer_parts self.outer.items) whole more (part_of c.in-Some.part.now) stops).1

pub loop-frame-init : goal.loop-frame-init
loop-frame-init c =
    let self = c.args.self.now in
    let whole = assigns_of c.args.run.now.items in
    let more = assigns_of c.gather.new.run.items in
    let passes : PassesAll (frame_parts self.inner) whole more =
    subst (λ (v : Vec Part Global). PassesAll (drop self.inner.at v.items) whole more) c.deref.ensures (rw c.in_default.is at c.in_ok-part.ensures) in
    subst (λ (fs : List Frame). Gathered more whole (parts_of (outer_parts fs)) (parts_of (parts_left self))) (sym c.as_slice-left.ensures.value)
    (passed (frame_parts self.inner) (outer_parts self.outer.items) whole more passes)

pub returns-in-Some-2-clause-run : goal.returns-in-Some-2-clause-run
returns-in-Some-2-clause-run c =
    let frame = c.in-Some-split_last.frame.now in
    let behind_it = c.in-Some-split_last.more.now in
    let run = assigns_of c.loop-frame.run.items in
    let more = assigns_of c.gather-in-Some-split_last.new.run.items in
    let part = part_of c.in-Some-2.part.now in
    let stops : StopsAt (frame_parts frame) run more part =
    subst (λ (v : Vec Part Global). StopsAt (drop frame.at v.items) run more part) c.deref-in-Some-split_last.ensures (rw c.in-Some-2.is at c.in_ok-part-2.ensures) in
    let left : outer_parts c.loop-frame.left.now ≡ frame_parts frame ++ outer_parts behind_it = ap outer_parts c.in-Some-split_last.ensures.cases.0 ∙ outer-push behind_it frame in
    (stopped (frame_parts frame) (outer_parts behind_it) run more part stops).0 ∙ ap (λ l. append run (leading (parts_of l))) (sym left) ∙ c.loop-frame.invariant.0

pub returns-in-Some-2-clause-condition : goal.returns-in-Some-2-clause-condition
returns-in-Some-2-clause-condition c =
    let frame = c.in-Some-split_last.frame.now in
    let behind_it = c.in-Some-split_last.more.now in
    let run = assigns_of c.loop-frame.run.items in
    let more = assigns_of c.gather-in-Some-split_last.new.run.items in
    let part = part_of c.in-Some-2.part.now in
    let stops : StopsAt (frame_parts frame) run more part =
    subst (λ (v : Vec Part Global). StopsAt (drop frame.at v.items) run more part) c.deref-in-Some-split_last.ensures (rw c.in-Some-2.is at c.in_ok-part-2.ensures) in
    let left : outer_parts c.loop-frame.left.now ≡ frame_parts frame ++ outer_parts behind_it = ap outer_parts c.in-Some-split_last.ensures.cases.0 ∙ outer-push behind_it frame in
    (stopped (frame_parts frame) (outer_parts behind_it) run more part stops).1 ∙ ap (λ l. test_of (after_parts (parts_of l))) (sym left) ∙ ap test_of c.loop-frame.invariant.1

pub loop-frame-preserved : goal.loop-frame-preserved
loop-frame-preserved c =
    let frame = c.in-Some-split_last.frame.now in
    let behind_it = c.in-Some-split_last.more.now in
    let run = assigns_of c.loop-frame.run.items in
    let more = assigns_of c.gather-in-Some-split_last.new.run.items in
    let all = parts_of (parts_left c.args.self.now) in
    let passes : PassesAll (frame_parts frame) run more =
    subst (λ (v : Vec Part Global). PassesAll (drop frame.at v.items) run more) c.deref-in-Some-split_last.ensures (rw c.in_default-2.is at c.in_ok-part-2.ensures) in
    let left : outer_parts c.loop-frame.left.now ≡ frame_parts frame ++ outer_parts behind_it = ap outer_parts c.in-Some-split_last.ensures.cases.0 ∙ outer-push behind_it frame in
    joined-on more run (assigns_of c.args.run.now.items) (parts_of (outer_parts behind_it)) (parts_of (frame_parts frame ++ outer_parts behind_it)) all
    (passed (frame_parts frame) (outer_parts behind_it) run more passes)
    (subst (λ l. Gathered run (assigns_of c.args.run.now.items) (parts_of l) all) left c.loop-frame.invariant)

pub returns-clause-run : goal.returns-clause-run
returns-clause-run c =
    let none : c.loop-frame.left.now ≡ [] = nil_from_length c.loop-frame.left.now c.in_default-split_last.ensures.cases in
    sym (tree.append-End (assigns_of c.loop-frame.run.items)) ∙ ap (λ (fs : List Frame). append (assigns_of c.loop-frame.run.items) (leading (parts_of (outer_parts fs)))) (sym none)
    ∙ c.loop-frame.invariant.0
