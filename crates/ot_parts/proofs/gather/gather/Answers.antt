use Rattle.std.proofs.Common.{arith, ◌≡◌, ◌∙◌, ◌<◌, ◌+◌, drop, length, sym, ap, subst}
use Rattle.ot_model.specs.Tree.{append}
use Rattle.ot_parts.specs.Assigns.{assigns_of}
use Rattle.ot_parts.specs.Parts.{part_of, parts_of}
use Rattle.ot_parts.proofs.GatherLemmas.{Gathered, all-gathered, at-part, run-gathered}
use Rattle.ot_parts.proofs.gather.gather.Goals as goal

pub returns-then-has_control : goal.returns-then-has_control
returns-then-has_control c = λ b.
    let i = c.loop-i.i in
    let items = c.args.parts.now.items in
    let part = c.index-part.result.now in
    let run = assigns_of c.loop-i.run.items in
    let whole = assigns_of c.args.run.now.items in
    let all = append (parts_of (drop c.args.at items)) b in
    let within : i < length items = omega (arith, c.loop-i-test.true, c.len-i-end.ensures, c.args.parts.now.ok.0) in
    let put : assigns_of c.push_copies.new.run.items ≡ append run (part_of part).run = c.in_ok-push_copies.ensures ∙ ap (append run) (c.as_slice.ensures ∙ c.assigns.ensures) in
    all-gathered (part_of part) run (assigns_of c.push_copies.new.run.items) whole (append (parts_of (drop (i + 1) items)) b) all c.has_control.ensures.part
    (sym c.has_control.ensures.is ∙ c.if-has_control.true) put
    (subst (λ x. Gathered run whole x all) (at-part items i part b within c.index-part.ensures) (c.loop-i.invariant b))

pub loop-i-preserved : goal.loop-i-preserved
loop-i-preserved c = λ b.
    let i = c.loop-i.i in
    let items = c.args.parts.now.items in
    let part = c.index-part.result.now in
    let run = assigns_of c.loop-i.run.items in
    let whole = assigns_of c.args.run.now.items in
    let all = append (parts_of (drop c.args.at items)) b in
    let within : i < length items = omega (arith, c.loop-i-test.true, c.len-i-end.ensures, c.args.parts.now.ok.0) in
    let put : assigns_of c.push_copies.new.run.items ≡ append run (part_of part).run = c.in_ok-push_copies.ensures ∙ ap (append run) (c.as_slice.ensures ∙ c.assigns.ensures) in
    run-gathered (part_of part) run (assigns_of c.push_copies.new.run.items) whole (append (parts_of (drop (i + 1) items)) b) all c.has_control.ensures.part
    (sym c.has_control.ensures.is ∙ c.if-has_control.false) put
    (subst (λ x. Gathered run whole x all) (at-part items i part b within c.index-part.ensures) (c.loop-i.invariant b))
