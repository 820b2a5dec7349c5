use Rattle.std.proofs.Common.{rules, ◌≡◌, ◌++◌, ◌∷◌, ◌∙◌, ◌+◌, ◌≤◌, [], List, ap, length, subst}
use Rattle.std.specs.Arc.{arc_value}
use Rattle.ot_parts.specs.Left.{frame_parts, outer_parts}
use Rattle.ot_parts.specs.declared.frames.Frame.{Frame}
use Rattle.ot_parts.proofs.FrameLemmas.{last-parts, outer-push, past-parts}
use Rattle.ot_parts.proofs.frames.Frames.go_into.Goals as goal

pub returns-then-not-is_last-clause-gone : goal.returns-then-not-is_last-clause-gone
returns-then-not-is_last-clause-gone c = λ p ps next left.
    let self = c.args.self.now in
    let items = (arc_value c.args.body).items in
    let around : Frame = record { body = c.replace-around.result.body; at = c.replace-around.result.at + 1 } in
    let was : c.replace-around.result ≡ self.inner = c.replace-around.ensures.value in
    ap (λ f. frame_parts f ++ outer_parts c.push_reserved.new.self.items) c.replace-around.ensures.after
    ∙ ap (λ l. items ++ outer_parts l) (c.push_reserved.ensures.items ∙ ap (λ (fs : List Frame). fs ++ around ∷ []) c.in_ok-reserve.ensures.items)
    ∙ ap (λ l. items ++ l) (outer-push self.outer.items around
    ∙ past-parts self around p ps next left (ap (λ (f : Frame). f.body) was) (ap (λ (f : Frame). f.at + 1) was))

pub returns-else-not-is_last-clause-gone : goal.returns-else-not-is_last-clause-gone
returns-else-not-is_last-clause-gone c = λ p ps next left.
    let self = c.args.self.now in
    let items = (arc_value c.args.body).items in
    let was : c.replace-around.result ≡ self.inner = c.replace-around.ensures.value in
    ap (λ f. frame_parts f ++ outer_parts c.reserve.new.self.items) c.replace-around.ensures.after
    ∙ ap (λ (fs : List Frame). items ++ outer_parts fs) c.in_ok-reserve.ensures.items
    ∙ ap (λ l. items ++ l) (last-parts self p ps next left (subst (λ (f : Frame). length (arc_value f.body).items ≤ f.at + 1) was (c.is_last.ensures.last (search rules))))
