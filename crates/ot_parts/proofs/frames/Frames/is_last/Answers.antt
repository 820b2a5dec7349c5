use Rattle.std.proofs.Common.{arith, ◌≡◌, ◌++◌, ◌∷◌, ◌∙◌, [], List, ap}
use Rattle.std.specs.Arc.{arc_value}
use Rattle.std.proofs.lemmas.Bool.Decides.{nat_tests}
use Rattle.std.proofs.lemmas.List.{drop_all, nil_from_length}
use Rattle.ot_parts.specs.Left.{outer_parts}
use Rattle.ot_parts.specs.declared.frames.Frame.{Frame}
use Rattle.ot_parts.proofs.FrameLemmas.{next-drop}
use Rattle.ot_parts.proofs.frames.Frames.is_last.Goals as goal

pub returns-then-is_empty : goal.returns-then-is_empty
returns-then-is_empty c = λ last p next.
    let self = c.args.self.now in
    let items = (arc_value self.inner.body).items in
    let none : self.outer.items ≡ [] = nil_from_length self.outer.items (grind (arith, nat_tests, c.if-is_empty.true, c.is_empty.ensures, self.outer.ok)) in
    ap (λ l. l ++ outer_parts self.outer.items) (next-drop items self.inner.at p next ∙ ap (λ l. p ∷ l) (drop_all _ items (c.is_last.ensures.last last)))
    ∙ ap (λ (fs : List Frame). p ∷ outer_parts fs) none
