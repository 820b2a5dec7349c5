use Rattle.std.proofs.Common.{rules, arith, ◌≡◌, ◌∙◌, [], ◌∷◌, ◌++◌, sym, ap}
use Rattle.std.specs.Prelude.{Vec}
use Rattle.std.specs.Global.{Global}
use Rattle.std.specs.Arc.{arc_value}
use Rattle.std.proofs.lemmas.List.{nil_from_length}
use Rattle.ot_model.specs.Tree.{append}
use Rattle.ot_model.proofs.TreeLemmas as tree
use Rattle.ot_parts.specs.Assigns.{assigns_of}
use Rattle.ot_parts.specs.Parts.{parts_of}
use Rattle.ot_parts.specs.declared.part.Part.{Part, the_lemmas}
use Rattle.ot_parts.specs.declared.part.Part.TheVariants as v
use Rattle.ot_parts.proofs.MakeLemmas.{add-end}
use Rattle.ot_parts.proofs.making.end.Goals.{then-not-is_empty+in_ok-new+in_ok-push, else-not-is_empty}
use Rattle.ot_parts.proofs.making.end.Goals as goal

pub returns-in-Ok : goal.returns-in-Ok
returns-in-Ok c =
    elim c.if-not-is_empty.branch [
      | then-not-is_empty+in_ok-new+in_ok-push w ↦
          let put : (arc_value c.in-Ok.shared).items ≡ c.args.parts.items ++ v.End w.in_ok-new.field-0 ∷ [] =
          ap (λ (v : Vec Part Global). v.items) (c.in-Ok.ensures.ok ∙ w.parts-is) ∙ w.in_ok-push.ensures.items in
          add-end c.args.parts.items _ _ c.args.run.items put (search (rules, the_lemmas, w.in_ok-new.ensures))
      | else-not-is_empty w ↦
          let none : c.args.run.items ≡ [] = nil_from_length c.args.run.items (grind (arith, w.if-not-is_empty.false, c.is_empty.ensures, c.args.run.ok)) in
          ap (λ (v : Vec Part Global). parts_of v.items) (c.in-Ok.ensures.ok ∙ w.parts-is)
          ∙ sym (tree.append-End (parts_of c.args.parts.items)) ∙ ap (λ l. append (parts_of c.args.parts.items) (assigns_of l)) (sym none)
    ]
