use Rattle.std.proofs.Common.{◌<◌, ℕ, List, length, All, sym, ap, subst, ◌∙◌}
use Rattle.std.proofs.lemmas.List.{length-map}
use Rattle.ot_depend.specs.Kept.{decls}
use Rattle.ot_depend.specs.Cells.{lines_of, found_all}
use Rattle.ot_depend.specs.Children.{kid_of, kids_of}
use Rattle.ot_depend.specs.View.{siblings_in}
use Rattle.ot_depend.proofs.KeptLemmas.{earlier_known, RowsTell-same}
use Rattle.ot_depend.proofs.kept.Kept.plan.Goals as goal

pub make_rooms-requires : goal.make_rooms-requires
make_rooms-requires c =
    let tell = RowsTell-same (decls (siblings_in c.args.self.now)) c.args.self.now.cells c.spots.new.self c.spots.ensures.same c.requires.rows in
    let known : All (λ p. p < length (kids_of c.args.self.now.children.items)) c.earlier.new.earlier.items =
    earlier_known (kids_of c.args.self.now.children.items) c.spots.new.self c.spots.new.spots.items c.earlier.new.earlier.items tell c.in_ok-spots.ensures.placed
    (c.in_ok-earlier.ensures ∙ ap (found_all (lines_of c.spots.new.self.rows.items)) c.deref.ensures.value) in
    subst (λ (es : List ℕ). All (λ p. p < length c.args.self.now.children.items) es) (sym c.deref-2.ensures.value)
    (subst (λ (n : ℕ). All (λ p. p < n) c.earlier.new.earlier.items) (length-map c.args.self.now.children.items kid_of) known)
