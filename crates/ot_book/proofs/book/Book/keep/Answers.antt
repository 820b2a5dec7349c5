use Rattle.std.proofs.Common.{◌∙◌, sym, ap, Some}
use Rattle.std.specs.Arc.{arc_value}
use Rattle.ot_store.specs.Arrays.{shape_in}
use Rattle.ot_book.specs.Books.{Register}
use Rattle.ot_book.proofs.KeptLemmas.{reading-open}
use Rattle.ot_book.proofs.book.Book.keep.Goals as goal

pub new-requires : goal.new-requires
new-requires c =
    reading-open c.args.self.now c.args.spec.now (record { line = c.in-Ok.line.items; shape = c.in-Ok-shape.shape; checked = arc_value c.in-Ok-share.checked })
    c.requires.open (c.requires.line ∙ ap Some (sym c.in-Ok.ensures.items))
    (c.in-Ok-shape.ensures.shape ∙ ap (λ (r : Register). shape_in r.limits r.store) c.self.view_is) c.in-Ok-share.ensures c.checked.ensures.named
