use Rattle.std.proofs.Common.{◌∙◌, refl, ap, Some}
use Rattle.ot_race.specs.Siblings.{seen_in}
use Rattle.ot_race.specs.declared.lanes.Lane.{Lane}
use Rattle.ot_race.proofs.LaneLemmas.{first_seen, row_first, itself, apart_cmp}
use Rattle.ot_race.proofs.lanes.Lane.put_first.Goals as goal

pub returns : goal.returns
returns c =
    let old = c.args.self.now in
    let new : Lane = record { parent = c.args.parent; row = c.replace-before.new.dest; others = c.insert.new.self } in
    let e = c.in_ok-insert.ensures.updates in (
      λ m. first_seen new c.args.parent m (itself c.args.parent) ∙ ap (λ r. seen_in r m) c.replace-before.ensures.after,
      row_first old new c.args.parent refl c.requires (e.1 ∙ ap Some c.replace-before.ensures.value) (λ p apart. e.2 p (apart_cmp old.parent p apart)),
    )
