use Rattle.std.proofs.Common.{◌∙◌, refl, sym}
use Rattle.ot_race.specs.declared.lanes.Lane.{Lane}
use Rattle.ot_race.proofs.LaneLemmas.{first_seen, row_changed}
use Rattle.ot_race.proofs.lanes.Lane.put.Goals as goal

pub put_first-requires : goal.put_first-requires
put_first-requires c = sym c.is_of.ensures ∙ c.if-is_of.false

pub returns-then-is_of : goal.returns-then-is_of
returns-then-is_of c =
    let old = c.args.self.now in
    let new : Lane = record { parent = old.parent; row = c.args.row; others = old.others } in
    let first = sym c.is_of.ensures ∙ c.if-is_of.true in
    (λ m. first_seen new c.args.parent m first, row_changed old new c.args.parent refl refl first)
