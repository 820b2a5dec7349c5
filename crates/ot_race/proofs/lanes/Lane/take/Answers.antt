use Rattle.std.proofs.Common.{◌∙◌, refl, sym, ap}
use Rattle.ot_race.specs.Siblings.{seen_in}
use Rattle.ot_race.specs.declared.lanes.Lane.{Lane}
use Rattle.ot_race.proofs.LaneLemmas.{first_seen, other_seen, row_changed, others_changed}
use Rattle.ot_race.proofs.lanes.Lane.take.Goals as goal

pub returns-then-is_of-clause-was : goal.returns-then-is_of-clause-was
returns-then-is_of-clause-was c = λ m.
    first_seen c.args.self.now c.args.parent m (sym c.is_of.ensures ∙ c.if-is_of.true) ∙ ap (λ r. seen_in r m) (sym c.replace.ensures.value)

pub returns-then-is_of-clause-others : goal.returns-then-is_of-clause-others
returns-then-is_of-clause-others c =
    let old = c.args.self.now in
    let new : Lane = record { parent = old.parent; row = c.replace.new.dest; others = old.others } in
    row_changed old new c.args.parent refl refl (sym c.is_of.ensures ∙ c.if-is_of.true)

pub returns-else-is_of-clause-was : goal.returns-else-is_of-clause-was
returns-else-is_of-clause-was c = λ m.
    other_seen c.args.self.now c.args.parent m (sym c.is_of.ensures ∙ c.if-is_of.false) ∙ c.take_other.ensures.was m

pub returns-else-is_of-clause-others : goal.returns-else-is_of-clause-others
returns-else-is_of-clause-others c =
    let e = c.take_other.ensures in
    others_changed c.args.self.now c.take_other.new.self c.args.parent e.first e.row e.others
