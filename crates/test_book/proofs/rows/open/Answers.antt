use Rattle.std.proofs.Common.{◌≡◌, ◌≢◌, ◌∙◌, ◌∷◌, [], ◌++◌, ap, sym, subst}
use Rattle.std.specs.Prelude.{All, None, replicate}
use Rattle.ot_model.specs.declared.expr.Cell.{Cell}
use Rattle.ot_owner.specs.Owning.{Owned, IsFreeFor, Summed, IsSummed}
use Rattle.test_book.specs.TwoGroups.{nth}
use Rattle.test_book.proofs.TwoLemmas.{none-free, only-one, over-opened}
use Rattle.test_book.proofs.rows.open.Goals as goal

pub returns-clause-opened : goal.returns-clause-opened
returns-clause-opened c =
    let g : Summed = record { group = c.args.group; op = c.args.op; uses = c.in_ok-room.room; rows = replicate 17 None } in
    (g, over-opened c.args.group c.args.op c.args.index c.in_ok-room.room c.in_ok-room.ensures.names, c.open_group.ensures.groups ∙ ap (λ (o : Owned). o.groups ++ g ∷ []) c.in_ok-room.ensures.owned)

pub open_group-requires-clause-new : goal.open_group-requires-clause-new
open_group-requires-clause-new c = subst (λ (o : Owned). All (λ g. g.group ≢ c.args.group) o.groups) (sym c.in_ok-room.ensures.owned) c.requires.new

pub open_group-requires-clause-unnamed : goal.open_group-requires-clause-unnamed
open_group-requires-clause-unnamed c = λ cell named summed.
    let one : cell ≡ nth c.args.index = only-one (nth c.args.index) cell ((c.in_ok-room.ensures.names cell).0 named) in
    c.requires.unnamed (subst (λ (d : Cell). IsSummed c.args.owners.now.owned.groups d) one (subst (λ (o : Owned). IsSummed o.groups cell) c.in_ok-room.ensures.owned summed))

pub open_group-requires-clause-unused : goal.open_group-requires-clause-unused
open_group-requires-clause-unused c = none-free c.room_again.new.owners.owned.out c.in_ok-room.room (ap (λ (o : Owned). o.out) c.in_ok-room.ensures.owned ∙ c.requires.none)
