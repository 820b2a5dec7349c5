use Rattle.std.proofs.Common.{◌≡◌, ◌∙◌, List, [], get_or, map, set, sym, subst}
use Rattle.std.proofs.lemmas.Result.{IfOk-weaker}
use Rattle.ot_race_locks.specs.Kinds.{kind, groups_of, kind_row, KindFits}
use Rattle.ot_race_locks.specs.declared.group.Group.{Group}
use Rattle.ot_race.proofs.PlaceLemmas.{read_at, set_here, set_other, place_read}
use Rattle.ot_race_locks.proofs.ListLemmas.{on_ok_always}
use Rattle.ot_race_locks.proofs.kept.Row.add.Goals as goal

pub returns-clause-there : goal.returns-clause-there
returns-clause-there c =
    let items = c.reach.new.self.lines.items in
    let i = c.args.index in
    let there = c.in_ok-reach.ensures.there in
    let line = c.index_mut.result.now in
    let before : groups_of line ≡ get_or (kind_row c.args.self.now) i [] =
    sym (read_at groups_of items i line [] (place_read items i line there c.index_mut.ensures.value)) ∙ c.in_ok-reach.ensures.same i in
    IfOk-weaker c.add.result _ _
    (λ fits e.
    subst (λ (gs : List Group). KindFits (kind c.args.set c.args.mode) c.args.number c.args.known.now gs (get_or (map groups_of (set items i c.add.new.self)) i []) fits) before
    (subst (λ (gs : List Group). KindFits (kind c.args.set c.args.mode) c.args.number c.args.known.now (groups_of line) gs fits)
    (sym (set_here groups_of items i c.add.new.self [] there)) e)) c.add.ensures

pub returns-clause-others : goal.returns-clause-others
returns-clause-others c =
    let items = c.reach.new.self.lines.items in
    on_ok_always c.add.result (λ j apart. set_other groups_of items c.args.index j c.add.new.self [] apart ∙ c.in_ok-reach.ensures.same j)
