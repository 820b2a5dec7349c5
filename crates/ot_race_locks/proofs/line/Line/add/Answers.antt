use Rattle.std.proofs.Common.{◌<◌, length, sym, ap, subst, ◌∙◌, arith}
use Rattle.std.proofs.lemmas.Result.{IfOk-weaker}
use Rattle.ot_race.proofs.OrderLemmas.{some_is}
use Rattle.ot_race.proofs.PlaceLemmas.{place_read}
use Rattle.ot_race_locks.specs.Kinds.{kind, kind_of, groups_of, HasGrown}
use Rattle.ot_race_locks.proofs.GroupLemmas.{fits_begun, grown_at}
use Rattle.ot_race_locks.proofs.ListLemmas.{got_within}
use Rattle.ot_race_locks.proofs.line.Line.add.Goals as goal

pub returns-in_default : goal.returns-in_default
returns-in_default c =
    IfOk-weaker c.begin.result _ _
    (fits_begun (groups_of c.args.self.now) (groups_of c.begin.new.self) (kind c.args.set c.args.mode) c.args.number c.args.known.now c.in_default.ensures) c.begin.ensures

pub index_mut-requires : goal.index_mut-requires
index_mut-requires c =
    let groups = c.args.self.now.groups in
    let found = c.in-Some.ensures in
    let l : c.in-Some.place < length groups.items = got_within groups.items c.in-Some.place found.0 found.1 in
    omega (arith, l, groups.ok.0)

pub returns : goal.returns
returns c =
    let groups = c.args.self.now.groups.items in
    let p = c.in-Some.place in
    let found = c.in-Some.ensures in
    let g = c.index_mut.result.now in
    let own = kind c.args.set c.args.mode in
    let at = place_read groups p g (got_within groups p found.0 found.1) c.index_mut.ensures.value in
    let is = ap kind_of (some_is g found.0 (sym at ∙ found.1)) ∙ found.2 in
    grown_at groups p g c.add.new.self own c.args.number c.args.known.now at
    (subst (λ k. HasGrown k c.args.number c.args.known.now g c.add.new.self) is c.in_ok-add.ensures)
