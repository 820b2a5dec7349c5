use Rattle.std.proofs.Common.{◌≡◌, ◌<◌, ◌∙◌, [], length, get_or, map, refl, set, ap, sym, subst, arith, vec_capacity}
use Rattle.std.proofs.Math.Seq.{map-set_same}
use Rattle.std.proofs.lemmas.List.{get_or-set_same, length-map, map-set}
use Rattle.std.proofs.lemmas.Result.{on_ok_weaker}
use Rattle.ot_job_roster.specs.Members.{Tells}
use Rattle.ot_job_roster.specs.RosterView.{kept_of}
use Rattle.ot_job_roster.proofs.TellsLemmas.{tells-roomy}
use Rattle.ot_job_roster.proofs.roster.Roster.make_room.Goals.{After-reserve}
use Rattle.ot_job_roster.proofs.roster.Roster.make_room.Goals as goal

-- no number changes where a list grows
grown : (c : After-reserve) → map (λ v. v.items) (set c.self.inside.children.items c.args.parent c.reserve.new.self) ≡ map (λ v. v.items) c.self.inside.children.items
grown c = map-set_same (λ v. v.items) c.self.inside.children.items c.args.parent c.reserve.new.self c.index_mut.result.now (c.reserve.ensures.items ∙ ap (λ v. v.items) c.index_mut.ensures.value)

pub returns-in_err-reserve-clause-same : goal.returns-in_err-reserve-clause-same
returns-in_err-reserve-clause-same c = λ n s test old.
    tells-roomy n s test (kept_of c.self.inside) _ (grown (goal.at.returns-in_err-reserve-clause-same c).After-reserve) refl refl refl (subst (Tells n s test) (sym c.self.view_is) old)

pub returns-in_err-reserve-2-clause-same : goal.returns-in_err-reserve-2-clause-same
returns-in_err-reserve-2-clause-same c = λ n s test old.
    tells-roomy n s test (kept_of c.self.inside) _ (ap (map (λ v. v.items)) c.reserve-2.ensures.items ∙ grown (goal.at.returns-in_err-reserve-2-clause-same c).After-reserve) refl refl refl (subst (Tells n s test) (sym c.self.view_is) old)

pub returns-clause-same : goal.returns-clause-same
returns-clause-same c = λ n s test old.
    tells-roomy n s test (kept_of c.self.inside) _ (ap (map (λ v. v.items)) c.reserve-2.ensures.items ∙ grown (goal.at.returns-clause-same c).After-reserve) c.make_room_for.ensures.same refl refl (subst (Tells n s test) (sym c.self.view_is) old)

pub returns-clause-room : goal.returns-clause-room
returns-clause-room c =
    let items = c.self.inside.children.items in
    let now = c.reserve-2.new.self.items in
    let p = c.args.parent in
    let v = c.reserve.new.self in
    let within : p < length items = omega (arith, c.requires, ap (λ k. length k.numbers) c.self.view_is, length-map items (λ v. v.items)) in
    let numbers : get_or (map (λ v. v.items) now) p [] ≡ v.items =
    ap (λ l. get_or (map (λ v. v.items) l) p []) c.reserve-2.ensures.items ∙ ap (λ l. get_or l p []) (map-set (λ v. v.items) items p v)
    ∙ get_or-set_same (map (λ v. v.items) items) p v.items [] (omega (arith, within, length-map items (λ v. v.items))) in
    let rooms : get_or (map vec_capacity now) p 0 ≡ vec_capacity v =
    ap (λ l. get_or (map vec_capacity l) p 0) c.reserve-2.ensures.items ∙ ap (λ l. get_or l p 0) (map-set vec_capacity items p v)
    ∙ get_or-set_same (map vec_capacity items) p (vec_capacity v) 0 (omega (arith, within, length-map items vec_capacity)) in
    on_ok_weaker c.make_room_for.result (λ room. record {
      list = omega (arith, room, c.len.ensures, c.reserve-2.new.self.ok.0, length-map now (λ v. v.items));
      place = omega (arith, c.in_ok-reserve-2.ensures.ok, c.in_ok-reserve-2.ensures.len, c.reserve-2.new.self.ok.0, length-map now (λ v. v.items));
      child = omega (arith, c.in_ok-reserve.ensures.ok, c.in_ok-reserve.ensures.len, ap length numbers, rooms, v.ok.0);
    }) c.make_room_for.ensures.room
