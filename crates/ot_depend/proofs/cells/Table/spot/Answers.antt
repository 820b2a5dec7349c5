use Rattle.std.proofs.Common.{rules, refl, ◌≡◌, ◌<◌, List, length, Some, sym, ap, subst, ◌∙◌, arith}
use Rattle.std.specs.List.{slice_get}
use Rattle.std.proofs.lemmas.Option.{slice_get_within}
use Rattle.std.proofs.lemmas.List.{length-map}
use Rattle.ot_depend.specs.Kept.{HasRoom}
use Rattle.ot_depend.specs.Cells.{Line, line_of, lines_of, place_of, entry_at}
use Rattle.ot_depend.proofs.ListLemmas.{kept_at, here_at}
use Rattle.ot_depend.proofs.TableLemmas.{lines_of-set-same, with_users}
use Rattle.ot_depend.proofs.cells.Table.spot.Goals as goal

pub returns-in_err-make_room : goal.returns-in_err-make_room
returns-in_err-make_room c =
    let l = c.place.ensures.sound c.args.one.cell c.in_ok-place.place c.in_ok-place.ensures.placed in
    let inside = slice_get_within (lines_of c.place.new.self.rows.items) c.in_ok-place.place l.0 l.1 in
    let within : c.in_ok-place.place < length c.place.new.self.rows.items = omega (arith, length-map c.place.new.self.rows.items line_of) in
    let same = lines_of-set-same c.place.new.self.rows.items c.in_ok-place.place c.index_mut.result.now _ within c.index_mut.ensures.value (ap (with_users c.index_mut.result.now) c.make_room.ensures.same) in
    record {
      sound = λ q p is. subst (λ (ls : List Line). (l : Line) × (slice_get ls p ≡ Some l) × (l.cell ≡ q)) (sym same) (c.place.ensures.sound q p is);
      same = λ q. ap (λ ls. entry_at ls (place_of c.place.new.self q)) same ∙ c.place.ensures.same q;
      itself = search rules;
      placed = search rules;
      made = search rules;
      kept = search rules;
    }

pub returns : goal.returns
returns c =
    let l = c.place.ensures.sound c.args.one.cell c.in_ok-place.place c.in_ok-place.ensures.placed in
    let inside = slice_get_within (lines_of c.place.new.self.rows.items) c.in_ok-place.place l.0 l.1 in
    let within : c.in_ok-place.place < length c.place.new.self.rows.items = omega (arith, length-map c.place.new.self.rows.items line_of) in
    let same = lines_of-set-same c.place.new.self.rows.items c.in_ok-place.place c.index_mut.result.now _ within c.index_mut.ensures.value (ap (with_users c.index_mut.result.now) c.make_room.ensures.same) in
    record {
      sound = λ q p is. subst (λ (ls : List Line). (l : Line) × (slice_get ls p ≡ Some l) × (l.cell ≡ q)) (sym same) (c.place.ensures.sound q p is);
      same = λ q. ap (λ ls. entry_at ls (place_of c.place.new.self q)) same ∙ c.place.ensures.same q;
      itself = refl;
      placed = c.in_ok-place.ensures.placed;
      made = here_at (λ r. HasRoom r.users) c.place.new.self.rows.items c.in_ok-place.place _ c.in_ok-make_room.ensures.made;
      kept = λ s placed. (
        c.place.ensures.kept s.one.cell s.place placed,
        λ room. kept_at (λ r. HasRoom r.users) c.place.new.self.rows.items c.in_ok-place.place s.place _ c.in_ok-make_room.ensures.made (λ r there.
            let k = c.requires s.one.cell s.place placed in
            let known = slice_get_within (lines_of c.args.self.now.rows.items) s.place k.0 k.1 in
            let old : s.place < length c.args.self.now.rows.items = omega (arith, length-map c.args.self.now.rows.items line_of) in
            room r (sym (c.place.ensures.rows s.place old) ∙ there)),
      );
    }
