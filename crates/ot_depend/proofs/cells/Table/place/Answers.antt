use Rattle.std.proofs.Common.{rules, ◌≡◌, ℕ, List, [], cond, Option, Some, None, refl, sym, ap, subst, ◌∙◌, arith, length}
use Rattle.std.specs.List.{slice_get}
use Rattle.ot_model.specs.Cells.{same_cell}
use Rattle.ot_model.specs.declared.expr.Cell.{Cell}
use Rattle.ot_depend.specs.Places.{place_in}
use Rattle.ot_depend.specs.Cells.{Line, place_of, lines_of, entry_at}
use Rattle.ot_depend.specs.declared.cells.Table.{Table}
use Rattle.ot_depend.proofs.SiblingsLemmas.{slice_get-push}
use Rattle.ot_depend.proofs.ReadyLemmas.{cell_itself}
use Rattle.ot_depend.proofs.LineLemmas.{Sound-front, entry-front, Sound-new, entry-new, place-kept, placed-new}
use Rattle.ot_depend.proofs.TableLemmas.{front_pushed, last_pushed}
use Rattle.ot_depend.proofs.cells.Table.place.Goals as goal

pub returns-in_err-make : goal.returns-in_err-make
returns-in_err-make c =
    let same = c.make.ensures.same in
    record {
      sound = λ q p is. c.requires q p (sym (same q) ∙ is);
      same = λ q. ap (entry_at (lines_of c.args.self.now.rows.items)) (same q);
      placed = search rules;
      kept = λ q p is. same q ∙ is;
      rows = λ place within. refl;
    }

pub returns-in_err-push : goal.returns-in_err-push
returns-in_err-push c =
    let same = c.make.ensures.same in
    let lines : lines_of c.push.new.self.items ≡ lines_of c.args.self.now.rows.items = ap lines_of c.in_err-push.ensures.items in
    record {
      sound = λ q p is. subst (λ (ls : List Line). (l : Line) × (slice_get ls p ≡ Some l) × (l.cell ≡ q)) (sym lines) (c.requires q p (sym (same q) ∙ is));
      same = λ q. ap (entry_at (lines_of c.push.new.self.items)) (same q) ∙ ap (λ ls. entry_at ls (place_of c.args.self.now q)) lines;
      placed = search rules;
      kept = λ q p is. same q ∙ is;
      rows = λ place within. ap (λ rows. slice_get rows place) c.in_err-push.ensures.items;
    }

-- a line with these users alone
fresh : Cell → List ℕ → Option Line
fresh cell users = Some (record { cell = cell; entry = record { writer = None; users = users } })

pub returns : goal.returns
unfolding fresh
returns c =
    let old : Table = c.args.self.now in
    let at2 : Cell → Option ℕ = place_in c.set.new.self in
    let more : List Line = lines_of c.push.new.self.items in
    let front = front_pushed old.rows.items c.push.new.self.items _ c.in_ok-push.ensures.items in
    let at_end : length old.rows.items ≡ c.len-place.result = omega (arith, c.len-place.ensures, old.rows.ok.0) in
    let there : slice_get more c.len-place.result ≡ fresh c.args.cell [] = ap (slice_get more) (sym at_end) ∙ last_pushed old.rows.items c.push.new.self.items _ c.in_ok-push.ensures.items ∙ ap (fresh c.args.cell) c.new.ensures.items in
    let placed : (q : Cell) → at2 q ≡ cond (same_cell c.args.cell q) (Some c.len-place.result) (place_of old q) =
    placed-new (place_of old) at2 c.args.cell c.len-place.result c.set.ensures.there (λ q apart. c.set.ensures.others q apart ∙ c.make.ensures.same q) in
    let none : place_of old c.args.cell ≡ None = sym c.of.ensures ∙ c.in_default.is in
    let sound = Sound-front (place_of old) (lines_of old.rows.items) more c.requires front in
    record {
      sound = Sound-new (place_of old) at2 more c.args.cell c.len-place.result sound there placed none;
      same = λ q. entry-new (place_of old) at2 more c.args.cell c.len-place.result sound there placed none q ∙ entry-front (place_of old) (lines_of old.rows.items) more c.requires front q;
      placed = placed c.args.cell ∙ ap (λ b. cond b (Some c.len-place.result) (place_of old c.args.cell)) (cell_itself c.args.cell c.args.cell refl);
      kept = place-kept (place_of old) at2 more c.args.cell c.len-place.result sound there placed none;
      rows = λ place within. ap (λ rows. slice_get rows place) c.in_ok-push.ensures.items ∙ slice_get-push old.rows.items _ place within;
    }
