use Rattle.std.proofs.Common.{◌<◌, ◌∙◌, ap, sym, arith, length}
use Rattle.std.proofs.lemmas.Option.{slice_get_within}
use Rattle.std.proofs.lemmas.List.{length-map}
use Rattle.ot_depend.specs.Kept.{Entry}
use Rattle.ot_depend.specs.Children.{kids_of}
use Rattle.ot_depend.specs.Cells.{line_of, lines_of, entry_at, must_wait}
use Rattle.ot_depend.specs.declared.cells.Table.{Table}
use Rattle.ot_depend.proofs.TableLemmas.{entry_read}
use Rattle.ot_depend.proofs.cells.Table.must_wait.Goals as goal

pub index-requires : goal.index-requires
index-requires c =
    let t : Table = c.args.self.now in
    let l = c.requires c.args.one.cell c.in-Some.place (sym c.of.ensures ∙ c.in-Some.is) in
    omega (arith, slice_get_within (lines_of t.rows.items) c.in-Some.place l.0 l.1, length-map t.rows.items line_of, t.rows.ok.0)

pub returns-in-Some : goal.returns-in-Some
returns-in-Some c =
    let t : Table = c.args.self.now in
    let known = sym c.of.ensures ∙ c.in-Some.is in
    let l = c.requires c.args.one.cell c.in-Some.place known in
    let within : c.in-Some.place < length t.rows.items = omega (arith, slice_get_within (lines_of t.rows.items) c.in-Some.place l.0 l.1, length-map t.rows.items line_of) in
    c.must_wait.ensures
    ∙ ap (λ (e : Entry). must_wait (kids_of c.args.children.now) c.args.one.mode e)
    (sym (entry_read t.rows.items c.in-Some.place c.index.result.now within c.index.ensures) ∙ ap (entry_at (lines_of t.rows.items)) (sym known))
