use Rattle.std.proofs.Common.{◌≡◌, ◌+◌, ◌<◌, ◌≤◌, ◌-◌, ◌^◌, ◌++◌, [], ◌∷◌, ℕ, List, length, map, get_or, sym, ap, ◌∙◌, subst, arith, Some, None, false}
use Rattle.std.specs.Prelude.{option_map}
use Rattle.ot_model.specs.Cells.{lengths}
use Rattle.ot_model.specs.Names.{FitsShape}
use Rattle.ot_model.specs.Programs.{expanded_of}
use Rattle.ot_model.specs.Serial.{State as RunState, serial_run}
use Rattle.ot_model.proofs.SerialLemmas.{serial_run-≤}
use Rattle.ot_store.specs.Arrays.{cells_in, with_cells}
use Rattle.ot_book.specs.Answers.{Done, Runs, numbers_shown}
use Rattle.ot_book.specs.Books.{Register, next_step, open_step, register_with_line, line_logged, request_closed}
use Rattle.ot_book.specs.BookView.{register_of, entries_of}
use Rattle.ot_book.specs.declared.book.Book.TheInside.{Inside}
use Rattle.ot_book.proofs.CloseLemmas.{lengths-meaning, logged-done, register-from, numbers-from, entries_of-pushed, line-pending, register-is}
use Rattle.ot_book.proofs.BookLemmas.{logged-other, runs-other}
use Rattle.ot_book.proofs.OpenLemmas.{book-appended}
use Rattle.ot_book.proofs.book.Book.close.Goals as goal

pub show_all-requires-clause-long : goal.show_all-requires-clause-long
show_all-requires-clause-long c =
    let b = register_of c.self.inside in
    let p = c.in-Some.pending in
    let kept : c.self.inside.pending ≡ Some p = sym c.take.ensures.value ∙ c.in-Some.is in
    let line = line-pending c.self.inside.pending p kept in
    numbers-from _ _ c.requires.open.asks (λ asks.
    let runs : next_step b p.line.items ≡ Runs (expanded_of c.args.spec.checked.program) =
    ap (next_step b) (sym line) ∙ ap open_step c.self.view_is ∙ asks in
    (c.self.invariant.room p kept).lists (expanded_of c.args.spec.checked.program) runs
    ∙ ap (λ q. map (λ s. s.len) q.program.shows.items) (sym c.checked.ensures.checked))

pub show_all-requires-clause-there : goal.show_all-requires-clause-there
show_all-requires-clause-there c = λ k d below.
    let same : lengths c.args.outcome.cells ≡ lengths c.args.spec.before = lengths-meaning c.args.spec c.args.outcome c.requires.meaning in
    let shows = c.checked.ensures.named.shows in
    let inside : k < length c.args.spec.checked.program.shows.items = subst (λ q. k < length q.program.shows.items) c.checked.ensures.checked below in
    subst (λ lens. FitsShape lens (get_or c.checked.result.now.program.shows.items k d)) (sym same)
    (subst (λ q. FitsShape (lengths c.args.spec.before) (get_or q.program.shows.items k d)) (sym c.checked.ensures.checked) (shows k d inside))

pub set_cells-requires : goal.set_cells-requires
set_cells-requires c =
    lengths-meaning c.args.spec c.args.outcome c.requires.meaning
    ∙ ap lengths c.requires.open.cells
    ∙ ap (λ (r : Register). lengths (cells_in r.store)) (sym c.self.view_is)

-- the fields after the reply was logged
abbrev now_inside : goal.After-drop-spec-inside-2 → Inside
now_inside c = record {
  name = c.self.inside.name;
  limits = c.self.inside.limits;
  base = c.self.inside.base;
  store = c.set_cells.new.self;
  log = c.push_reserved.new.self;
  pending = c.take.new.self;
  used = c.self.inside.used + c.from.result;
  first = c.self.inside.first;
  base_used = c.self.inside.base_used;
  kept = c.self.inside.kept;
}

logged_is : (c : goal.After-drop-spec-inside-2) → register_of (now_inside c) ≡ register_with_line (register_of c.self.inside) c.in-Some.pending.line.items false
logged_is c =
    let inside = c.self.inside in
    let b = register_of inside in
    let p = c.in-Some.pending in
    let spec = c.args.spec in
    let outcome = c.args.outcome in
    let kept : inside.pending ≡ Some p = sym c.take.ensures.value ∙ c.in-Some.is in
    let line = line-pending inside.pending p kept in
    let cells = c.requires.open.cells ∙ ap (λ (r : Register). cells_in r.store) (sym c.self.view_is) in
    let shows : List (List ℕ) = map (λ l. l.items) c.show_all.new.lists.items in
    let shown_is : shows ≡ numbers_shown (expanded_of spec.checked.program).shows outcome.cells =
    c.show_all.ensures ∙ ap (λ q. numbers_shown q.program.shows.items outcome.cells) c.checked.ensures.checked in
    let log : entries_of c.push_reserved.new.self.items ≡ b.log ++ (p.line.items, Done outcome.counts.tasks outcome.counts.units shows) ∷ [] =
    entries_of-pushed inside.log.items c.push_reserved.new.self.items _ c.push_reserved.ensures.items in
    let changed = register-is b _ (with_cells b.store outcome.cells) _ _ _ None _ (b.used + outcome.counts.units)
    c.set_cells.ensures log (ap (option_map (λ q. q.line.items)) c.take.ensures.after) (ap (λ n. inside.used + n) c.from.ensures) in
    register-from _ _ c.requires.open.asks (λ asks.
    let runs : next_step b p.line.items ≡ Runs (expanded_of spec.checked.program) =
    ap (next_step b) (sym line) ∙ ap open_step c.self.view_is ∙ asks in
    changed ∙ sym (logged-done b p.line.items spec outcome shows runs cells c.requires.meaning shown_is))

pub invariant_of-self : goal.invariant_of-self
invariant_of-self c =
    let inside = c.self.inside in
    let p = c.in-Some.pending in
    let spec = c.args.spec in
    let outcome = c.args.outcome in
    let room = c.self.invariant.room p (sym c.take.ensures.value ∙ c.in-Some.is) in
    let units : outcome.counts.units ≡ (serial_run (expanded_of spec.checked.program).body spec.before).units = ap (λ (r : RunState). r.units) c.requires.meaning in
    let few : inside.used + c.from.result ≤ inside.used + (2 ^ 32 - 1) =
    omega (arith, c.from.ensures, units, (serial_run-≤ (expanded_of spec.checked.program).body spec.before).1, spec.checked.program.statements_are, spec.checked.program.few) in
    book-appended inside (now_inside c) p.line.items false c.self.invariant (logged_is c) c.push_reserved.ensures.len
    room.below few c.take.ensures.after

pub returns : goal.returns
returns c =
    let inside = c.self.inside in
    let line = line-pending inside.pending c.in-Some.pending (sym c.take.ensures.value ∙ c.in-Some.is) in
    let b = register_of inside in
    let p = c.in-Some.pending in
    let other : register_of (now_inside c) ≡ line_logged b p.line.items false = register-from _ _ c.requires.open.asks (λ asks.
    let runs : next_step b p.line.items ≡ Runs (expanded_of c.args.spec.checked.program) =
    ap (next_step b) (sym line) ∙ ap open_step c.self.view_is ∙ asks in
    logged_is c ∙ sym (logged-other b p.line.items false (runs-other b.limits b.store b.used p.line.items _ runs))) in
    other ∙ ap (λ l. line_logged b l false) (sym line) ∙ ap request_closed c.self.view_is
