use Rattle.std.proofs.Common.{◌≡◌, sym, ap, ◌∙◌, refl, arith, Some, None, true}
use Rattle.std.specs.Prelude.{option_map}
use Rattle.ot_model.specs.Programs.{expanded_of}
use Rattle.ot_book.specs.Answers.{Runs}
use Rattle.ot_book.specs.Books.{next_step, open_step, register_with_line, line_logged, request_refused}
use Rattle.ot_book.specs.BookView.{register_of}
use Rattle.ot_book.specs.declared.book.Book.TheInside.{Inside}
use Rattle.ot_book.proofs.BookLemmas.{logged-other, runs-other}
use Rattle.ot_book.proofs.CloseLemmas.{entries_of-pushed, line-pending, register-from, register-is}
use Rattle.ot_book.proofs.OpenLemmas.{book-appended}
use Rattle.ot_book.proofs.book.Book.close_refused.Goals as goal

-- the fields after the reply was logged
abbrev now_inside : goal.After-drop-spec-inside-2 → Inside
now_inside c = record {
  name = c.self.inside.name;
  limits = c.self.inside.limits;
  base = c.self.inside.base;
  store = c.self.inside.store;
  log = c.push_reserved.new.self;
  pending = c.take.new.self;
  used = c.self.inside.used;
  first = c.self.inside.first;
  base_used = c.self.inside.base_used;
  kept = c.self.inside.kept;
}

logged_is : (c : goal.After-drop-spec-inside-2) → register_of (now_inside c) ≡ register_with_line (register_of c.self.inside) c.in-Some.pending.line.items true
logged_is c =
    let log = entries_of-pushed c.self.inside.log.items c.push_reserved.new.self.items _ c.push_reserved.ensures.items in
    register-is (register_of c.self.inside) _ _ _ _ _ None _ _ refl log (ap (option_map (λ q. q.line.items)) c.take.ensures.after) refl

pub invariant_of-self : goal.invariant_of-self
invariant_of-self c =
    let inside = c.self.inside in
    let p = c.in-Some.pending in
    let kept : inside.pending ≡ Some p = sym c.take.ensures.value ∙ c.in-Some.is in
    let room = c.self.invariant.room p kept in
    book-appended inside (now_inside c) p.line.items true c.self.invariant (logged_is c) c.push_reserved.ensures.len
    room.below (omega arith) c.take.ensures.after

pub returns : goal.returns
returns c =
    let inside = c.self.inside in
    let b = register_of inside in
    let p = c.in-Some.pending in
    let line = line-pending inside.pending p (sym c.take.ensures.value ∙ c.in-Some.is) in
    let other : register_of (now_inside c) ≡ line_logged b p.line.items true = register-from _ _ c.requires.asks (λ asks.
    let runs : next_step b p.line.items ≡ Runs (expanded_of c.args.spec.checked.program) =
    ap (next_step b) (sym line) ∙ ap open_step c.self.view_is ∙ asks in
    logged_is c ∙ sym (logged-other b p.line.items true (runs-other b.limits b.store b.used p.line.items _ runs))) in
    other ∙ ap (λ l. line_logged b l true) (sym line) ∙ ap request_refused c.self.view_is
