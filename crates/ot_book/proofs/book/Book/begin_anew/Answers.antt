use Rattle.std.proofs.Common.{◌≡◌, ◌++◌, [], ◌∷◌, sym, ap, ◌∙◌, subst, arith, None, true, false}
use Rattle.std.specs.Prelude.{option_map}
use Rattle.ot_book.specs.Answers.{Accepted}
use Rattle.ot_book.specs.Books.{next_number, register_with_line, log_cleared, line_logged, IsFull}
use Rattle.ot_book.specs.BookView.{register_of, entries_of}
use Rattle.ot_book.specs.declared.told.Told.TheVariants as v
use Rattle.ot_book.specs.declared.book.Book.TheInside.{Inside}
use Rattle.ot_book.proofs.BookLemmas.{logged-checkpoint}
use Rattle.ot_book.proofs.CloseLemmas.{entries_of-pushed}
use Rattle.ot_book.proofs.OpenLemmas.{book-anew, anew-is, not_pending, not_last}
use Rattle.ot_book.proofs.book.Book.begin_anew.Goals as goal

-- the fields after the line was logged
abbrev now_inside : goal.After-drop-self-inside-5 → Inside
now_inside c = record {
  name = c.self.inside.name;
  limits = c.self.inside.limits;
  base = c.in_ok-base.base;
  store = c.self.inside.store;
  log = c.push_reserved.new.self;
  pending = c.self.inside.pending;
  used = c.self.inside.used;
  first = c.next_number-self-inside.result;
  base_used = c.self.inside.used;
  kept = c.self.inside.kept;
}

closed_at : (c : goal.After-drop-self-inside-5) → c.self.inside.pending ≡ None
closed_at c = not_pending c.self.inside true (λ full. c.requires.free (subst (λ r. IsFull r true) c.self.view_is full))

is_anew : (c : goal.After-drop-self-inside-5) → register_of (now_inside c) ≡ register_with_line (log_cleared (register_of c.self.inside)) c.args.line.now false
is_anew c =
    let inside = c.self.inside in
    let items = c.push_reserved.ensures.items ∙ ap (λ es. es ++ record { line = c.in_ok-line.line; told = v.Accepted } ∷ []) c.in_ok-log.ensures.items in
    let log : entries_of c.push_reserved.new.self.items ≡ (c.args.line.now, Accepted) ∷ [] =
    entries_of-pushed [] c.push_reserved.new.self.items _ items ∙ ap (λ l. (l, Accepted) ∷ []) c.in_ok-line.ensures.items in
    anew-is (register_of inside) c.args.line.now c.in_ok-base.base (entries_of c.push_reserved.new.self.items) c.next_number-self-inside.result
    (ap (option_map (λ q. q.line.items)) (closed_at c)) c.requires.checkpoint c.in_ok-base.ensures log (c.next_number-self-inside.ensures ∙ ap next_number (sym c.self.view_is))

pub invariant_of-self : goal.invariant_of-self
invariant_of-self c =
    let inside = c.self.inside in
    let free : ¬ (IsFull (register_of inside) true) = λ full. c.requires.free (subst (λ r. IsFull r true) c.self.view_is full) in
    book-anew inside (now_inside c) c.args.line.now c.self.invariant (is_anew c)
    (omega (arith, c.push_reserved.ensures.len, c.in_ok-log.ensures.len)) (not_last inside true free) (omega arith) (closed_at c)

pub returns-clause-anew : goal.returns-clause-anew
returns-clause-anew c =
    is_anew c ∙ sym (logged-checkpoint (register_of c.self.inside) c.args.line.now false c.requires.checkpoint)
    ∙ ap (λ r. line_logged r c.args.line.now false) c.self.view_is
