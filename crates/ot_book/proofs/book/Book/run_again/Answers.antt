use Rattle.std.proofs.Common.{rules, ◌≡◌, ◌<◌, ◌+◌, ◌^◌, ◌∙◌, ◌++◌, [], ◌∷◌, inl, sym, ap, subst, refl, arith, Some, None, false, vec_len}
use Rattle.std.specs.Prelude.{option_map}
use Rattle.std.specs.Arc.{arc_value}
use Rattle.ot_model.specs.Programs.{expanded_of, IsNamedIn, array_lengths}
use Rattle.ot_store.specs.Arrays.{shape_in, cells_in}
use Rattle.ot_book.specs.Answers.{Lost, is_checkpoint}
use Rattle.ot_book.specs.Books.{Register, IsFull, IsFullFor, AnswersNow}
use Rattle.ot_book.specs.BookView.{register_of, entries_of, HasRoomForReply}
use Rattle.ot_book.specs.declared.book.Pending.{Pending}
use Rattle.ot_book.specs.declared.book.Book.TheInside.{Inside}
use Rattle.ot_book.proofs.BookLemmas.{logged-other}
use Rattle.ot_book.proofs.CloseLemmas.{entries_of-pushed}
use Rattle.ot_book.proofs.OpenLemmas.{not_last, not_pending, free_from, book-appended, answered-now}
use Rattle.ot_book.proofs.KeptLemmas.{named-over, over-other, over-lists, book-opened}
use Rattle.ot_book.proofs.book.Book.run_again.Goals as goal

pub returns-then-is_full-clause-opened : goal.returns-then-is_full-clause-opened
returns-then-is_full-clause-opened c =
    let b = c.args.self.now in
    let other = over-other b b c.args.line.now (arc_value c.args.checked) refl c.requires in
    (subst (IsFull b) (sym other) (c.is_full.ensures.0 c.if-is_full.true), refl)

pub job_over-requires : goal.job_over-requires
job_over-requires c =
    let inside = c.self.inside in
    let p = expanded_of (arc_value c.args.checked).program in
    named-over inside.limits inside.store (cells_in inside.store) p refl
    (subst (λ (r : Register). IsNamedIn (array_lengths (shape_in r.limits r.store)) p) (sym c.self.view_is) c.requires.named)

other_at : (c : goal.After-push_reserved) → is_checkpoint c.args.line.now ≡ false
other_at c = over-other _ _ c.args.line.now (arc_value c.args.checked) c.self.view_is c.requires

free_at : (c : goal.After-push_reserved) → ¬ (IsFull (register_of c.self.inside) false)
free_at c = free_from _ _ _ _ c.self.view_is c.is_full.ensures c.if-is_full.false

-- want of memory for the job
abbrev lost_inside : goal.After-push_reserved → Inside
lost_inside c = record {
  name = c.self.inside.name;
  limits = c.self.inside.limits;
  base = c.self.inside.base;
  store = c.self.inside.store;
  log = c.push_reserved.new.self;
  pending = c.self.inside.pending;
  used = c.self.inside.used;
  first = c.self.inside.first;
  base_used = c.self.inside.base_used;
  kept = c.self.inside.kept;
}

answers_now : (c : goal.After-push_reserved) → AnswersNow (register_of c.self.inside) c.args.line.now (register_of (lost_inside c))
answers_now c =
    let inside = c.self.inside in
    let b = register_of inside in
    let line = c.args.line.now in
    let closed : inside.pending ≡ None = not_pending inside false (free_at c) in
    let log : entries_of c.push_reserved.new.self.items ≡ b.log ++ (line, Lost) ∷ [] =
    entries_of-pushed c.reserve.new.self.items c.push_reserved.new.self.items _ c.push_reserved.ensures.items
    ∙ ap (λ items. entries_of items ++ (c.in_ok-line.line.items, Lost) ∷ []) c.reserve.ensures.items
    ∙ ap (λ l. b.log ++ (l, Lost) ∷ []) c.in_ok-line.ensures.items in
    subst (AnswersNow b line) (ap (λ entries. record b { log = entries }) (sym log))
    (answered-now b line Lost b.store (ap (option_map (λ q. q.line.items)) closed) (other_at c) (inl (refl, refl)))

pub invariant_of-self-in_default : goal.invariant_of-self-in_default
invariant_of-self-in_default c =
    let inside = c.self.inside in
    let now = answers_now c in
    let len : vec_len c.push_reserved.new.self ≡ vec_len inside.log + 1 = omega (arith, c.push_reserved.ensures.len, c.reserve.ensures.len) in
    book-appended inside (lost_inside c) c.args.line.now now.memory c.self.invariant
    (now.new_is ∙ logged-other (register_of inside) c.args.line.now now.memory (other_at c)) len
    (not_last inside false (free_at c)) (omega arith) (not_pending inside false (free_at c))

pub returns-in_default-clause-opened : goal.returns-in_default-clause-opened
returns-in_default-clause-opened c = (
  (λ full. free_at c (subst (IsFull (register_of c.self.inside)) (other_at c) (subst (λ r. IsFullFor r c.args.line.now) (sym c.self.view_is) full))),
  subst (λ r. AnswersNow r c.args.line.now (register_of (lost_inside c))) c.self.view_is (answers_now c),
)

pub invariant_of-self-2 : goal.invariant_of-self-2
invariant_of-self-2 c =
    let inside = c.self.inside in
    let free = free_from _ _ _ _ c.self.view_is c.is_full.ensures c.if-is_full.false in
    let below : inside.first + vec_len inside.log < 2 ^ 32 = not_last inside false free in
    let p : Pending = record { line = c.in_ok-line.line; shows = c.in-Ok.shows } in
    let opened : Inside = record inside { log = c.reserve.new.self; pending = Some p } in
    let room : HasRoomForReply opened p = record {
      place = search rules;
      below = omega (arith, below, c.reserve.ensures.len);
      lists = λ program runs.
          over-lists _ _ c.args.line.now c.in_ok-line.line.items (arc_value c.args.checked) _ program c.self.view_is c.requires c.in_ok-line.ensures.items c.in-Ok.ensures.shows runs;
    } in
    book-opened inside opened p c.self.invariant
    (ap (λ items. record (register_of inside) { log = entries_of items; pending = Some c.in_ok-line.line.items }) c.reserve.ensures.items)
    c.reserve.ensures.len refl refl refl room
