use Rattle.std.proofs.Common.{◌≡◌, ◌+◌, ◌++◌, [], ◌∷◌, sym, ap, ◌∙◌, subst, refl, arith, ◌⊎◌, vec_len, None, false}
use Rattle.std.specs.Prelude.{option_map, option_and_then}
use Rattle.ot_book.specs.Answers.{Lost, Now, parse_step, is_checkpoint}
use Rattle.ot_book.specs.Requests.{request_of, asks_checkpoint}
use Rattle.ot_book.specs.Books.{next_step, IsFull, IsFullFor, AnswersNow}
use Rattle.ot_book.specs.declared.book.Book.TheInside.{Inside}
use Rattle.ot_book.specs.ReplyView.{told_of}
use Rattle.ot_book.specs.BookView.{register_of, entries_of}
use Rattle.ot_book.proofs.BookLemmas.{logged-other}
use Rattle.ot_book.proofs.CloseLemmas.{entries_of-pushed, register-is}
use Rattle.ot_book.proofs.OpenLemmas.{free_from, book-appended, answered-now, not_pending, not_last}
use Rattle.ot_book.proofs.book.Book.take.Goals as goal

-- the fields after the reply was logged
abbrev now_inside : goal.After-push_reserved → Inside
now_inside c = record {
  name = c.self.inside.name;
  limits = c.self.inside.limits;
  base = c.self.inside.base;
  store = c.consider.new.store;
  log = c.push_reserved.new.self;
  pending = c.self.inside.pending;
  used = c.self.inside.used;
  first = c.self.inside.first;
  base_used = c.self.inside.base_used;
  kept = c.self.inside.kept;
}

free_at : (c : goal.After-push_reserved) → ¬ (IsFull (register_of c.self.inside) c.wants_checkpoint-checkpoint.result)
free_at c = free_from _ _ _ _ c.self.view_is c.is_full.ensures c.if-is_full.false

test_is : (c : goal.After-push_reserved) → is_checkpoint c.args.line.now ≡ c.wants_checkpoint-checkpoint.result
test_is c = ap (λ v. asks_checkpoint (option_and_then request_of v)) (sym c.requires) ∙ sym c.wants_checkpoint-checkpoint.ensures

answers_now : (c : goal.After-push_reserved) → AnswersNow (register_of c.self.inside) c.args.line.now (register_of (now_inside c))
answers_now c =
    let inside = c.self.inside in
    let b = register_of inside in
    let told = told_of c.in-Now.told in
    let store = c.consider.new.store in
    let line = c.args.line.now in
    let closed : inside.pending ≡ None = not_pending inside c.wants_checkpoint-checkpoint.result (free_at c) in
    let items = c.push_reserved.ensures.items ∙ ap (λ es. es ++ record { line = c.in_ok-kept.kept; told = c.in-Now.told } ∷ []) c.in_ok-reserve.ensures.items in
    let log : entries_of c.push_reserved.new.self.items ≡ b.log ++ (line, told) ∷ [] =
    entries_of-pushed inside.log.items c.push_reserved.new.self.items _ items ∙ ap (λ l. b.log ++ (l, told) ∷ []) c.in_ok-kept.ensures.items in
    let came : ((told ≡ Lost) × (store ≡ b.store)) ⊎ (next_step b line ≡ Now told store) =
    subst (λ v. ((told ≡ Lost) × (store ≡ b.store)) ⊎ (parse_step b.limits b.store b.used v ≡ Now told store)) c.requires c.in-Now.ensures in
    let other : is_checkpoint line ≡ false = test_is c ∙ c.if-checkpoint.false in
    let now = answered-now b line told store (ap (option_map (λ q. q.line.items)) closed) other came in
    subst (AnswersNow b line) (sym (register-is b store store _ _ b.pending b.pending b.used b.used refl log refl refl)) now

pub invariant_of-self-in-Now : goal.invariant_of-self-in-Now
invariant_of-self-in-Now c =
    let inside = c.self.inside in
    let now = answers_now c in
    let free = free_at c in
    let len : vec_len c.push_reserved.new.self ≡ vec_len inside.log + 1 = omega (arith, c.push_reserved.ensures.len, c.in_ok-reserve.ensures.len) in
    let other : is_checkpoint c.args.line.now ≡ false = test_is c ∙ c.if-checkpoint.false in
    book-appended inside (now_inside c) c.args.line.now now.memory c.self.invariant
    (now.new_is ∙ logged-other (register_of inside) c.args.line.now now.memory other) len
    (not_last inside c.wants_checkpoint-checkpoint.result free) (omega arith) (not_pending inside c.wants_checkpoint-checkpoint.result free)

pub returns-in-Now-clause-opened : goal.returns-in-Now-clause-opened
returns-in-Now-clause-opened c = (
  (λ full. free_at c (subst (λ t. IsFull (register_of c.self.inside) t) (test_is c) (subst (λ r. IsFullFor r c.args.line.now) (sym c.self.view_is) full))),
  subst (λ r. AnswersNow r c.args.line.now (register_of (now_inside c))) c.self.view_is (answers_now c),
)
