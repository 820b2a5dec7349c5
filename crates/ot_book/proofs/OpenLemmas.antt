-- What opening and closing a request does to the fields of a book.
use Rattle.std.proofs.Common.{◌≡◌, ℕ, ◌+◌, ◌-◌, ◌^◌, ◌≤◌, ◌<◌, ◌⊎◌, ◌↔◌, inl, inr, List, [], ◌∷◌, ◌++◌, length, get_or, refl, sym, ap, ◌∙◌, subst, arith, Bool, true, false, true≢false, vec_len}
use Rattle.std.specs.Prelude.{Option, Some, None, option_map, slice_get, IsSome}
use Rattle.std.proofs.lemmas.Option.{slice_get-map, slice_get-get_or}
use Rattle.std.proofs.Math.ListN.{length-map}
use Rattle.std.proofs.lemmas.List.{map-append}
use Rattle.ot_store.specs.Arrays.{Named}
use Rattle.ot_book.specs.Answers.{Told, Accepted, Lost, State, Now, step_done, is_checkpoint}
use Rattle.ot_book.specs.ReplyView.{told_of}
use Rattle.ot_book.specs.Books.{Register, state_in, IsRight, number_at, next_number, max_number, next_step, register_with_line, log_cleared, reply_at, IsFull, AnswersNow}
use Rattle.ot_book.specs.BookView.{entries_of, register_of, IsBook}
use Rattle.ot_book.specs.declared.book.Entry.{Entry}
use Rattle.ot_book.specs.declared.book.Pending.{Pending}
use Rattle.ot_book.specs.declared.book.Book.TheInside.{Inside}
use Rattle.ot_book.proofs.BookLemmas.{right-appended, right-cleared, logged-other, checkpoint-step}

-- the register with what a line was answered
abbrev pub placed : Register → List ℕ → Told × State → Register
placed b line a = record b { store = a.1.arrays; log = b.log ++ (line, a.0) ∷ []; pending = None; used = a.1.used }

-- a line that is answered at once
pub logged-now : (b : Register) (line : List ℕ) (told : Told) (arrays : List Named) → next_step b line ≡ Now told arrays →
    register_with_line b line false ≡ record b { store = arrays; log = b.log ++ (line, told) ∷ []; pending = None }
logged-now b line told arrays is = ap (λ step. placed b line (step_done (state_in b) step)) is

pub answered-now : (b : Register) (line : List ℕ) (told : Told) (arrays : List Named) → b.pending ≡ None → is_checkpoint line ≡ false →
    (((told ≡ Lost) × (arrays ≡ b.store)) ⊎ (next_step b line ≡ Now told arrays)) →
    AnswersNow b line (record b { store = arrays; log = b.log ++ (line, told) ∷ [] })
answered-now b line told arrays closed other (inl lost) = record {
  memory = true;
  new_is =
      ap (λ o. record b { store = arrays; log = b.log ++ (line, told) ∷ []; pending = o }) closed
      ∙ ap (λ xs. record b { store = xs; log = b.log ++ (line, told) ∷ []; pending = None }) lost.1
      ∙ ap (λ t. record b { log = b.log ++ (line, t) ∷ []; pending = None }) lost.0
      ∙ sym (logged-other b line true other);
  never = λ asks. absurd (true≢false (sym asks ∙ other));
  at_once = inl refl;
}
answered-now b line told arrays closed other (inr step) = record {
  memory = false;
  new_is = ap (λ o. record b { store = arrays; log = b.log ++ (line, told) ∷ []; pending = o }) closed ∙ sym (logged-now b line told arrays step) ∙ sym (logged-other b line false other);
  never = λ _. refl;
  at_once = inr (told, arrays, step);
}

-- one entry more
pub entries_of-more : (entries : List Entry) (e : Entry) → entries_of (entries ++ e ∷ []) ≡ entries_of entries ++ (e.line.items, told_of e.told) ∷ []
entries_of-more entries e = map-append (λ (x : Entry). (x.line.items, told_of x.told)) entries (e ∷ [])

pub length-entries_of : (entries : List Entry) → length (entries_of entries) ≡ length entries
length-entries_of entries = length-map entries (λ (x : Entry). (x.line.items, told_of x.told))

none_from : (o : Option Pending) → (IsSome (option_map (λ p. p.line.items) o) → ⊥) → o ≡ None
none_from None h = refl
none_from (Some p) h = absurd (h refl)

-- a book that isn't full has no open request
pub not_pending : (b : Inside) (checkpoint : Bool) → ¬ (IsFull (register_of b) checkpoint) → b.pending ≡ None
not_pending b checkpoint h = none_from b.pending (λ some. h (inl some))

-- and a number for one line more
pub not_last : (b : Inside) (checkpoint : Bool) → ¬ (IsFull (register_of b) checkpoint) → b.first + vec_len b.log < 2 ^ 32
not_last b checkpoint h =
    let below : max_number < b.first + length (entries_of b.log.items) → ⊥ = λ past. h (inr (inl past)) in
    omega (arith, below, length-entries_of b.log.items, b.log.ok.0)

-- a book with one line more is one
pub book-appended : (b new : Inside) (line : List ℕ) (memory : Bool) → IsBook b → register_of new ≡ register_with_line (register_of b) line memory →
    vec_len new.log ≡ vec_len b.log + 1 → b.first + vec_len b.log < 2 ^ 32 → new.used ≤ b.used + (2 ^ 32 - 1) → new.pending ≡ None → IsBook new
book-appended b new line memory h is count few used closed =
    let first : new.first ≡ b.first = ap (λ (r : Register). r.first) is in record {
      right = subst IsRight (sym is) (right-appended (register_of b) line memory h.right);
      one = omega (arith, h.one, first);
      few = omega (arith, few, first, count);
      used = omega (arith, h.used, used, count, first);
      room = λ p there. cc;
    }

-- a book that begins anew with a checkpoint is one
pub book-anew : (b new : Inside) (line : List ℕ) → IsBook b → register_of new ≡ register_with_line (log_cleared (register_of b)) line false →
    vec_len new.log ≡ 1 → b.first + vec_len b.log < 2 ^ 32 → new.used ≡ b.used → new.pending ≡ None → IsBook new
book-anew b new line h is count few used closed =
    let first : new.first ≡ b.first + length (entries_of b.log.items) = ap (λ (r : Register). r.first) is in
    let len : length (entries_of b.log.items) ≡ vec_len b.log = omega (arith, length-entries_of b.log.items, b.log.ok.0) in record {
      right = subst IsRight (sym is) (right-appended (log_cleared (register_of b)) line false (right-cleared (register_of b)));
      one = omega (arith, h.one, first);
      few = omega (arith, few, first, count, len);
      used = omega (arith, h.used, used, count, first, len);
      room = λ p there. cc;
    }

-- a test that answered no
pub free_from : (inside now : Register) (checkpoint test : Bool) → inside ≡ now → ((test ≡ true) ↔ IsFull now checkpoint) → test ≡ false → ¬ (IsFull inside checkpoint)
free_from inside now checkpoint test is tells no_test = λ full. let yes : test ≡ true = tells.1 (subst (λ r. IsFull r checkpoint) is full) in cc

-- the reply at a place of the log
pub reply_at-entry : (b : Inside) (place : ℕ) (e : Entry) (n : ℕ) → place < length b.log.items → e ≡ get_or b.log.items place e → n ≡ number_at (register_of b) place →
    Some (n, told_of e.told) ≡ reply_at (register_of b) place
reply_at-entry b place e n inside is count =
    let there : slice_get (entries_of b.log.items) place ≡ Some (e.line.items, told_of e.told) =
    slice_get-map (λ (x : Entry). (x.line.items, told_of x.told)) b.log.items place
    ∙ ap (option_map (λ (x : Entry). (x.line.items, told_of x.told))) (slice_get-get_or b.log.items place e inside ∙ ap Some (sym is)) in
    ap (λ k. Some (k, told_of e.told)) count
    ∙ sym (ap (option_map (λ (x : List ℕ × Told). (number_at (register_of b) place, x.1))) there)

-- a log that begins with a checkpoint
pub anew-is : (b : Register) (line : List ℕ) (base : List Named) (log : List (List ℕ × Told)) (first : ℕ) → b.pending ≡ None → is_checkpoint line ≡ true →
    base ≡ b.store → log ≡ (line, Accepted) ∷ [] → first ≡ next_number b →
    record b { base = base; log = log; first = first; base_used = b.used } ≡ register_with_line (log_cleared b) line false
anew-is b line base log first closed asks base_is log_is first_is =
    ap (λ x. record b { base = x; log = log; first = first; base_used = b.used }) base_is
    ∙ ap (λ x. record b { base = b.store; log = x; first = first; base_used = b.used }) log_is
    ∙ ap (λ x. record b { base = b.store; log = (line, Accepted) ∷ []; first = x; base_used = b.used }) first_is
    ∙ ap (λ x. record b { base = b.store; log = (line, Accepted) ∷ []; first = next_number b; base_used = b.used; pending = x }) closed
    ∙ sym (ap (λ step. placed (log_cleared b) line (step_done (state_in (log_cleared b)) step)) (checkpoint-step b.limits b.store b.used line asks))
