-- A line that was read runs the same program wherever it may name the same.
use Rattle.std.proofs.Common.{◌≡◌, ◌<◌, ℕ, ◌+◌, List, [], ◌∷◌, map, length, get_or, drop, refl, sym, ap, ◌∙◌, subst, Bool, false, arith, vec_len}
use Rattle.std.proofs.Math.Logic.{∥∥₁_elim, ∥∥₁_map}
use Rattle.std.specs.Coded.{Coded, Coded-set, codes}
use Rattle.std.specs.Prelude.{Option, Some, None, Result, Ok, Err, unwrap_or, string_bytes}
use Rattle.std.proofs.lemmas.List.{drop_more}
use Rattle.ot_model.specs.Cells.{lengths}
use Rattle.ot_model.specs.Programs.{Expanded, expanded_of, IsNamedIn, array_lengths, arrays_of}
use Rattle.ot_model.specs.declared.shape.ArrayShape.{ArrayShape}
use Rattle.ot_check.specs.Jobs.{Spec}
use Rattle.ot_check.specs.declared.checked.Checked.{Checked}
use Rattle.ot_store.proofs.ArraysLemmas.{array_lengths-shape_in}
use Rattle.ot_book.specs.Books.{Register, next_step, IsOpenFor, IsRight}
use Rattle.ot_book.specs.BookView.{register_of, HasRoomForReply, IsBook}
use Rattle.ot_book.specs.declared.book.Pending.{Pending}
use Rattle.ot_book.specs.declared.book.Book.TheInside.{Inside}
use Rattle.ot_book.specs.Readings.{Reading, IsReading}
use Rattle.ot_book.specs.Answers.{Step, Now, Runs, change_step, cells_step, offence_step, program_step, request_step, parse_step, value_of, step_of, is_checkpoint}
use Rattle.ot_book.proofs.BookLemmas.{runs-other}
use Rattle.ot_book.proofs.CloseLemmas.{numbers-from}
use Rattle.serde_json.specs.Data.{Data}
use Rattle.ot_program.specs.Programs.{program_of}
use Rattle.ot_program.specs.declared.fault.Refusal.{Refusal}
use Rattle.ot_check.specs.Laws.{first_offence}
use Rattle.ot_check.specs.declared.fault.Offence.{Offence}
use Rattle.ot_store.specs.Arrays.{Named, array_created, array_freed, numbers_put, got, cells_in, shape_in}
use Rattle.ot_store.specs.declared.fault.StoreRefusal.{StoreRefusal}
use Rattle.ot_store.specs.declared.limits.Limits.{Limits}
use Rattle.ot_book.specs.Requests.{Request, New, Free, Put, Get, Arrays, Used, Checkpoint, Run, request_of}

-- Whether a line runs a program, and which, is told by what it may name: neither the arrays' cells nor the used units nor
-- the other limits change it.
judged-over : (a b : List Named) (q p : Expanded) (o : Option (ℕ × Offence)) → offence_step a q o ≡ Runs p → offence_step b q o ≡ Runs p
judged-over a b q p None is = is
judged-over a b q p (Some first) is = cc

started-over : (a b : List Named) (read : Result Expanded Refusal) (p : Expanded) → program_step a read ≡ Runs p → program_step b read ≡ Runs p
started-over a b (Ok q) p is = judged-over a b q p (first_offence q.body) is
started-over a b (Err refusal) p is = cc

changed-never : (arrays : List Named) (r : Result (List Named) StoreRefusal) (p : Expanded) → change_step arrays r ≡ Runs p → ⊥
changed-never arrays (Ok new) p is = cc
changed-never arrays (Err refusal) p is = cc

fetched-never : (arrays : List Named) (r : Result (List ℕ) StoreRefusal) (p : Expanded) → cells_step arrays r ≡ Runs p → ⊥
fetched-never arrays (Ok values) p is = cc
fetched-never arrays (Err refusal) p is = cc

asked-over : (l m : Limits) (a b : List Named) (u v : ℕ) (o : Option Request) (p : Expanded) → shape_in l a ≡ shape_in m b →
    request_step l a u o ≡ Runs p → request_step m b v o ≡ Runs p
asked-over l m a b u v None p same is = cc
asked-over l m a b u v (Some (New name len)) p same is = absurd (changed-never a (array_created name len l a) p is)
asked-over l m a b u v (Some (Free name)) p same is = absurd (changed-never a (array_freed name a) p is)
asked-over l m a b u v (Some (Put name start values)) p same is = absurd (changed-never a (numbers_put name start values a) p is)
asked-over l m a b u v (Some (Get name start len)) p same is = absurd (fetched-never a (got name start len a) p is)
asked-over l m a b u v (Some Arrays) p same is = cc
asked-over l m a b u v (Some Used) p same is = cc
asked-over l m a b u v (Some Checkpoint) p same is = cc
asked-over l m a b u v (Some (Run text)) p same is =
    started-over a b (program_of (shape_in m b) text) p (subst (λ s. program_step a (program_of s text) ≡ Runs p) same is)

parsed-over : (l m : Limits) (a b : List Named) (u v : ℕ) (d : Option Data) (p : Expanded) → shape_in l a ≡ shape_in m b →
    parse_step l a u d ≡ Runs p → parse_step m b v d ≡ Runs p
parsed-over l m a b u v None p same is = cc
parsed-over l m a b u v (Some d) p same is = asked-over l m a b u v (request_of d) p same is

pub runs-over : (l m : Limits) (a b : List Named) (u v : ℕ) (line : List ℕ) (p : Expanded) → shape_in l a ≡ shape_in m b →
    step_of l a u line ≡ Runs p → step_of m b v line ≡ Runs p
runs-over l m a b u v line p same is = parsed-over l m a b u v (value_of line) p same is

-- the shape of the arrays has their lengths
pub named-over : (limits : Limits) (arrays : List Named) (cells : List (List ℕ)) (p : Expanded) → cells ≡ cells_in arrays →
    IsNamedIn (array_lengths (shape_in limits arrays)) p → IsNamedIn (lengths cells) p
named-over limits arrays cells p is named =
    subst (λ lens. IsNamedIn lens p) (array_lengths-shape_in limits arrays ∙ ap lengths (sym is)) named

-- the line of an open request, as it was read
pub reading-open : (b : Register) (spec : Spec) (r : Reading) → IsOpenFor b spec → b.pending ≡ Some r.line → r.shape ≡ shape_in b.limits b.store →
    r.checked ≡ spec.checked → IsNamedIn (lengths spec.before) (expanded_of spec.checked.program) → IsReading r
reading-open b spec r request pending shape checked named = record {
  runs = λ limits arrays used same. ∥∥₁_map request.asks (λ asks.
      runs-over b.limits limits b.store arrays b.used used r.line (expanded_of r.checked.program) (sym shape ∙ sym same)
      (ap (λ o. next_step b (unwrap_or o [])) (sym pending) ∙ asks ∙ ap (λ (q : Checked). Runs (expanded_of q.program)) (sym checked)));
  named = subst (λ (q : Checked). IsNamedIn (array_lengths r.shape) (expanded_of q.program)) (sym checked)
      (subst (λ lens. IsNamedIn lens (expanded_of spec.checked.program))
      (ap lengths request.cells ∙ sym (array_lengths-shape_in b.limits b.store) ∙ ap array_lengths (sym shape)) named);
}

bool-code : Coded Bool
bool-code = Prim.hlevel codes

-- a line that was read as a program is no checkpoint
pub reading-other : (limits : Limits) (arrays : List Named) (r : Reading) → IsReading r → r.shape ≡ shape_in limits arrays → is_checkpoint r.line ≡ false
reading-other limits arrays r is shape =
    ∥∥₁_elim (is.runs limits arrays 0 (sym shape)) (Coded-set bool-code (is_checkpoint r.line) false)
    (λ runs. runs-other limits arrays 0 r.line _ runs)

-- the lengths of what a step shows
shown-lengths : Step → List ℕ
shown-lengths (Now told arrays) = []
shown-lengths (Runs p) = map (λ s. s.len) p.shows

-- and it shows what that program shows
pub reading-shows : (limits : Limits) (arrays : List Named) (used : ℕ) (r : Reading) (p : Expanded) → IsReading r → r.shape ≡ shape_in limits arrays →
    step_of limits arrays used r.line ≡ Runs p → map (λ s. s.len) (expanded_of r.checked.program).shows ≡ map (λ s. s.len) p.shows
unfolding shown-lengths
reading-shows limits arrays used r p is shape runs =
    numbers-from _ _ (is.runs limits arrays used (sym shape)) (λ again. ap shown-lengths (sym again ∙ runs))

-- a line that was read over a book's arrays, and its program
abbrev pub reading_over : Register → List ℕ → Checked → Reading
reading_over b line checked = record { line = line; shape = shape_in b.limits b.store; checked = checked }

pub over-same : (inside now : Register) (line : List ℕ) (checked : Checked) → inside ≡ now → IsReading (reading_over now line checked) → IsReading (reading_over inside line checked)
over-same inside now line checked same is = subst (λ b. IsReading (reading_over b line checked)) (sym same) is

-- it is no checkpoint
pub over-other : (inside now : Register) (line : List ℕ) (checked : Checked) → inside ≡ now → IsReading (reading_over now line checked) → is_checkpoint line ≡ false
over-other inside now line checked same is =
    reading-other inside.limits inside.store (reading_over inside line checked) (over-same inside now line checked same is) refl

-- and lists as long as that program's sections are as long as those of what the line runs
pub over-lists : (inside now : Register) (line kept : List ℕ) (checked : Checked) (lens : List ℕ) (program : Expanded) → inside ≡ now → IsReading (reading_over now line checked) →
    kept ≡ line → lens ≡ map (λ s. s.len) (expanded_of checked.program).shows → next_step inside kept ≡ Runs program → lens ≡ map (λ s. s.len) program.shows
over-lists inside now line kept checked lens program same is copied long runs =
    long ∙ reading-shows inside.limits inside.store inside.used (reading_over inside line checked) program (over-same inside now line checked same is) refl
    (ap (next_step inside) (sym copied) ∙ runs)

-- those before a place are the same
abbrev pub AreSameFrom : List ArrayShape → List ArrayShape → ℕ → Type 0
AreSameFrom xs ys i = arrays_of (drop i xs) ≡ arrays_of (drop i ys) → arrays_of xs ≡ arrays_of ys

split-arrays : (xs : List ArrayShape) (i : ℕ) (x : ArrayShape) → i < length xs → x ≡ get_or xs i x →
    arrays_of (drop i xs) ≡ (string_bytes x.name, x.len) ∷ arrays_of (drop (i + 1) xs)
split-arrays xs i x within is = ap arrays_of (drop_more xs i x within) ∙ ap (λ (a : ArrayShape). (string_bytes a.name, a.len) ∷ arrays_of (drop (i + 1) xs)) (sym is)

pub same-more : (xs ys : List ArrayShape) (i : ℕ) (x y : ArrayShape) → i < length xs → i < length ys → x ≡ get_or xs i x → y ≡ get_or ys i y →
    string_bytes x.name ≡ string_bytes y.name → x.len ≡ y.len → AreSameFrom xs ys i → AreSameFrom xs ys (i + 1)
same-more xs ys i x y wx wy ix iy name len same = λ rest.
    same (split-arrays xs i x wx ix ∙ ap (λ n. (n, x.len) ∷ arrays_of (drop (i + 1) xs)) name ∙ ap (λ n. (string_bytes y.name, n) ∷ arrays_of (drop (i + 1) xs)) len
    ∙ ap (λ more. (string_bytes y.name, y.len) ∷ more) rest ∙ sym (split-arrays ys i y wy iy))

-- a book that has room for an open request is one
pub book-opened : (b new : Inside) (p : Pending) → IsBook b → register_of new ≡ record (register_of b) { pending = Some p.line.items } →
    vec_len new.log ≡ vec_len b.log → new.first ≡ b.first → new.used ≡ b.used → new.pending ≡ Some p → HasRoomForReply new p → IsBook new
book-opened b new p h is count first used kept room = record {
  right = subst IsRight (sym is) h.right;
  one = omega (arith, h.one, first);
  few = omega (arith, h.few, first, count);
  used = omega (arith, h.used, used, count, first);
  room = λ q there. let same : p ≡ q = cc in subst (HasRoomForReply new) same room;
}
