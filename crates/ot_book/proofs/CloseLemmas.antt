-- What closing a request does to a book.
use Rattle.std.proofs.Common.{◌≡◌, ℕ, ◌+◌, List, [], ◌∷◌, ◌++◌, sym, ap, ◌∙◌, false}
use Rattle.std.proofs.Math.Logic.{∥∥₁_elim}
use Rattle.std.specs.Coded.{Coded, Coded-set, codes}
use Rattle.std.specs.Prelude.{Option, Some, None, option_map, unwrap_or}
use Rattle.ot_model.specs.Cells.{lengths}
use Rattle.ot_model.specs.Programs.{expanded_of}
use Rattle.ot_model.specs.Serial.{State as RunState, serial_run, state_of}
use Rattle.ot_check.specs.Jobs.{Spec, IsMeaning}
use Rattle.ot_check.specs.declared.job.Outcome.{Outcome}
use Rattle.ot_store.specs.Arrays.{Named, cells_in, with_cells}
use Rattle.ot_book.specs.Answers.{Told, Done, Runs, numbers_shown, step_done}
use Rattle.ot_book.specs.ReplyView.{told_of}
use Rattle.ot_book.specs.Books.{Register, state_in, next_step, register_with_line}
use Rattle.ot_book.specs.BookView.{entries_of}
use Rattle.ot_book.specs.declared.book.Entry.{Entry}
use Rattle.ot_book.specs.declared.book.Pending.{Pending}
use Rattle.ot_book.specs.contracts.book.Book as e
use Rattle.ot_book.proofs.SerialLengths.{lengths-serial}
use Rattle.ot_book.proofs.OpenLemmas.{placed, entries_of-more}

-- an outcome has the lengths of the cells before it
pub lengths-meaning : (spec : Spec) (o : Outcome) → IsMeaning spec o → lengths o.cells ≡ lengths spec.before
lengths-meaning spec o meaning =
    ap (λ (s : RunState). lengths s.cells) meaning
    ∙ lengths-serial (expanded_of spec.checked.program).body (record { cells = spec.before; tasks = 0; units = 0 })

-- the book with the outcome of the line's program
pub logged-done : (b : Register) (line : List ℕ) (spec : Spec) (o : Outcome) (shows : List (List ℕ)) →
    next_step b line ≡ Runs (expanded_of spec.checked.program) → spec.before ≡ cells_in b.store → IsMeaning spec o →
    shows ≡ numbers_shown (expanded_of spec.checked.program).shows o.cells →
    register_with_line b line false ≡ record b {
      store = with_cells b.store o.cells;
      log = b.log ++ (line, Done o.counts.tasks o.counts.units shows) ∷ [];
      pending = None;
      used = b.used + o.counts.units;
    }
logged-done b line spec o shows asks cells meaning shown_is =
    let p = expanded_of spec.checked.program in
    let done : RunState → Register = λ run. record b {
      store = with_cells b.store run.cells;
      log = b.log ++ (line, Done run.tasks run.units (numbers_shown p.shows run.cells)) ∷ [];
      pending = None;
      used = b.used + run.units;
    } in
    let run_is : serial_run p.body (cells_in b.store) ≡ state_of o.cells o.counts = ap (serial_run p.body) (sym cells) ∙ sym meaning in
    ap (λ step. placed b line (step_done (state_in b) step)) asks
    ∙ ap done run_is
    ∙ ap (λ lists. record b {
      store = with_cells b.store o.cells;
      log = b.log ++ (line, Done o.counts.tasks o.counts.units lists) ∷ [];
      pending = None;
      used = b.used + o.counts.units;
    }) (sym shown_is)

-- two books are equal in at most one way
pub register-from : {A : Type 0} (b c : Register) → ∥ A ∥₁ → (A → b ≡ c) → b ≡ c
register-from b c some f = ∥∥₁_elim some (Coded-set e.the_row.coded b c) f

-- and so are two lists of numbers
numbers-code : Coded (List ℕ)
numbers-code = Prim.hlevel codes

pub numbers-from : {A : Type 0} (ns ms : List ℕ) → ∥ A ∥₁ → (A → ns ≡ ms) → ns ≡ ms
numbers-from ns ms some f = ∥∥₁_elim some (Coded-set numbers-code ns ms) f

-- one entry was pushed
pub entries_of-pushed : (entries pushed : List Entry) (e : Entry) → pushed ≡ entries ++ e ∷ [] →
    entries_of pushed ≡ entries_of entries ++ (e.line.items, told_of e.told) ∷ []
entries_of-pushed entries pushed e is = ap entries_of is ∙ entries_of-more entries e

-- the open line is the one that the book keeps
pub line-pending : (o : Option Pending) (p : Pending) → o ≡ Some p → unwrap_or (option_map (λ q. q.line.items) o) [] ≡ p.line.items
line-pending o p there = ap (λ x. unwrap_or (option_map (λ q. q.line.items) x) []) there

-- registers with the same name, limits and opening arrays
pub register-is : (b : Register) (s t : List Named) (l m : List (List ℕ × Told)) (o q : Option (List ℕ)) (u v : ℕ) → s ≡ t → l ≡ m → o ≡ q → u ≡ v →
    record b { store = s; log = l; pending = o; used = u } ≡ record b { store = t; log = m; pending = q; used = v }
register-is b s t l m o q u v st lm oq uv =
    ap (λ x. record b { store = x; log = l; pending = o; used = u }) st
    ∙ ap (λ x. record b { store = t; log = x; pending = o; used = u }) lm
    ∙ ap (λ x. record b { store = t; log = m; pending = x; used = u }) oq
    ∙ ap (λ x. record b { store = t; log = m; pending = q; used = x }) uv
