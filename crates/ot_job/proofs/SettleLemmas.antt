-- A piece that is out.
use Rattle.std.proofs.Common.{false, true, sym, ap, ◌∙◌, true≢false, ◌≡◌, ◌<◌, ℕ, zero, suc, List, [], ◌∷◌, length, arith, All, Contains, IsSome, Some, is_some, get_or, option_map, unwrap_or, Result, Ok, Err, OnOk, OnErr, is_err}
use Rattle.ot_job.proofs.Common.{All-nil, All-cons, All-head, All-tail, Body, End, Next, cell_of, Open, Use, lease_of, loan_of, uses_of, LentCell, Region, Run, next_task, HasPiece, at, Live, Came, IsOut, worker_in, same_Some, MaySettle, is_at_end}
use Rattle.ot_job.proofs.ClaimableLemmas.{at-here}

pub runs-within : (rs : List Region) (i : ℕ) (run : Run) → (at rs i).running ≡ Some run → i < length rs
runs-within [] i run h = cc
runs-within (r ∷ rs) zero run h = omega arith
runs-within (r ∷ rs) (suc i) run h = omega (arith, runs-within rs i run h)

uses-there : (cells : List (List ℕ)) (lent : List LentCell) → All (λ u. IsSome (cell_of cells u.cell)) (uses_of lent) → All (λ l. IsSome (cell_of cells l.cell)) lent
uses-there cells [] h = All-nil (λ l. IsSome (cell_of cells l.cell))
uses-there cells (l ∷ ls) h =
    All-cons (λ l. IsSome (cell_of cells l.cell)) l ls (All-head (λ u. IsSome (cell_of cells u.cell)) _ (uses_of ls) h)
    (uses-there cells ls (All-tail (λ u. IsSome (cell_of cells u.cell)) _ (uses_of ls) h))

-- the piece that comes back, as its task's record has it
abbrev pub run_of : ℕ → Came → Run
run_of worker d = record { worker = worker; assigns = d.assigns; lease = lease_of d.lent }

-- a piece that is out is out to the worker that its task's record tells
pub out-to : (rs : List Region) (d : Came) (worker : ℕ) → IsOut rs d → option_map (λ run. run.worker) (at rs d.task).running ≡ Some worker → (at rs d.task).running ≡ Some (run_of worker d)
out-to rs d worker out told =
    let is : out.0.0 ≡ worker = same_Some out.0.0 worker (sym (ap (option_map (λ run. run.worker)) out.0.1) ∙ told) in
    out.0.1 ∙ ap (λ n. Some (run_of n d)) is

-- and that is the worker that has the region's piece
pub worker-is : (r : Region) (worker : ℕ) → option_map (λ run. run.worker) r.running ≡ Some worker → worker_in r ≡ worker
worker-is r worker told = ap (λ o. unwrap_or o 0) told

pub has-piece : (rs : List Region) (d : Came) → IsOut rs d → HasPiece rs d.task
has-piece rs d out = record { known = runs-within rs d.task (run_of out.0.0 d) out.0.1; out = ap is_some out.0.1 }

module _ (rs : List Region) (d : Came) (out : IsOut rs d) (t : Region) (here : t ≡ get_or rs d.task t) where
  -- the task's region, as the code looks at it
  pub here-is : at rs d.task ≡ t
  here-is = at-here rs d.task t (has-piece rs d out).known here

  pub has-run : is_some t.running ≡ true
  has-run = ap (λ (r : Region). is_some r.running) (sym here-is) ∙ (has-piece rs d out).out

  -- the piece is out to the worker that the record tells
  abbrev pub out-here : (worker : ℕ) → option_map (λ run. run.worker) t.running ≡ Some worker → IsOut rs d
  out-here worker told = ((worker, out-to rs d worker out (ap (λ (r : Region). option_map (λ run. run.worker) r.running) here-is ∙ told)), out.1)

module _ (j : Live) (d : Came) (may : MaySettle j) (out : IsOut j.regions d) where
  pub loan-out : Contains j.owned.out (loan_of out.0.0 d.lent)
  loan-out = (may.out d.task (run_of out.0.0 d) out.0.1).0

  pub cells-there : All (λ l. IsSome (cell_of j.cells l.cell)) d.lent
  cells-there = uses-there j.cells d.lent (may.out d.task (run_of out.0.0 d) out.0.1).1

-- at a body's end no task comes next
pub none-next : {P : Type 0} (rest : Body) (gs : List Open) → is_at_end rest gs ≡ true → (child : List Use × Body) → next_task rest ≡ Some child → P
none-next End gs at-end child is = cc
none-next (Next x rest) gs at-end child is = absurd (true≢false (sym at-end))

-- what is so where a call succeeds is so once it has
pub ok-holds : {A B P : Type 0} (r : Result A B) → is_err r ≡ false → OnOk r P → P
ok-holds (Ok x) ok holds = holds
ok-holds (Err e) ok holds = absurd (true≢false ok)

-- and what is so where it is refused, once it is
pub err-holds : {A B P : Type 0} (r : Result A B) → is_err r ≡ true → OnErr r P → P
err-holds (Ok x) err holds = absurd (true≢false (sym err))
err-holds (Err e) err holds = holds
