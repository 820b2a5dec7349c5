-- A claim leaves the regions as they are where pieces that are out count as not begun, but that the task goes on.
use Rattle.std.proofs.Common.{◌≡◌, ℕ, zero, suc, ◌<◌, List, [], ◌∷◌, length, refl, sym, ap, subst, ◌∙◌, arith, Option, Some, None, All, IsPermutation}
use Rattle.ot_job.proofs.Common.{All-nil, All-cons, IsPermutation-refl, IsPermutation-trans, IsPermutation-cons, IsPermutation-swap, Set, Fold, Body, Next, append, updated, Lease, Loan, Region, Run, at, leading, after_parts, groups_passed, awake, piece_begun, assigns_out, whole_region, wholes, loan_in, with_loan, loans_out}

pub whole-again : (b : Body) → append (leading b) (after_parts b) ≡ b
whole-again (Next (Set c e) rest) = ap (Next (Set c e)) (whole-again rest)
whole-again (Next (Fold op c e) rest) = ap (Next (Fold op c e)) (whole-again rest)
whole-again b = refl

-- the region that begins a piece goes on as a whole
whole-begun : (worker : ℕ) (lease : Lease) (r : Region) → r.running ≡ None → whole_region (piece_begun worker lease r) ≡ awake (whole_region r)
whole-begun worker lease r idle =
    let s = groups_passed r.rest r.groups in
    ap (λ b. record r { rest = b; groups = s.groups; waiting = None; running = None }) (whole-again s.rest)
    ∙ ap (λ o. awake (record r { rest = append (assigns_out o) r.rest; running = None })) (sym idle)

pub wholes-begun : (worker : ℕ) (lease : Lease) (rs : List Region) (i : ℕ) → (at rs i).running ≡ None → wholes (updated rs i (piece_begun worker lease)) ≡ updated (wholes rs) i awake
wholes-begun worker lease [] i idle = refl
wholes-begun worker lease (r ∷ rs) zero idle = ap (λ x. x ∷ wholes rs) (whole-begun worker lease r idle)
wholes-begun worker lease (r ∷ rs) (suc i) idle = ap (λ xs. whole_region r ∷ xs) (wholes-begun worker lease rs i idle)

-- what is true of each piece as it is out is true of the loans that are out
pub loans-each : (P : Loan → Type 0) (rs : List Region) → ((k : ℕ) (run : Run) → (at rs k).running ≡ Some run → P (loan_in run)) → All P (loans_out rs)
loans-each P [] f = All-nil P
loans-each P (r ∷ rs) f = by r.running (λ run e. f 0 run e) (loans-each P rs (λ k run e. f (suc k) run e))
  where
    by : (o : Option Run) → ((run : Run) → o ≡ Some run → P (loan_in run)) → All P (loans_out rs) → All P (with_loan o (loans_out rs))
    by None g rest = rest
    by (Some run) g rest = All-cons P (loan_in run) (loans_out rs) (g run refl) rest

-- a lease as it is out to the worker
abbrev pub loan : ℕ → Lease → Loan
loan worker lease = record { worker = worker; lease = lease }

-- the loan is one more
pub one-more : (worker : ℕ) (lease : Lease) (rs : List Region) (i : ℕ) → i < length rs → (at rs i).running ≡ None → IsPermutation (loans_out (updated rs i (piece_begun worker lease))) (loan worker lease ∷ loans_out rs)
one-more worker lease [] i within idle = absurd (omega (arith, within))
one-more worker lease (r ∷ rs) zero within idle = subst (λ o. IsPermutation (loan worker lease ∷ loans_out rs) (loan worker lease ∷ with_loan o (loans_out rs))) (sym idle) (IsPermutation-refl (loan worker lease ∷ loans_out rs))
one-more worker lease (r ∷ rs) (suc i) within idle = by (one-more worker lease rs i (omega (arith, within)) idle) r.running
  where
    by : IsPermutation (loans_out (updated rs i (piece_begun worker lease))) (loan worker lease ∷ loans_out rs) → (o : Option Run) → IsPermutation (with_loan o (loans_out (updated rs i (piece_begun worker lease)))) (loan worker lease ∷ with_loan o (loans_out rs))
    by rest None = rest
    by rest (Some run) =
        IsPermutation-trans (loan_in run ∷ loans_out (updated rs i (piece_begun worker lease))) (loan_in run ∷ loan worker lease ∷ loans_out rs) (loan worker lease ∷ loan_in run ∷ loans_out rs)
        (IsPermutation-cons (loan_in run) (loans_out (updated rs i (piece_begun worker lease))) (loan worker lease ∷ loans_out rs) rest)
        (IsPermutation-swap (loan_in run ∷ loan worker lease ∷ loans_out rs) (loan worker lease ∷ loan_in run ∷ loans_out rs) 0 1 (omega arith) (omega arith) refl)
