-- What a job counts: through each change of the regions, and at its end.
use Rattle.std.proofs.Common.{◌≡◌, ℕ, ◌+◌, ◌≤◌, Bool, true, false, ◌&&◌, filter, List, [], ◌∷◌, None, refl, ap, ◌∙◌, arith, ◌==◌, if◌then◌else◌, ◌<◌, zero, suc, cond, not, ◌||◌, length, sym, is_some, count_by}
use Rattle.ot_job.proofs.Common.{Set, Fold, If, Task, Wait, Group, Body, End, Next, val, cell_of, lengths, size, tasks_in, join_by, State, bump, change, either, serial, serial_run, state_of, AreAssigns, left_of_job, children_left, leading_len, units_counted, counts_after, list_any, range_with_len, sum_by-cons, updated, Region, at, all_ended, any_out, out_in, list_all}
use Rattle.std.proofs.lemmas.List.Folds.{sum_by-zero}
use Rattle.ot_model.proofs.CellsLemmas.{lengths-with_cell}
use Rattle.ot_model.specs.declared.plain.Counts.{Counts}
use Rattle.ot_model.proofs.SerialLemmas.{serial-from, either-both}
use Rattle.ot_job_roster.specs.Members.{passing}
use Rattle.ot_job_roster.proofs.ListedLemmas.{passing-behind}

-- ---- what a job counts, now and at its end

-- no less is counted
abbrev Grows : State → State → Type 0
Grows s t = (s.tasks ≤ t.tasks) × (s.units ≤ t.units)

serial-grows : (b : Body) (s : State) → Grows s (serial b s)
serial-grows b s =
    let t : (serial b s).tasks ≡ (serial_run b s.cells).tasks + s.tasks = ap (λ (x : State). x.tasks) (serial-from b s) in
    let u : (serial b s).units ≡ (serial_run b s.cells).units + s.units = ap (λ (x : State). x.units) (serial-from b s) in
    (omega (arith, t), omega (arith, u))

grows-on : (s t u : State) → Grows s t → Grows t u → Grows s u
grows-on s t u a b = (omega (arith, a.0, b.0), omega (arith, a.1, b.1))

children-grow : (todo : ℕ → Body) (p k : ℕ) (qs : List ℕ) (s : State) → Grows s (children_left todo p k qs s)
children-grow todo p k [] s = (omega arith, omega arith)
children-grow todo p k (q ∷ qs) s =
    let own = children_left todo k (k + 1) qs s in
    by (q == p) (grows-on s own (serial (todo k) own) (children-grow todo k (k + 1) qs s) (serial-grows (todo k) own)) (λ t. children-grow todo p (k + 1) qs t)
  where
    by : (b : Bool) → Grows s (serial (todo k) (children_left todo k (k + 1) qs s)) → ((t : State) → Grows t (children_left todo p (k + 1) qs t))
        → Grows s (children_left todo p (k + 1) qs (if b then serial (todo k) (children_left todo k (k + 1) qs s) else s))
    by true own rest = grows-on s (serial (todo k) (children_left todo k (k + 1) qs s)) (children_left todo p (k + 1) qs (serial (todo k) (children_left todo k (k + 1) qs s))) own (rest (serial (todo k) (children_left todo k (k + 1) qs s)))
    by false own rest = rest s

-- what is counted so far is in what is counted at the end
pub left-grows : (todo : ℕ → Body) (ps : List ℕ) (s : State) → (s.tasks ≤ (left_of_job todo ps s).tasks) × (s.units ≤ (left_of_job todo ps s).units)
left-grows todo ps s =
    grows-on s (children_left todo 0 1 ps s) (left_of_job todo ps s) (children-grow todo 0 1 ps s) (serial-grows (todo 0) (children_left todo 0 1 ps s))

-- a body counts at most its statements, and its task statements
pub serial-few : (b : Body) (s : State) → ((serial b s).tasks ≤ s.tasks + tasks_in b) × ((serial b s).units ≤ s.units + size b)
serial-few End s = (omega arith, omega arith)
serial-few (Next (Set c e) rest) s = let r = serial-few rest (bump 0 1 (change s c (λ _. val (cell_of s.cells) e))) in (omega (arith, r.0), omega (arith, r.1))
serial-few (Next (Fold op c e) rest) s = let r = serial-few rest (bump 0 1 (change s c (λ n. join_by op n (val (cell_of s.cells) e)))) in (omega (arith, r.0), omega (arith, r.1))
serial-few (Next (If e a b) rest) s =
    let one = serial a (bump 0 1 s) in
    let two = serial b (bump 0 1 s) in
    let mid = either (val (cell_of s.cells) e) one two in
    let w = either-both (val (cell_of s.cells) e) one two (λ (t : State). (t.tasks ≤ s.tasks + (tasks_in a + tasks_in b)) × (t.units ≤ s.units + (1 + size a + size b)))
    (let l = serial-few a (bump 0 1 s) in (omega (arith, l.0), omega (arith, l.1)))
    (let l = serial-few b (bump 0 1 s) in (omega (arith, l.0), omega (arith, l.1))) in
    let r = serial-few rest mid in
    (omega (arith, r.0, w.0), omega (arith, r.1, w.1))
serial-few (Next (Task d b) rest) s = let w = serial-few b (bump 1 1 s) in let r = serial-few rest (serial b (bump 1 1 s)) in (omega (arith, r.0, w.0), omega (arith, r.1, w.1))
serial-few (Next (Wait w) rest) s = let r = serial-few rest (bump 0 1 s) in (omega (arith, r.0), omega (arith, r.1))
serial-few (Next (Group op cs b) rest) s = let w = serial-few b (bump 0 1 s) in let r = serial-few rest (serial b (bump 0 1 s)) in (omega (arith, r.0, w.0), omega (arith, r.1, w.1))

-- ---- the counts of one step

pub piece-counts : (piece : Body) (s : State) → AreAssigns piece → ((serial piece s).tasks ≡ s.tasks) × ((serial piece s).units ≡ s.units + leading_len piece)
piece-counts End s only = (refl, omega arith)
piece-counts (Next (Set c e) rest) s only =
    let r = piece-counts rest (bump 0 1 (change s c (λ _. val (cell_of s.cells) e))) only in (omega (arith, r.0), omega (arith, r.1))
piece-counts (Next (Fold op c e) rest) s only =
    let r = piece-counts rest (bump 0 1 (change s c (λ n. join_by op n (val (cell_of s.cells) e)))) only in (omega (arith, r.0), omega (arith, r.1))
piece-counts (Next x rest) s only = absurd only

-- a piece sees the cells alone
pub piece-cells : (piece : Body) (s : State) → (serial piece s).cells ≡ (serial_run piece s.cells).cells
piece-cells piece s = ap (λ (x : State). x.cells) (serial-from piece s)

-- and it leaves as many cells as there were
pub piece-lengths : (piece : Body) (s : State) → AreAssigns piece → lengths (serial piece s).cells ≡ lengths s.cells
piece-lengths End s only = refl
piece-lengths (Next (Set c e) rest) s only =
    piece-lengths rest (bump 0 1 (change s c (λ _. val (cell_of s.cells) e))) only ∙ lengths-with_cell s.cells c (λ _. val (cell_of s.cells) e)
piece-lengths (Next (Fold op c e) rest) s only =
    piece-lengths rest (bump 0 1 (change s c (λ n. join_by op n (val (cell_of s.cells) e)))) only ∙ lengths-with_cell s.cells c (λ n. join_by op n (val (cell_of s.cells) e))
piece-lengths (Next x rest) s only = absurd only

same-state : (s t : State) → s.cells ≡ t.cells → s.tasks ≡ t.tasks → s.units ≡ t.units → s ≡ t
same-state s t a b c =
    ap (λ x. let r : State = record { cells = x; tasks = s.tasks; units = s.units } in r) a
    ∙ ap (λ x. let r : State = record { cells = t.cells; tasks = x; units = s.units } in r) b
    ∙ ap (λ x. let r : State = record { cells = t.cells; tasks = t.tasks; units = x } in r) c

-- the piece, and then the statement behind it
pub settled-state : (piece rest : Body) (cells : List (List ℕ)) (counts : Counts) → AreAssigns piece
    → units_counted rest (serial piece (state_of cells counts)) ≡ state_of (serial_run piece cells).cells (counts_after counts piece rest)
settled-state piece rest cells counts only =
    ap (units_counted rest) (same-state (serial piece (state_of cells counts)) (record { cells = (serial_run piece cells).cells; tasks = counts.tasks; units = counts.units + leading_len piece })
    (piece-cells piece (state_of cells counts)) n.0 n.1)
    ∙ by rest
  where
    n : ((serial piece (state_of cells counts)).tasks ≡ counts.tasks) × ((serial piece (state_of cells counts)).units ≡ counts.units + leading_len piece)
    n = piece-counts piece (state_of cells counts) only

    one : (k : ℕ) → units_counted (Next (Wait None) End) (record { cells = (serial_run piece cells).cells; tasks = k; units = counts.units + leading_len piece })
        ≡ record { cells = (serial_run piece cells).cells; tasks = k + 0; units = counts.units + (leading_len piece + 1) }
    one k = same-state (record { cells = (serial_run piece cells).cells; tasks = k + 0; units = counts.units + leading_len piece + 1 })
        (record { cells = (serial_run piece cells).cells; tasks = k + 0; units = counts.units + (leading_len piece + 1) }) refl refl (omega arith)

    by : (b : Body) → units_counted b (record { cells = (serial_run piece cells).cells; tasks = counts.tasks; units = counts.units + leading_len piece })
        ≡ state_of (serial_run piece cells).cells (counts_after counts piece b)
    by End = same-state _ (state_of (serial_run piece cells).cells (counts_after counts piece End)) refl (omega arith) (omega arith)
    by (Next (Task d b) r) =
        same-state (record { cells = (serial_run piece cells).cells; tasks = counts.tasks + 1; units = counts.units + leading_len piece + 1 })
        (state_of (serial_run piece cells).cells (counts_after counts piece (Next (Task d b) r))) refl refl (omega arith)
    by (Next x r) = one counts.tasks

-- ---- the counters beside the tasks, through each change of the regions

-- ---- counts

abbrev pub one : Bool → ℕ
one b = cond b 1 0

pub count-cons : {A : Type 0} (p : A → Bool) (r : A) (rs : List A) → count_by p (r ∷ rs) ≡ one (p r) + count_by p rs
count-cons p r rs = sum_by-cons (λ x. cond {A = ℕ} (p x) 1 0) r rs

pub any-counted : {A : Type 0} (p : A → Bool) (rs : List A) → not (count_by p rs == 0) ≡ list_any p rs
any-counted p rs = ap not (sum_by-zero (λ x. cond {A = ℕ} (p x) 1 0) rs) ∙ turned p rs
  where
    turned : {A : Type 0} (p : A → Bool) (xs : List A) → not (list_all (λ x. cond {A = ℕ} (p x) 1 0 == 0) xs) ≡ list_any p xs
    turned p [] = refl
    turned p (x ∷ xs) = by (p x) (turned p xs)
      where
        by : (b : Bool) → not (list_all (λ x. cond {A = ℕ} (p x) 1 0 == 0) xs) ≡ list_any p xs → not ((cond {A = ℕ} b 1 0 == 0) && list_all (λ x. cond {A = ℕ} (p x) 1 0 == 0) xs) ≡ (b || list_any p xs)
        by true later = refl
        by false later = later

pub out-any : (rs : List Region) → not (out_in rs == 0) ≡ any_out rs
out-any rs = any-counted (λ r. is_some r.running) rs

pub all-counted : (rs : List Region) → (count_by (λ r. not r.ended) rs == 0) ≡ all_ended rs
all-counted rs = sum_by-zero (λ r. cond {A = ℕ} (not r.ended) 1 0) rs ∙ ap (λ (test : Region → Bool). list_all test rs) (λ z r. bit r.ended z)
  where
    bit : (e : Bool) → (cond {A = ℕ} (not e) 1 0 == 0) ≡ e
    bit true = refl
    bit false = refl

-- so many stand at the numbers that pass
pub passing-counted : (p : Region → Bool) (rs : List Region) → length (passing (λ k. p (at rs k)) (length rs)) ≡ count_by p rs
passing-counted p [] = refl
passing-counted p (r ∷ rs) = by (p r) (passing-behind (λ k. p (at (r ∷ rs) k)) (length rs) ∙ passing-counted p rs) ∙ sym (count-cons p r rs)
  where
    others : List ℕ
    others = filter (λ k. p (at (r ∷ rs) k)) (range_with_len 1 (length rs))

    by : (b : Bool) → length others ≡ count_by p rs → length (cond b (0 ∷ others) others) ≡ one b + count_by p rs
    by true rest = omega (arith, rest)
    by false rest = omega (arith, rest)

-- ---- one region changes

pub count-updated : (p : Region → Bool) (f : Region → Region) (rs : List Region) (i : ℕ) → i < length rs
    → count_by p (updated rs i f) + one (p (at rs i)) ≡ count_by p rs + one (p (f (at rs i)))
count-updated p f [] i h = absurd (omega (arith, h))
count-updated p f (r ∷ rs) zero h = omega (arith, count-cons p r rs, count-cons p (f r) rs)
count-updated p f (r ∷ rs) (suc i) h =
    omega (arith, count-cons p r rs, count-cons p r (updated rs i f), count-updated p f rs i (omega (arith, h)))
