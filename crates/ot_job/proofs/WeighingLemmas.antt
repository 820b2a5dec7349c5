-- Each settle makes a job lighter, and nothing makes it heavier.
use Rattle.std.proofs.Common.{◌≡◌, ℕ, zero, suc, ◌+◌, ◌*◌, ◌<◌, ◌≤◌, max, Bool, true, false, List, [], ◌∷◌, ◌++◌, length, refl, sym, ap, ◌∙◌, arith, true≢false, Option, Some, None, is_some, nat_lt, if◌then◌else◌}
use Rattle.ot_job.proofs.Common.{Set, Fold, If, Task, Wait, Group, Body, End, Next, append, size, updated, Use, length-updated, updated-updated, Lease, Open, Region, Run, with_child, new_region, with_created, region_stepped, stepped_from, control_executed, next_task, rest_at, children_at, over, region_stopped, without, at, parent_of, leading, after_parts, groups_passed, piece_begun, region_ended_at, regions_settled, is_at_end, weight_left, region_weight, weight_of}
use Rattle.ot_parts.proofs.WeightLemmas.{weight-behind}
use Rattle.ot_job_task.specs.Regions.{weight, weight_behind}
use Rattle.ot_job.proofs.EachLemmas.{told-by}
use Rattle.ot_job.proofs.StopLemmas.{front}
use Rattle.ot_job.proofs.StepLemmas.{tell, tell-field, tell-long, rest-here}

weight-append : (a b : Body) → weight (append a b) ≡ weight a + weight b
weight-append End b = omega arith
weight-append (Next x a) b = let h = weight-append a b in omega (arith, h)

-- at most twice the statements
pub weight-few : (b : Body) → weight b ≤ 2 * size b
weight-few End = omega arith
weight-few (Next (Set c e) rest) = omega (arith, weight-few rest)
weight-few (Next (Fold op c e) rest) = omega (arith, weight-few rest)
weight-few (Next (If e a b) rest) = omega (arith, weight-few rest, weight-few a, weight-few b)
weight-few (Next (Task d b) rest) = omega (arith, weight-few rest, weight-few b)
weight-few (Next (Wait w) rest) = omega (arith, weight-few rest)
weight-few (Next (Group op cs b) rest) = omega (arith, weight-few rest, weight-few b)

left-≤ : (out : Bool) (rest : Body) (os : List Open) → weight_left out rest os ≤ weight rest + weight_behind os
left-≤ false End [] = omega arith
left-≤ out rest os = omega arith

-- ---- one region among all

weight-updated : (rs : List Region) (i : ℕ) (f : Region → Region) → i < length rs → weight_of (updated rs i f) + region_weight (at rs i) ≡ weight_of rs + region_weight (f (at rs i))
weight-updated [] i f h = absurd (omega (arith, h))
weight-updated (r ∷ rs) zero f h = omega arith
weight-updated (r ∷ rs) (suc i) f h = let w = weight-updated rs i f (omega (arith, h)) in omega (arith, w)

weight-same : (rs : List Region) (i : ℕ) (f : Region → Region) → ((r : Region) → region_weight (f r) ≡ region_weight r) → weight_of (updated rs i f) ≡ weight_of rs
weight-same [] i f same = refl
weight-same (r ∷ rs) zero f same = ap (λ n. n + weight_of rs) (same r)
weight-same (r ∷ rs) (suc i) f same = ap (λ n. region_weight r + n) (weight-same rs i f same)

weight-more : (rs : List Region) (new : Region) → weight_of (rs ++ new ∷ []) ≡ weight_of rs + region_weight new
weight-more [] new = omega arith
weight-more (r ∷ rs) new = let w = weight-more rs new in omega (arith, w)

-- ---- a claim

begun-left : (lease : Lease) (rest : Body) (os : List Open) → weight_left true (after_parts (groups_passed rest os).rest) (groups_passed rest os).groups ≡ weight_left false rest os
begun-left lease End [] = refl
begun-left lease End (o ∷ os) = ap (λ n. n + weight_behind os) (weight-behind o.behind)
begun-left lease (Next x rest) os = ap (λ n. n + weight_behind os) (weight-behind (Next x rest))

pub weight-begun : (worker : ℕ) (lease : Lease) (rs : List Region) (i : ℕ) → i < length rs → (at rs i).running ≡ None → weight_of (updated rs i (piece_begun worker lease)) ≡ weight_of rs
weight-begun worker lease rs i h idle =
    let w = weight-updated rs i (piece_begun worker lease) h in
    let same : region_weight (piece_begun worker lease (at rs i)) ≡ region_weight (at rs i) =
    ap (λ n. if (at rs i).ended then 0 else 1 + n) (begun-left lease (at rs i).rest (at rs i).groups ∙ ap (λ o. weight_left (is_some o) (at rs i).rest (at rs i).groups) (sym idle)) in
    omega (arith, w, same)

-- ---- a piece that comes back without results

pub weight-stopped : (rs : List Region) (i : ℕ) → i < length rs → weight_of (updated rs i region_stopped) ≤ weight_of rs
weight-stopped rs i h =
    let w = weight-updated rs i region_stopped h in
    let less = one (at rs i).ended (is_some (at rs i).running) in
    omega (arith, w, less)
  where
    one : (e out : Bool) → (if e then 0 else 1 + weight_left false (at rs i).rest (at rs i).groups) ≤ (if e then 0 else 1 + weight_left out (at rs i).rest (at rs i).groups)
    one true out = omega arith
    one false true = omega (arith, left-≤ false (at rs i).rest (at rs i).groups)
    one false false = omega arith

-- ---- a settle

stopped-weight : (r : Region) → r.ended ≡ false → region_weight (region_stopped r) ≤ 1 + weight r.rest + weight_behind r.groups
stopped-weight r alive =
    let e : region_weight (region_stopped r) ≡ 1 + weight_left false r.rest r.groups = ap (λ b. if b then 0 else 1 + weight_left false r.rest r.groups) alive in
    omega (arith, e, left-≤ false r.rest r.groups)

-- of a task that is created
abbrev new_weight : Option (List Use × Body) → ℕ
new_weight None = 0
new_weight (Some child) = 1 + weight child.1

-- the control statement is executed, and no piece is out any more
step-lighter : (taken : Bool) (g : ℕ) (b : Body) (gs : List Open) (r : Region) → r.rest ≡ b → r.groups ≡ gs → r.ended ≡ false → leading b ≡ End → is_at_end b gs ≡ false
    → region_weight (region_stopped (stepped_from taken g b r)) + new_weight (next_task b) < 1 + weight b + weight_behind gs
step-lighter taken g End [] r was groups alive stops goes = absurd (true≢false goes)
step-lighter taken g End (o ∷ os) r was groups alive stops goes =
    let e : region_weight (region_stopped r) ≡ 1 + (weight o.behind + weight_behind os) =
    ap (λ b. if b then 0 else 1 + weight_left false r.rest r.groups) alive ∙ ap (λ b. 1 + weight_left false b r.groups) was ∙ ap (λ gs. 1 + weight_left false End gs) groups in
    omega (arith, e)
step-lighter taken g (Next (Set c e) rest) gs r was groups alive stops goes = cc
step-lighter taken g (Next (Fold op c e) rest) gs r was groups alive stops goes = cc
step-lighter taken g (Next (If e a b) rest) gs r was groups alive stops goes = by taken
  where
    by : (t : Bool) → region_weight (region_stopped (stepped_from t g (Next (If e a b) rest) r)) + 0 < 1 + (1 + max (weight a) (weight b) + weight rest) + weight_behind gs
    by true = omega (arith, stopped-weight (record r { rest = append a rest }) alive, weight-append a rest, ap weight_behind groups)
    by false = omega (arith, stopped-weight (record r { rest = append b rest }) alive, weight-append b rest, ap weight_behind groups)
step-lighter taken g (Next (Task d b) rest) gs r was groups alive stops goes = omega (arith, stopped-weight (record r { rest = rest }) alive, ap weight_behind groups)
step-lighter taken g (Next (Wait w) rest) gs r was groups alive stops goes = omega (arith, stopped-weight (record r { rest = rest; waiting = Some w }) alive, ap weight_behind groups)
step-lighter taken g (Next (Group op cs b) rest) gs r was groups alive stops goes =
    omega (arith, stopped-weight (record r { rest = b; groups = record { group = g; op = op; cells = cs; behind = rest } ∷ r.groups }) alive, ap weight_behind groups)

created-weight : (i : ℕ) (child : Option (List Use × Body)) (xs : List Region) → i < length xs
    → weight_of (updated (with_created i child xs) i region_stopped) ≡ weight_of (updated xs i region_stopped) + new_weight child
created-weight i None xs h = omega arith
created-weight i (Some child) xs h =
    let with : Region → Region = with_child child.0 in
    let new = new_region i (children_at xs i) child.0 child.1 in
    let same = weight-updated xs i region_stopped h in
    let both = weight-updated xs i (λ r. region_stopped (with r)) h in
    let one = ap weight_of (front (updated xs i with) new i region_stopped (omega (arith, h, length-updated xs i with)) ∙ ap (λ l. l ++ new ∷ []) (updated-updated xs i with region_stopped)) in
    let more = weight-more (updated xs i (λ r. region_stopped (with r))) new in
    let fresh : region_weight new ≡ 1 + weight child.1 = left child.1 in
    omega (arith, same, both, one, more, fresh)
  where
    left : (b : Body) → 1 + weight_left false b [] ≡ 1 + weight b
    left End = omega arith
    left (Next x rest) = omega arith

module _ (taken : Bool) (g i : ℕ) (rs : List Region) (run : Run) (h : i < length rs) (out : (at rs i).running ≡ Some run) (alive : (at rs i).ended ≡ false) (stops : leading (at rs i).rest ≡ End) where
  now-weight : region_weight (at rs i) ≡ 1 + weight (at rs i).rest + weight_behind (at rs i).groups
  now-weight =
      ap (λ b. if b then 0 else 1 + weight_left (is_some (at rs i).running) (at rs i).rest (at rs i).groups) alive
      ∙ ap (λ o. 1 + weight_left (is_some o) (at rs i).rest (at rs i).groups) out ∙ omega arith

  closed-lighter : weight_of (updated (region_ended_at i rs) i region_stopped) < weight_of rs
  closed-lighter =
      let some = nat_lt 0 i in
      let p = parent_of rs i in
      let c = (at rs i).child in
      let told = tell some p c rs in
      let w = weight-updated told i (λ r. region_stopped (over r)) (omega (arith, h, tell-long some p c rs)) in
      let one = ap weight_of (updated-updated told i over region_stopped) in
      let here = tell-field region_weight (λ c r. refl) some p c rs i in
      let all = told-by i rs (λ l. weight_of l ≡ weight_of rs) (λ z. refl) (λ pos. weight-same rs p (without c) (λ r. refl)) in
      omega (arith, w, one, here, all, now-weight)

  executed-lighter : is_at_end (at rs i).rest (at rs i).groups ≡ false → weight_of (updated (control_executed taken g i rs) i region_stopped) < weight_of rs
  executed-lighter goes =
      let xs = updated rs i (region_stepped taken g) in
      let one = created-weight i (next_task (rest_at rs i)) xs (omega (arith, h, length-updated rs i (region_stepped taken g))) in
      let two = ap weight_of (updated-updated rs i (region_stepped taken g) region_stopped) in
      let three = weight-updated rs i (λ r. region_stopped (region_stepped taken g r)) h in
      let step = step-lighter taken g (at rs i).rest (at rs i).groups (at rs i) refl refl alive stops goes in
      let child = ap (λ b. new_weight (next_task b)) (rest-here rs i) in
      omega (arith, one, two, three, step, child, now-weight)

  pub weight-settled : weight_of (regions_settled taken g i rs) < weight_of rs
  weight-settled = by (is_at_end (at rs i).rest (at rs i).groups) refl
    where
      by : (b : Bool) → is_at_end (at rs i).rest (at rs i).groups ≡ b → weight_of (updated (if is_at_end (at rs i).rest (at rs i).groups then region_ended_at i rs else control_executed taken g i rs) i region_stopped) < weight_of rs
      by true e = rw e closed-lighter
      by false e = rw e (executed-lighter e)
