-- What is true of each region and of each open group, through each change.
use Rattle.std.proofs.Common.{◌≡◌, ℕ, zero, suc, List, [], ◌∷◌, ◌++◌, refl, Bool, true, false, Option, Some, None, if◌then◌else◌, nat_lt, All, arith, eq-zero-or-pos, inl, inr, ◌<◌, length}
use Rattle.ot_job.proofs.Common.{updated, Region, at, All-nil, All-cons, All-tail, Group, Body, End, Next, Use, Cell, Operation, Lease, Open, with_child, new_region, with_created, region_stepped, stepped_from, control_executed, next_task, rest_at, children_at, over, region_stopped, without, groups_passed, piece_begun, is_at_end, parent_of, told_parent, region_ended_at, moved_on, regions_settled, nat_tests, empty_region}

-- ---- what is true of each region, where one changes, and where one more is there

pub at-each : (P : Region → Type 0) (rs : List Region) (i : ℕ) (f : Region → Region) → ((k : ℕ) → P (at rs k)) → P (f (at rs i)) → (k : ℕ) → P (at (updated rs i f) k)
at-each P (r ∷ rs) zero f old new zero = new
at-each P (r ∷ rs) (suc i) f old new (suc k) = at-each P rs i f (λ n. old (suc n)) new k
at-each P rs i f old new k = old k

pub more-each : (P : Region → Type 0) (rs : List Region) (n : Region) → ((k : ℕ) → P (at rs k)) → P n → (k : ℕ) → P (at (rs ++ n ∷ []) k)
more-each P [] n old new zero = new
more-each P (r ∷ rs) n old new (suc k) = more-each P rs n (λ m. old (suc m)) new k
more-each P rs n old new k = old k

-- by its number too
pub more-by_number : (P : ℕ → Region → Type 0) (rs : List Region) (n : Region) → ((k : ℕ) → k < length rs → P k (at rs k)) → P (length rs) n → ((k : ℕ) → length rs < k → P k empty_region) → (k : ℕ) → P k (at (rs ++ n ∷ []) k)
more-by_number P [] n old new past zero = new
more-by_number P [] n old new past (suc k) = past (suc k) (omega arith)
more-by_number P (r ∷ rs) n old new past zero = old 0 (omega arith)
more-by_number P (r ∷ rs) n old new past (suc k) =
    more-by_number (λ m. P (suc m)) rs n (λ m l. old (suc m) (omega (arith, l))) new (λ m l. past (suc m) (omega (arith, l))) k

-- ---- a field

pub field-at : {A : Type 0} (g : Region → A) (f : Region → Region) (rs : List Region) (i : ℕ) → g (f (at rs i)) ≡ g (at rs i) → (p : ℕ) → g (at (updated rs i f) p) ≡ g (at rs p)
field-at g f (r ∷ rs) zero same zero = same
field-at g f (r ∷ rs) (suc i) same (suc p) = field-at g f rs i same p
field-at g f rs i same p = refl

pub field-kept : {A : Type 0} (g : Region → A) (f : Region → Region) → ((r : Region) → g (f r) ≡ g r) → (rs : List Region) (i p : ℕ) → g (at (updated rs i f) p) ≡ g (at rs p)
field-kept g f same rs i p = field-at g f rs i (same (at rs i)) p

-- one more is there, that has what no region has
pub field-more : {A : Type 0} (g : Region → A) (rs : List Region) (new : Region) → g new ≡ g (at [] 0) → (p : ℕ) → g (at (rs ++ new ∷ []) p) ≡ g (at rs p)
field-more g [] new same zero = same
field-more g (r ∷ rs) new same (suc p) = field-more g rs new same p
field-more g rs new same p = refl

-- ---- what a settle's step leaves, by its parts

-- the parent's table tells of the task, or there is no parent
pub told-by : (i : ℕ) (rs : List Region) (R : List Region → Type 0) → (i ≡ 0 → R rs) → (0 < i → R (updated rs (parent_of rs i) (without (at rs i).child))) → R (told_parent i rs)
told-by i rs R same tells = elim (eq-zero-or-pos i) [
  | inl e ↦ let test : nat_lt 0 i ≡ false = grind (arith, nat_tests) in rw test (same e)
  | inr pos ↦ let test : nat_lt 0 i ≡ true = grind (arith, nat_tests) in rw test (tells pos)
]

-- its body ends, or it executes a control statement, by which a task may be created
pub moved-by : (taken : Bool) (g i : ℕ) (rs : List Region) (R : List Region → Type 0) → ((at rs i).rest ≡ End → R (region_ended_at i rs)) → R (updated rs i (region_stepped taken g))
    → ((l : List Region) (child : List Use × Body) → R l → R (updated l i (with_child child.0) ++ new_region i (children_at l i) child.0 child.1 ∷ [])) → R (moved_on taken g i rs)
moved-by taken g i rs R closes steps creates = by (at rs i).rest (at rs i).groups refl (created (next_task (rest_at rs i)))
  where
    created : (o : Option (List Use × Body)) → R (with_created i o (updated rs i (region_stepped taken g)))
    created None = steps
    created (Some child) = creates (updated rs i (region_stepped taken g)) child steps

    by : (b : Body) (gs : List Open) → (at rs i).rest ≡ b → R (control_executed taken g i rs) → R (if is_at_end b gs then region_ended_at i rs else control_executed taken g i rs)
    by End [] was goes = closes was
    by b gs was goes = goes

-- ---- what is true of each open group, through each change of the regions

module _ (P : Open → Type 0) where
  abbrev Each : Region → Type 0
  Each r = All P r.groups

  each-passed : (rest : Body) (gs : List Open) → All P gs → All P (groups_passed rest gs).groups
  each-passed End [] h = h
  each-passed End (o ∷ os) h = All-tail P o os h
  each-passed (Next x b) gs h = h

  -- a claim opens none
  pub each-begun : (worker : ℕ) (lease : Lease) (rs : List Region) (i : ℕ) → ((k : ℕ) → All P (at rs k).groups) → (k : ℕ) → All P (at (updated rs i (piece_begun worker lease)) k).groups
  each-begun worker lease rs i old = at-each Each rs i (piece_begun worker lease) old (each-passed (at rs i).rest (at rs i).groups (old i))

  module _ (taken : Bool) (g i : ℕ) (rs : List Region) (old : (k : ℕ) → All P (at rs k).groups)
      (new : (op : Operation) (cs : List Cell) (b rest : Body) → (at rs i).rest ≡ Next (Group op cs b) rest → P (record { group = g; op = op; cells = cs; behind = rest })) where
    each-told : (k : ℕ) → All P (at (told_parent i rs) k).groups
    each-told = told-by i rs (λ l. (k : ℕ) → All P (at l k).groups) (λ z. old) (λ pos. at-each Each rs (parent_of rs i) (without (at rs i).child) old (old (parent_of rs i)))

    each-stepped : (k : ℕ) → All P (at (updated rs i (region_stepped taken g)) k).groups
    each-stepped = at-each Each rs i (region_stepped taken g) old (by (at rs i).rest refl)
      where
        by : (b : Body) → (at rs i).rest ≡ b → All P (stepped_from taken g b (at rs i)).groups
        by (Next (Group op cs b) rest) was = All-cons P (record { group = g; op = op; cells = cs; behind = rest }) (at rs i).groups (new op cs b rest was) (old i)
        by b was = old i

    each-moved : (k : ℕ) → All P (at (moved_on taken g i rs) k).groups
    each-moved = moved-by taken g i rs (λ l. (k : ℕ) → All P (at l k).groups) (λ was. at-each Each (told_parent i rs) i over each-told (each-told i)) each-stepped
        (λ l child h. more-each Each (updated l i (with_child child.0)) (new_region i (children_at l i) child.0 child.1) (at-each Each l i (with_child child.0) h (h i)) (All-nil P))

    -- a settle opens the group that comes next
    pub each-settled : (k : ℕ) → All P (at (regions_settled taken g i rs) k).groups
    each-settled = at-each Each (moved_on taken g i rs) i region_stopped each-moved (each-moved i)
