-- Copies are kept of the cells of the open groups and of no others, as tasks go on and as pieces come back.
use Rattle.std.proofs.Common.{◌≡◌, ◌≢◌, ◌<◌, ◌↔◌, ◌⊎◌, ℕ, zero, suc, Bool, true, false, ◌&&◌, true≢false, List, [], ◌∷◌, ◌++◌, map, length, get_or, refl, sym, ap, subst, ◌∙◌, inl, inr, arith, Contains, IsPermutation, Option, Some, None, IsSome, is_some, option_map, unwrap_or, replicate, nat_lt, if◌then◌else◌, ◌==◌, All, Any, ⊎_elim}
use Rattle.ot_job.proofs.Common.{cases_eq, eqb-true, eq-eqb, option_map_id, map-append, get_or_default, All-contains, Any-from_list_any, list_any-from_Any, Contains-permutation, IsPermutation-refl, IsPermutation-sym, IsPermutation-trans, IsPermutation-cons, same_Some, none-some, cell_of, same_cell, updated, Group, Body, End, Next, Conflict, is_fold, mode_in, first_of, same_fold, Cell, Operation, Mode, Reads, Folds, Use, has_cell, true_or, or_right, and_true, all_back, copy_of, lent_from, Loan, Owned, IsFreeFor, Summed, IsNamed, IsSummed, IsSummedBy, begun_for, worth_over, worth, worths, LentCell, permutation_rest, cell_of-worths, groups_passed, awake, group_passed, Open, Region, group_next, with_child, new_region, region_stepped, stepped_from, children_at, over, region_stopped, openings_of, at, parent_of, AreOpen, IsFor, left_open, Opens, told_parent, moved_on, regions_settled}
use Rattle.ot_depend.proofs.ReadyLemmas.{same_answer}
use Rattle.std.proofs.lemmas.List.Elements.{Contains-get_or, Contains-append_left, Contains-append_right, Contains-append_cases, Contains-push_cases}
use Rattle.std.proofs.lemmas.List.Quantifiers.{position-Some}
use Rattle.std.proofs.lemmas.List.Sorted.{IsPermutation-middle, IsPermutation-to_front, IsPermutation-append_right}
use Rattle.ot_model.proofs.EqualLemmas.{cell-decides}
use Rattle.ot_owner.specs.Owning.{is_of, place_in, names, without as without_group}
use Rattle.ot_owner.specs.Worth.{IsCombined}
use Rattle.ot_owner.proofs.NameLemmas.{place-named as place-of}
use Rattle.ot_owner.proofs.ShareLemmas.{bares, bares-back, bares-begun}
use Rattle.ot_owner.proofs.OpenLemmas.{same_worth, worth-unsummed as over-unsummed}
use Rattle.ot_job_task.specs.Pieces.{ended_group}
use Rattle.ot_job.specs.Opened.{open_group_numbers}
use Rattle.ot_job.proofs.FoldLemmas.{same-op}
use Rattle.ot_job.proofs.KeptLemmas.{at-updated, at-updated-other}
use Rattle.ot_job.proofs.StepLemmas.{tell-field}
use Rattle.ot_job.proofs.EachLemmas.{field-at, field-more, moved-by}

-- ---- what is among the elements

here : {A : Type 0} (x : A) (xs : List A) → Contains (x ∷ xs) x
here x xs = (0, omega arith, refl)

later : {A : Type 0} (x y : A) (xs : List A) → Contains xs y → Contains (x ∷ xs) y
later x y xs (k, within, is) = (suc k, omega (arith, within), is)

one_of : {A : Type 0} (x y : A) (xs : List A) → Contains (x ∷ xs) y → (x ≡ y) ⊎ Contains xs y
one_of x y xs (zero, within, is) = inl is
one_of x y xs (suc k, within, is) = inr (k, omega (arith, within), is)

mapped : {A B : Type 0} (f : A → B) (xs : List A) (x : A) → Contains xs x → Contains (map f xs) (f x)
mapped f [] x (k, within, is) = absurd (omega (arith, within))
mapped f (y ∷ xs) x (zero, within, is) = subst (λ z. Contains (map f (y ∷ xs)) (f z)) is (here (f y) (map f xs))
mapped f (y ∷ xs) x (suc k, within, is) = later (f y) (f x) (map f xs) (mapped f xs x (k, omega (arith, within), is))

-- it is what f gives of an element
abbrev IsOf : {A B : Type 0} → (A → B) → List A → B → Type 0
IsOf {A} f xs y = (x : A) × Contains xs x × (f x ≡ y)

mapped-of : {A B : Type 0} (f : A → B) (xs : List A) (y : B) → Contains (map f xs) y → IsOf f xs y
mapped-of f [] y (k, within, is) = absurd (omega (arith, within))
mapped-of f (x ∷ xs) y (zero, within, is) = (x, here x xs, is)
mapped-of f (x ∷ xs) y (suc k, within, is) = let (z, there, same) = mapped-of f xs y (k, omega (arith, within), is) in (z, later x z xs there, same)

any-of : {A : Type 0} (P : A → Type 0) (xs : List A) (x : A) → Contains xs x → P x → Any P xs
any-of P xs x (k, within, is) holds = (k, x, within, is, holds)

all-of : {A : Type 0} (P : A → Type 0) (xs : List A) → ((x : A) → Contains xs x → P x) → All P xs
all-of P xs each k d within = each (get_or xs k d) (Contains-get_or xs k d within)

-- ---- which cells are named

nothing : Use
nothing = record { cell = record { array = 0; index = 0 }; mode = Reads }

of-place : (uses : List Use) (c : Cell) → is_some (place_in uses c) ≡ true → IsNamed uses c
of-place uses c there = by (place_in uses c) refl there
  where
    by : (o : Option ℕ) → place_in uses c ≡ o → is_some o ≡ true → IsNamed uses c
    by None at some = absurd (true≢false (sym some))
    by (Some p) at some =
        let found = position-Some (is_of c) uses p nothing at in
        let u = get_or uses p nothing in
        (p, u, found.0, get_or_default uses p u nothing found.0, (cell-decides u.cell c).0 found.1)

pub has-cell : (cells : List Cell) (c : Cell) → Contains cells c → has_cell cells c ≡ true
has-cell cells c (k, within, is) = list_any-from_Any (λ (d : Cell). same_cell d c) cells (k, c, within, is, (cell-decides c c).1 refl)

of-cells : (cells : List Cell) (c : Cell) → has_cell cells c ≡ true → Contains cells c
of-cells cells c has =
    let (k, d, within, is, same) = Any-from_list_any (λ (d : Cell). same_cell d c) cells has in
    subst (Contains cells) ((cell-decides d c).0 same) (k, within, is)

pub one-opened : (os : List Open) (o : Open) (c : Cell) → Contains os o → has_cell o.cells c ≡ true → openings_of os o.op c ≡ true
one-opened [] o c (k, within, is) has = absurd (omega (arith, within))
one-opened (p ∷ os) o c there has = by (one_of p o os there) (λ outer. one-opened os o c outer has)
  where
    by : (p ≡ o) ⊎ Contains os o → (Contains os o → openings_of os o.op c ≡ true) → openings_of (p ∷ os) o.op c ≡ true
    by (inl is) rest = or_right (openings_of os o.op c) (same_fold p.op o.op && has_cell p.cells c)
        (ap (λ (q : Open). same_fold q.op o.op && has_cell q.cells c) is ∙ and_true (same_fold o.op o.op) (has_cell o.cells c) (same-op o.op) has)
    by (inr outer) rest = true_or (openings_of os o.op c) (same_fold p.op o.op && has_cell p.cells c) (rest outer)

-- a use tells the mode of its cell, or an earlier one does
mode-there : (uses : List Use) (u : Use) → Contains uses u → (m : Mode) × (mode_in uses u.cell ≡ Some m)
mode-there [] u (k, within, is) = absurd (omega (arith, within))
mode-there (v ∷ uses) u there = by (same_cell u.cell v.cell) refl (λ rest. mode-there uses u rest)
  where
    behind : same_cell u.cell v.cell ≡ false → (v ≡ u) ⊎ Contains uses u → Contains uses u
    behind other (inl is) = absurd (true≢false (sym ((cell-decides u.cell v.cell).1 (ap (λ (w : Use). w.cell) (sym is))) ∙ other))
    behind other (inr rest) = rest

    by : (b : Bool) → same_cell u.cell v.cell ≡ b → (Contains uses u → (m : Mode) × (mode_in uses u.cell ≡ Some m)) → (m : Mode) × (mode_in (v ∷ uses) u.cell ≡ Some m)
    by true e rest = (v.mode, ap (λ b. if b then Some v.mode else mode_in uses u.cell) e)
    by false e rest = let (m, is) = rest (behind e (one_of v u uses there)) in (m, ap (λ b. if b then Some v.mode else mode_in uses u.cell) e ∙ is)

-- uses that name none of the cells don't conflict with uses of these
pub meets-none : (uses others : List Use) → ((c : Cell) (m : Mode) → mode_in uses c ≡ Some m → IsNamed others c → ⊥) → ¬ Conflict uses others
meets-none uses others apart (k, u, within, is, (l, v, inside, at, both)) =
    let (m, mode) = mode-there uses u (k, within, is) in
    apart u.cell m mode (l, v, inside, at, sym both.0)

-- ---- the numbers of open groups

abbrev numbers_of : List Open → List ℕ
numbers_of os = map (λ o. o.group) os

abbrev groups_of : List Summed → List ℕ
groups_of gs = map (λ g. g.group) gs

-- a region has an open group of this number
abbrev HasOpen : List Region → ℕ → Type 0
HasOpen rs n = (i : ℕ) × (o : Open) × Contains (at rs i).groups o × (o.group ≡ n)

open-number : (rs : List Region) (n : ℕ) → Contains (open_group_numbers rs) n → HasOpen rs n
open-number [] n (k, within, is) = absurd (omega (arith, within))
open-number (r ∷ rs) n there = by (Contains-append_cases (numbers_of r.groups) (open_group_numbers rs) n there) (λ rest. open-number rs n rest)
  where
    by : Contains (numbers_of r.groups) n ⊎ Contains (open_group_numbers rs) n → (Contains (open_group_numbers rs) n → HasOpen rs n) → HasOpen (r ∷ rs) n
    by (inl own) deeper = let (o, among, same) = mapped-of (λ (o : Open). o.group) r.groups n own in (0, o, among, same)
    by (inr rest) deeper = let (i, o, among, same) = deeper rest in (suc i, o, among, same)

number-open : (rs : List Region) (i : ℕ) (o : Open) → Contains (at rs i).groups o → Contains (open_group_numbers rs) o.group
number-open [] i o (k, within, is) = absurd (omega (arith, within))
number-open (r ∷ rs) zero o among = Contains-append_left (numbers_of r.groups) (open_group_numbers rs) o.group (mapped (λ (o : Open). o.group) r.groups o among)
number-open (r ∷ rs) (suc i) o among = Contains-append_right (numbers_of r.groups) (open_group_numbers rs) o.group (number-open rs i o among)

-- of each group that copies are kept for there is an open group, and the other way round
open-kept : (rs : List Region) (gs : List Summed) (g : Summed) → AreOpen rs gs → Contains gs g → HasOpen rs g.group
open-kept rs gs g are among =
    open-number rs g.group (Contains-permutation (groups_of gs) (open_group_numbers rs) g.group are.numbers (mapped (λ (g : Summed). g.group) gs g among))

kept-open : (rs : List Region) (gs : List Summed) (i : ℕ) (o : Open) → AreOpen rs gs → Contains (at rs i).groups o → IsOf (λ (g : Summed). g.group) gs o.group
kept-open rs gs i o are among =
    mapped-of (λ (g : Summed). g.group) gs o.group
    (Contains-permutation (open_group_numbers rs) (groups_of gs) o.group (IsPermutation-sym (groups_of gs) (open_group_numbers rs) are.numbers) (number-open rs i o among))

-- ---- which cells copies are kept of

-- a group of which copies are kept is open, and names each of its cells by its operation
kept-opened : (rs : List Region) (gs : List Summed) (g : Summed) (c : Cell) → AreOpen rs gs → Contains gs g → names c g ≡ true → (i : ℕ) × (openings_of (at rs i).groups g.op c ≡ true)
kept-opened rs gs g c are there named =
    let (i, o, among, same) = open-kept rs gs g are there in
    let opens = one-opened (at rs i).groups o c among (sym ((are.same i o g among there (sym same)).1 c) ∙ named) in
    (i, ap (λ p. openings_of (at rs i).groups p c) (are.same i o g among there (sym same)).0 ∙ opens)

-- copies are kept of each cell that an open group names, by its operation
pub open-summed : (rs : List Region) (gs : List Summed) (i : ℕ) (o : Open) (c : Cell) → AreOpen rs gs → Contains (at rs i).groups o → has_cell o.cells c ≡ true → IsSummedBy gs o.op c
open-summed rs gs i o c are among has =
    let (g, there, same) = kept-open rs gs i o are among in
    let (op, cells) = are.same i o g among there same in
    any-of (λ g. (names c g ≡ true) × (g.op ≡ o.op)) gs g there (cells c ∙ has, op)

-- and of none that no open group names
pub not_summed : (rs : List Region) (gs : List Summed) (c : Cell) → AreOpen rs gs → ((i : ℕ) (op : Operation) → openings_of (at rs i).groups op c ≡ false) → ¬ IsSummed gs c
not_summed rs gs c are none (k, g, within, is, named) =
    let (i, opens) = kept-opened rs gs g c are (k, within, is) named in true≢false (sym opens ∙ none i g.op)

-- all open groups have numbers below this one
abbrev pub AreBelow : List Region → ℕ → Type 0
AreBelow rs number = (k : ℕ) → All (λ o. o.group < number) (at rs k).groups

-- it is the number of none of which copies are kept
pub kept-new : (rs : List Region) (gs : List Summed) (number : ℕ) → AreBelow rs number → AreOpen rs gs → All (λ g. g.group ≢ number) gs
kept-new rs gs number below are = all-of (λ g. g.group ≢ number) gs each
  where
    each : (g : Summed) → Contains gs g → g.group ≢ number
    each g there same =
        let (k, o, among, is) = open-kept rs gs g are there in
        let less : o.group < number = All-contains (λ (p : Open). p.group < number) (at rs k).groups o (below k) among in
        omega (arith, less, is, same)

-- ---- where the open groups are the same

no-numbers : (rs : List Region) → ((k : ℕ) → (at rs k).groups ≡ []) → open_group_numbers rs ≡ []
no-numbers [] none = refl
no-numbers (r ∷ rs) none = ap (λ os. numbers_of os ++ open_group_numbers rs) (none 0) ∙ no-numbers rs (λ k. none (suc k))

numbers-same : (rs new : List Region) → ((k : ℕ) → (at new k).groups ≡ (at rs k).groups) → open_group_numbers new ≡ open_group_numbers rs
numbers-same [] new same = no-numbers new same
numbers-same (r ∷ rs) [] same = sym (no-numbers (r ∷ rs) (λ k. sym (same k)))
numbers-same (r ∷ rs) (n ∷ new) same =
    ap (λ os. numbers_of os ++ open_group_numbers new) (same 0) ∙ ap (λ ns. numbers_of r.groups ++ ns) (numbers-same rs new (λ k. same (suc k)))

-- where no group is open that wasn't, and copies are kept for no group for which none were
open-fewer : (rs now : List Region) (gs new : List Summed) → IsPermutation (groups_of new) (open_group_numbers now) → ((k : ℕ) (o : Open) → Contains (at now k).groups o → Contains (at rs k).groups o)
    → ((g : Summed) → Contains new g → Contains gs g) → AreOpen rs gs → AreOpen now new
open-fewer rs now gs new numbers fewer less are = record {
  numbers = numbers;
  same = λ i o g among there same. are.same i o g (fewer i o among) (less g there) same;
}

pub open-same : (rs now : List Region) (gs : List Summed) → ((k : ℕ) → (at now k).groups ≡ (at rs k).groups) → AreOpen rs gs → AreOpen now gs
open-same rs now gs same are =
    open-fewer rs now gs gs (subst (IsPermutation (groups_of gs)) (sym (numbers-same rs now same)) are.numbers)
    (λ k o among. subst (λ os. Contains os o) (same k) among) (λ g there. there) are

-- ---- a group's end is passed

numbers-left : (rs : List Region) (i : ℕ) (f : Region → Region) (o : Open) (os : List Open) → i < length rs → (at rs i).groups ≡ o ∷ os → (f (at rs i)).groups ≡ os
    → IsPermutation (open_group_numbers rs) (o.group ∷ open_group_numbers (updated rs i f))
numbers-left [] i f o os within was now = absurd (omega (arith, within))
numbers-left (r ∷ rs) zero f o os within was now =
    let is : open_group_numbers (r ∷ rs) ≡ o.group ∷ (numbers_of (f r).groups ++ open_group_numbers rs) = ap (λ ps. numbers_of ps ++ open_group_numbers rs) (was ∙ ap (λ ps. o ∷ ps) (sym now)) in
    subst (IsPermutation (open_group_numbers (r ∷ rs))) is (IsPermutation-refl (open_group_numbers (r ∷ rs)))
numbers-left (r ∷ rs) (suc i) f o os within was now =
    let mine = numbers_of r.groups in
    let rest = open_group_numbers (updated rs i f) in
    IsPermutation-trans (open_group_numbers (r ∷ rs)) (mine ++ o.group ∷ rest) (o.group ∷ (mine ++ rest))
    (IsPermutation-append_right mine (open_group_numbers rs) (o.group ∷ rest) (numbers-left rs i f o os (omega (arith, within)) was now)) (IsPermutation-middle mine o.group rest)

one-without : (n : ℕ) (gs : List Summed) → Contains (groups_of gs) n → IsPermutation (groups_of gs) (n ∷ groups_of (without_group n gs))
one-without n [] (k, within, is) = absurd (omega (arith, within))
one-without n (g ∷ gs) there = by (g.group == n) refl (λ rest. one-without n gs rest)
  where
    rest_of : (g.group == n) ≡ false → (g.group ≡ n) ⊎ Contains (groups_of gs) n → Contains (groups_of gs) n
    rest_of other (inl same) = absurd (true≢false (sym (eq-eqb g.group n same) ∙ other))
    rest_of other (inr rest) = rest

    by : (b : Bool) → (g.group == n) ≡ b → (Contains (groups_of gs) n → IsPermutation (groups_of gs) (n ∷ groups_of (without_group n gs)))
        → IsPermutation (groups_of (g ∷ gs)) (n ∷ groups_of (if b then gs else g ∷ without_group n gs))
    by true met rest = subst (λ m. IsPermutation (groups_of (g ∷ gs)) (m ∷ groups_of gs)) (eqb-true g.group n met) (IsPermutation-refl (groups_of (g ∷ gs)))
    by false other rest =
        let left = groups_of (without_group n gs) in
        IsPermutation-trans (groups_of (g ∷ gs)) (g.group ∷ n ∷ left) (n ∷ g.group ∷ left)
        (IsPermutation-cons g.group (groups_of gs) (n ∷ left) (rest (rest_of other (one_of g.group n (groups_of gs) there)))) (IsPermutation-middle (g.group ∷ []) n left)

without-fewer : (n : ℕ) (gs : List Summed) (g : Summed) → Contains (without_group n gs) g → Contains gs g
without-fewer n [] g there = there
without-fewer n (h ∷ gs) g there = by (h.group == n) (λ rest. without-fewer n gs g rest) there
  where
    by : (b : Bool) → (Contains (without_group n gs) g → Contains gs g) → Contains (if b then gs else h ∷ without_group n gs) g → Contains (h ∷ gs) g
    by true rest kept = later h g gs kept
    by false rest kept = ⊎_elim (λ is. subst (Contains (h ∷ gs)) is (here h gs)) (λ left. later h g gs (rest left)) (one_of h g (without_group n gs) kept)

open-left : (rs : List Region) (gs : List Summed) (i : ℕ) (f : Region → Region) (o : Open) (os : List Open) → i < length rs → (at rs i).groups ≡ o ∷ os → (f (at rs i)).groups ≡ os
    → AreOpen rs gs → AreOpen (updated rs i f) (without_group o.group gs)
open-left rs gs i f o os within was now are =
    open-fewer rs (updated rs i f) gs (without_group o.group gs) numbers fewer (without-fewer o.group gs) are
  where
    left : List ℕ
    left = groups_of (without_group o.group gs)

    among : Contains (groups_of gs) o.group
    among = Contains-permutation (open_group_numbers rs) (groups_of gs) o.group (IsPermutation-sym (groups_of gs) (open_group_numbers rs) are.numbers)
        (number-open rs i o (subst (λ ps. Contains ps o) (sym was) (here o os)))

    numbers : IsPermutation left (open_group_numbers (updated rs i f))
    numbers = permutation_rest o.group left (open_group_numbers (updated rs i f))
        (IsPermutation-trans (o.group ∷ left) (groups_of gs) (o.group ∷ open_group_numbers (updated rs i f))
        (IsPermutation-sym (groups_of gs) (o.group ∷ left) (one-without o.group gs among))
        (IsPermutation-trans (groups_of gs) (open_group_numbers rs) (o.group ∷ open_group_numbers (updated rs i f)) are.numbers (numbers-left rs i f o os within was now)))

    fewer : (k : ℕ) (p : Open) → Contains (at (updated rs i f) k).groups p → Contains (at rs k).groups p
    fewer k p there = elim (cases_eq k i) [
      | inl is ↦ let inner : Contains os p = subst (λ ps. Contains ps p) (ap (λ n. (at (updated rs i f) n).groups) is ∙ ap (λ (r : Region). r.groups) (at-updated rs i f within) ∙ now) there in
          subst (λ ps. Contains ps p) (sym (ap (λ n. (at rs n).groups) is ∙ was)) (later o p os inner)
      | inr apart ↦ subst (λ (r : Region). Contains r.groups p) (at-updated-other rs i k f apart) there
    ]

-- a task goes on, past the end of its innermost open group or not
pub open-passed : (rs : List Region) (gs : List Summed) (i : ℕ) (f : Region → Region) → i < length rs → ((r : Region) → (f r).groups ≡ (awake r).groups)
    → AreOpen rs gs → AreOpen (updated rs i f) (left_open (group_passed (at rs i)) gs)
open-passed rs gs i f within goes are = by (at rs i).rest (at rs i).groups refl (goes (at rs i))
  where
    by : (b : Body) (os : List Open) → (at rs i).groups ≡ os → (f (at rs i)).groups ≡ (groups_passed b os).groups → AreOpen (updated rs i f) (left_open (ended_group b os) gs)
    by End [] was now = open-same rs (updated rs i f) gs (field-at (λ r. r.groups) f rs i (now ∙ sym was)) are
    by End (o ∷ os) was now = open-left rs gs i f o os within was now are
    by (Next x rest) os was now = open-same rs (updated rs i f) gs (field-at (λ r. r.groups) f rs i (now ∙ sym was)) are

-- ---- rows begin and grow

abbrev bare : Summed → Summed
bare g = record g { rows = [] }

groups-bares : (gs : List Summed) → groups_of gs ≡ groups_of (bares gs)
groups-bares [] = refl
groups-bares (g ∷ gs) = ap (λ ns. g.group ∷ ns) (groups-bares gs)

-- where the groups are the same but for their rows
pub open-alike : (rs : List Region) (gs new : List Summed) → bares gs ≡ bares new → AreOpen rs gs → AreOpen rs new
open-alike rs gs new alike are = record {
  numbers = subst (λ ns. IsPermutation ns (open_group_numbers rs)) (groups-bares gs ∙ ap groups_of alike ∙ sym (groups-bares new)) are.numbers;
  same = λ i o g among there number.
      let (before, old, is) = mapped-of bare gs (bare g) (subst (λ bs. Contains bs (bare g)) (sym alike) (mapped bare new g there)) in
      subst (IsFor o) is (are.same i o before among old (ap (λ (b : Summed). b.group) is ∙ number));
}

pub open-grown : (rs : List Region) (gs : List Summed) (worker : ℕ) (uses : List Use) → AreOpen rs gs → AreOpen rs (begun_for worker uses gs)
open-grown rs gs worker uses are = open-alike rs gs (begun_for worker uses gs) (bares-begun worker uses gs) are

pub open-back : (rs : List Region) (gs : List Summed) (worker : ℕ) (lent : List LentCell) → AreOpen rs gs → AreOpen rs (all_back worker lent gs)
open-back rs gs worker lent are = open-alike rs gs (all_back worker lent gs) (bares-back worker lent gs) are

-- ---- a group is entered

-- a group as it is opened, with no row
abbrev pub summed_new : ℕ → Operation → List Use → Summed
summed_new number op uses = record { group = number; op = op; uses = uses; rows = replicate 17 None }

numbers-entered : (rs : List Region) (i : ℕ) (f : Region → Region) (o : Open) → i < length rs → (f (at rs i)).groups ≡ o ∷ (at rs i).groups
    → IsPermutation (o.group ∷ open_group_numbers rs) (open_group_numbers (updated rs i f))
numbers-entered [] i f o within now = absurd (omega (arith, within))
numbers-entered (r ∷ rs) zero f o within now =
    subst (IsPermutation (o.group ∷ open_group_numbers (r ∷ rs))) (ap (λ ps. numbers_of ps ++ open_group_numbers rs) (sym now)) (IsPermutation-refl (o.group ∷ open_group_numbers (r ∷ rs)))
numbers-entered (r ∷ rs) (suc i) f o within now =
    let mine = numbers_of r.groups in
    IsPermutation-trans (o.group ∷ (mine ++ open_group_numbers rs)) (mine ++ o.group ∷ open_group_numbers rs) (mine ++ open_group_numbers (updated rs i f))
    (IsPermutation-sym (mine ++ o.group ∷ open_group_numbers rs) (o.group ∷ (mine ++ open_group_numbers rs)) (IsPermutation-middle mine o.group (open_group_numbers rs)))
    (IsPermutation-append_right mine (o.group ∷ open_group_numbers rs) (open_group_numbers (updated rs i f)) (numbers-entered rs i f o (omega (arith, within)) now))

module _ (rs : List Region) (gs : List Summed) (i : ℕ) (f : Region → Region) (o : Open) (uses : List Use) (within : i < length rs)
    (now : (f (at rs i)).groups ≡ o ∷ (at rs i).groups) (below : AreBelow rs o.group) (named : (c : Cell) → IsNamed uses c ↔ Contains o.cells c) (are : AreOpen rs gs) where
  numbers-opened : IsPermutation (groups_of (gs ++ summed_new o.group o.op uses ∷ [])) (open_group_numbers (updated rs i f))
  numbers-opened =
      let all = open_group_numbers (updated rs i f) in
      subst (λ ns. IsPermutation ns all) (sym (map-append (λ (g : Summed). g.group) gs (summed_new o.group o.op uses ∷ [])))
      (IsPermutation-trans (groups_of gs ++ o.group ∷ []) (o.group ∷ groups_of gs) all (IsPermutation-to_front (groups_of gs) o.group)
      (IsPermutation-trans (o.group ∷ groups_of gs) (o.group ∷ open_group_numbers rs) all (IsPermutation-cons o.group (groups_of gs) (open_group_numbers rs) are.numbers) (numbers-entered rs i f o within now)))

  open-now : (k : ℕ) (p : Open) → Contains (at (updated rs i f) k).groups p → Contains (at rs k).groups p ⊎ (o ≡ p)
  open-now k p there = pick (cases_eq k i)
    where
      back : k ≡ i → (o ≡ p) ⊎ Contains (at rs i).groups p → Contains (at rs k).groups p ⊎ (o ≡ p)
      back is (inl new) = inr new
      back is (inr old) = inl (subst (λ n. Contains (at rs n).groups p) (sym is) old)

      pick : (k ≡ i) ⊎ (k ≡ i → ⊥) → Contains (at rs k).groups p ⊎ (o ≡ p)
      pick (inl is) =
          back is (one_of o p (at rs i).groups (subst (λ ps. Contains ps p) (ap (λ n. (at (updated rs i f) n).groups) is ∙ ap (λ (r : Region). r.groups) (at-updated rs i f within) ∙ now) there))
      pick (inr apart) = inl (subst (λ (r : Region). Contains r.groups p) (at-updated-other rs i k f apart) there)

  old-below : (k : ℕ) (p : Open) → Contains (at rs k).groups p → p.group < o.group
  old-below k p there = All-contains (λ (q : Open). q.group < o.group) (at rs k).groups p (below k) there

  kept-below : (g : Summed) → Contains gs g → g.group < o.group
  kept-below g there = let (k, p, among, same) = open-kept rs gs g are there in let less = old-below k p among in omega (arith, less, same)

  -- the new group's number is no other's
  pub open-entered : AreOpen (updated rs i f) (gs ++ summed_new o.group o.op uses ∷ [])
  open-entered = record {
    numbers = numbers-opened;
    same = λ k p g among there same. by k p g (open-now k p among) (Contains-push_cases gs (summed_new o.group o.op uses) g there) same;
  }
    where
      by : (k : ℕ) (p : Open) (g : Summed) → Contains (at rs k).groups p ⊎ (o ≡ p) → Contains gs g ⊎ (summed_new o.group o.op uses ≡ g) → g.group ≡ p.group → IsFor p g
      by k p g (inl old) (inl kept) same = are.same k p g old kept same
      by k p g (inl old) (inr fresh) same = let less = old-below k p old in let number = ap (λ (g : Summed). g.group) fresh in absurd (omega (arith, less, same, number))
      by k p g (inr entered) (inl kept) same = let less = kept-below g kept in let number = ap (λ (p : Open). p.group) entered in absurd (omega (arith, less, same, number))
      by k p g (inr entered) (inr fresh) same = subst (λ q. IsFor q g) entered (subst (IsFor o) fresh (
        refl,
        λ c.
            same_answer (is_some (place_in uses c)) (has_cell o.cells c) (λ there. has-cell o.cells c ((named c).0 (of-place uses c there))) (λ has. place-of uses c ((named c).1 (of-cells o.cells c has))),
      ))

-- ---- a piece comes back

module _ (taken : Bool) (number i : ℕ) (rs : List Region) (gs new : List Summed) (within : i < length rs) (below : AreBelow rs number) (are : AreOpen rs gs) where
  same-stepped : (b : Body) → (at rs i).rest ≡ b → (stepped_from taken number b (at rs i)).groups ≡ (at rs i).groups → new ≡ gs → AreOpen (updated rs i (region_stepped taken number)) new
  same-stepped b was same is =
      subst (AreOpen (updated rs i (region_stepped taken number))) (sym is)
      (open-same rs (updated rs i (region_stepped taken number)) gs (field-at (λ r. r.groups) (region_stepped taken number) rs i (ap (λ b. (stepped_from taken number b (at rs i)).groups) was ∙ same)) are)

  open-stepped : (b : Body) → (at rs i).rest ≡ b → Opens (group_next b) number gs new → AreOpen (updated rs i (region_stepped taken number)) new
  open-stepped (Next (Group op cs b) rest) was (uses, named, is) =
      subst (AreOpen (updated rs i (region_stepped taken number))) (sym is)
      (open-entered rs gs i (region_stepped taken number) (record { group = number; op = op; cells = cs; behind = rest }) uses within (ap (λ b. (stepped_from taken number b (at rs i)).groups) was) below named are)
  open-stepped b was opens = same-stepped b was refl opens

  groups-moved : (k : ℕ) → (at (moved_on taken number i rs) k).groups ≡ (at (updated rs i (region_stepped taken number)) k).groups
  groups-moved = moved-by taken number i rs (λ l. (k : ℕ) → (at l k).groups ≡ (at (updated rs i (region_stepped taken number)) k).groups)
      (λ was k. field-at (λ r. r.groups) over (told_parent i rs) i refl k ∙ tell-field (λ r. r.groups) (λ c r. refl) (nat_lt 0 i) (parent_of rs i) (at rs i).child rs k
      ∙ sym (field-at (λ r. r.groups) (region_stepped taken number) rs i (ap (λ b. (stepped_from taken number b (at rs i)).groups) was) k))
      (λ k. refl)
      (λ l child same k. field-more (λ r. r.groups) (updated l i (with_child child.0)) (new_region i (children_at l i) child.0 child.1) refl k ∙ field-at (λ r. r.groups) (with_child child.0) l i refl k ∙ same k)

  -- what becomes of the open groups as a piece comes back
  pub open-settled : Opens (group_next (at rs i).rest) number gs new → AreOpen (regions_settled taken number i rs) new
  open-settled opens =
      open-same (updated rs i (region_stepped taken number)) (regions_settled taken number i rs) new (λ k. field-at (λ r. r.groups) region_stopped (moved_on taken number i rs) i refl k ∙ groups-moved k)
      (open-stepped (at rs i).rest refl opens)

-- ---- where no group is open

pub none-open : (rs : List Region) (gs : List Summed) → ((i : ℕ) → (at rs i).groups ≡ []) → AreOpen rs gs → gs ≡ []
none-open rs [] none are = refl
none-open rs (g ∷ gs) none are =
    let (i, o, among, same) = open-kept rs (g ∷ gs) g are (here g gs) in
    absurd (never o (subst (λ os. Contains os o) (none i) among))
  where
    never : (o : Open) → Contains [] o → ⊥
    never o (k, within, is) = omega (arith, within)

pub open-none : (rs : List Region) → ((i : ℕ) → (at rs i).groups ≡ []) → AreOpen rs []
open-none rs none = record {
  numbers = subst (IsPermutation []) (sym (no-numbers rs none)) (IsPermutation-refl []);
  same = λ i o g among (k, within, is). absurd (omega (arith, within));
}

-- no copy is kept
pub none-combined : (owned : Owned) → owned.groups ≡ [] → IsCombined owned
none-combined owned none cells cell = ap (λ gs. option_map (worth_over gs cell) (cell_of cells cell)) none ∙ option_map_id (cell_of cells cell)

-- ---- a group that a task closes

pub innermost : (r : Region) (o : Open) (os : List Open) → r.groups ≡ o ∷ os → Contains r.groups o
innermost r o os is = subst (λ ps. Contains ps o) (sym is) (here o os)

-- the group whose end a task passes is its innermost
pub passed-open : (r : Region) (n : ℕ) → group_passed r ≡ Some n → (o : Open) × (os : List Open) × (r.rest ≡ End) × (r.groups ≡ o ∷ os) × (o.group ≡ n)
passed-open r n is = by r.rest r.groups refl refl is
  where
    by : (b : Body) (os : List Open) → r.rest ≡ b → r.groups ≡ os → ended_group b os ≡ Some n → (o : Open) × (os : List Open) × (r.rest ≡ End) × (r.groups ≡ o ∷ os) × (o.group ≡ n)
    by End [] was groups some = absurd (none-some n some)
    by End (o ∷ os) was groups some = (o, os, was, groups, same_Some o.group n some)
    by (Next x rest) os was groups some = absurd (none-some n some)

module _ (rs : List Region) (gs : List Summed) (i : ℕ) (o : Open) (among : Contains (at rs i).groups o) (are : AreOpen rs gs) where
  pub is-open : Any (λ g. g.group ≡ o.group) gs
  is-open = let (g, there, same) = kept-open rs gs i o are among in any-of (λ g. g.group ≡ o.group) gs g there same

  -- where uses name none of its cells
  pub unused : (uses : List Use) → ((c : Cell) (m : Mode) → mode_in uses c ≡ Some m → has_cell o.cells c ≡ true → ⊥) → All (λ g. g.group ≡ o.group → ¬ Conflict uses g.uses) gs
  unused uses apart = all-of (λ g. g.group ≡ o.group → ¬ Conflict uses g.uses) gs (λ g there same.
      meets-none uses g.uses (λ c m held named. apart c m held (sym ((are.same i o g among there same).1 c) ∙ place-of g.uses c named)))

  -- where no loan is out of one
  pub free-out : (out : List Loan) → All (λ loan. (c : Cell) (m : Mode) → mode_in loan.lease.uses c ≡ Some m → has_cell o.cells c ≡ true → ⊥) out → All (λ g. g.group ≡ o.group → IsFreeFor out g.uses) gs
  free-out out apart l d within same k e inside = unused (get_or out k e).lease.uses (apart k e inside) l d within same

  pub there : (cells : List (List ℕ)) → All (λ c. IsSome (cell_of cells c)) o.cells → All (λ g. g.group ≡ o.group → All (λ u. IsSome (cell_of cells u.cell)) g.uses) gs
  there cells all = all-of (λ g. g.group ≡ o.group → All (λ u. IsSome (cell_of cells u.cell)) g.uses) gs each
    where
      each : (g : Summed) → Contains gs g → g.group ≡ o.group → All (λ u. IsSome (cell_of cells u.cell)) g.uses
      each g kept same = all-of (λ u. IsSome (cell_of cells u.cell)) g.uses (λ u (k, within, is).
          All-contains (λ c. IsSome (cell_of cells c)) o.cells u.cell all
          (of-cells o.cells u.cell (sym ((are.same i o g among kept same).1 u.cell) ∙ place-of g.uses u.cell (k, u, within, is, refl))))

-- ---- what cells are worth

-- a cell that no copies are kept of is worth its stored number
pub worth-unsummed : (owned : Owned) (cells : List (List ℕ)) (c : Cell) → ¬ IsSummed owned.groups c → worth owned cells c ≡ cell_of cells c
worth-unsummed owned cells c none =
    same_worth (worth_over owned.groups c) (λ (n : ℕ). n) (cell_of cells c) (over-unsummed owned.groups c none) ∙ option_map_id (cell_of cells c)

-- what is lent is as it was from the cells as they are worth, where only those who fold meet copies
pub lent-worths : (owned : Owned) (cells : List (List ℕ)) (uses : List Use) → All (λ u. is_fold u.mode ≡ false → ¬ IsSummed owned.groups u.cell) uses → lent_from cells uses ≡ lent_from (worths owned cells) uses
lent-worths owned cells [] apart = refl
lent-worths owned cells (u ∷ uses) apart =
    ap (λ l. l ∷ lent_from cells uses) (by u.mode refl) ∙ ap (λ ls. copy_of (worths owned cells) u ∷ ls) (lent-worths owned cells uses (λ k d within. apart (suc k) d (omega (arith, within))))
  where
    lends : ℕ → LentCell
    lends first = record { cell = u.cell; mode = u.mode; first = first; value = first }

    now : is_fold u.mode ≡ false → cell_of cells u.cell ≡ cell_of (worths owned cells) u.cell
    now other = sym (worth-unsummed owned cells u.cell (apart 0 u (omega arith) other)) ∙ sym (cell_of-worths owned cells u.cell)

    by : (m : Mode) → u.mode ≡ m → copy_of cells u ≡ copy_of (worths owned cells) u
    by (Folds op) is =
        ap (λ m. lends (first_of m (unwrap_or (cell_of cells u.cell) 0))) is
        ∙ sym (ap (λ m. lends (first_of m (unwrap_or (cell_of (worths owned cells) u.cell) 0))) is)
    by m is = ap (λ o. lends (first_of u.mode (unwrap_or o 0))) (now (ap is_fold is))
