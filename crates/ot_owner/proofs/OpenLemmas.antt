-- Open groups as rows begin, as a group is opened and as one is closed.
use Rattle.std.proofs.Common.{◌≡◌, ◌≢◌, ℕ, zero, suc, ◌<◌, ◌^◌, List, [], ◌∷◌, ◌++◌, length, get_or, refl, sym, ap, ◌∙◌, subst, arith, true≢false, Bool, true, false, cond, take, ◌+◌, Contains, IsPermutation}
use Rattle.std.specs.Prelude.{Option, Some, None, is_some, IsSome, IfSome, slice_get, option_map, option_and_then, replicate, if◌then◌else◌, ◌==◌}
use Rattle.std.specs.List.{All, Any, remove, position, position_from}
use Rattle.std.proofs.lemmas.Iterator.Adapters.{position_from-zero}
use Rattle.std.proofs.lemmas.List.Elements.{All-nil, All-cons, All-push}
use Rattle.std.proofs.lemmas.List.Folds.{list_any-from_Any}
use Rattle.std.proofs.lemmas.List.Quantifiers.{position-Some}
use Rattle.std.proofs.lemmas.Bool.{eqb-true, eq-eqb}
use Rattle.std.proofs.lemmas.List.{length-map, length-replicate, get_or_default, take_more}
use Rattle.std.proofs.lemmas.List.Sorted.{All-permutation}
use Rattle.std.proofs.lemmas.Option.{same_Some}
use Rattle.std.proofs.Math.ListN.{get_or-map}
use Rattle.ot_model.specs.Cells.{updated, joined as join, is_fold, conflicts, Conflict}
use Rattle.ot_model.specs.Joining.{join_by, unit_of}
use Rattle.ot_model.specs.declared.expr.Cell.{Cell}
use Rattle.ot_model.specs.declared.stmt.Mode.{Mode}
use Rattle.ot_model.specs.declared.fold.Fold.{Fold as Operation}
use Rattle.ot_model.specs.declared.stmt.Mode.TheVariants.{Reads, Writes, Folds}
use Rattle.ot_model.specs.declared.stmt.Use.{Use}
use Rattle.ot_model.proofs.EqualLemmas.{cell-decides}
use Rattle.ot_owner.specs.declared.lent.LentCell.{LentCell}
use Rattle.ot_owner.specs.Worth.{taken_back, all_back, copies_combined, worth_over, closed_over, AreJoined}
use Rattle.ot_owner.specs.Keeping.{IsRegular, HasCopies, IsByOwn, IsSound}
use Rattle.ot_owner.specs.Lending.{use_of, uses_of}
use Rattle.ot_owner.specs.Kept.{summed_of, summeds_of}
use Rattle.ot_owner.specs.Owning.{Loan, IsFreeFor, Summed, is_of, place_in, names, IsNamed, IsSummed, IsSummedBy, IsOnlyBy, NoTwoShare, folds_in, copy_in, row_in, copies_at, copies_where, copies_in, copy_among, folded_in, copies_folded, begun_row, begun_in, begun_for, without}
use Rattle.ot_owner.specs.declared.rows.Group.{Group}
use Rattle.ot_owner.proofs.ApartLemmas.{no_two-begun, no_two-ended}
use Rattle.ot_owner.proofs.CombineLemmas.{unit-small, join-small, combined-small, combined-swap}
use Rattle.ot_owner.proofs.RowLemmas.{IsSmall, copies-small, combined-begun, all-updated, length-updated}
use Rattle.ot_owner.proofs.GroupLemmas.{unnamed, still-some, only-still}
use Rattle.ot_owner.proofs.ShareLemmas.{bares, bares-begun, bares-back, only-alike, share-alike, share-opened, share-closed, closed-all, only-group, only-summed}

abbrev Rows : Type 0
Rows = List (Option (List ℕ))

-- ---- what a cell is worth

-- what no open group names is worth its stored number
pub worth-unsummed : (gs : List Summed) (c : Cell) → ¬ IsSummed gs c → (n : ℕ) → worth_over gs c n ≡ n
worth-unsummed [] c none n = refl
worth-unsummed (g ∷ gs) c none n = by (names c g) refl (worth-unsummed gs c (λ (k, h, within, is, named). none (suc k, h, omega (arith, within), is, named)) n)
  where
    by : (b : Bool) → names c g ≡ b → worth_over gs c n ≡ n → worth_over gs c (copies_combined g.op n (copies_in c g)) ≡ n
    by true named rest = absurd (none (0, g, omega arith, refl, named))
    by false not rest = ap (λ xs. worth_over gs c (copies_combined g.op n xs)) (unnamed c g not) ∙ rest

-- one group more
pub worth-push : (gs : List Summed) (g : Summed) (c : Cell) (n : ℕ) → worth_over (gs ++ g ∷ []) c n ≡ copies_combined g.op (worth_over gs c n) (copies_in c g)
worth-push [] g c n = refl
worth-push (h ∷ gs) g c n = worth-push gs g c (copies_combined h.op n (copies_in c h))

-- where each number is worth the same
pub same_worth : (one two : ℕ → ℕ) (o : Option ℕ) → ((n : ℕ) → one n ≡ two n) → option_map one o ≡ option_map two o
same_worth one two None same = refl
same_worth one two (Some n) same = ap Some (same n)

pub same_small : (one two : ℕ → ℕ) (o : Option ℕ) → IfSome o (λ n. n < 2 ^ 64) → ((n : ℕ) → n < 2 ^ 64 → one n ≡ two n) → option_map one o ≡ option_map two o
same_small one two None small same = refl
same_small one two (Some n) small same = ap Some (same n small)

-- ---- rows begin

abbrev begun_if : ℕ → Bool → Summed → Summed
begun_if w b g = if b then begun_in w g else g

begun-uses : (w : ℕ) (b : Bool) (g : Summed) → (begun_if w b g).uses ≡ g.uses
begun-uses w true g = refl
begun-uses w false g = refl

begun-combined : (w : ℕ) (c : Cell) (g : Summed) (b : Bool) (n : ℕ) → n < 2 ^ 64 → IsRegular g → copies_combined (begun_if w b g).op n (copies_in c (begun_if w b g)) ≡ copies_combined g.op n (copies_in c g)
begun-combined w c g false n small regular = refl
begun-combined w c g true n small regular = by (place_in g.uses c)
  where
    by : (o : Option ℕ) → copies_combined g.op n (copies_where (updated g.rows w (begun_row g.op (length g.uses))) o) ≡ copies_combined g.op n (copies_where g.rows o)
    by None = refl
    by (Some place) = combined-begun g.op n small g.rows w (length g.uses) place regular.small

-- a number below 2^64 is so still once it is combined with the copies in a group
group-small : (c : Cell) (g : Summed) (n : ℕ) → n < 2 ^ 64 → IsRegular g → copies_combined g.op n (copies_in c g) < 2 ^ 64
group-small c g n small regular = by (place_in g.uses c)
  where
    by : (o : Option ℕ) → copies_combined g.op n (copies_where g.rows o) < 2 ^ 64
    by None = small
    by (Some place) = combined-small g.op n (copies_at g.rows place) small (copies-small g.rows place regular.small)

-- rows begin alike for uses that fold into the same cells
pub begun-alike : (w : ℕ) (us vs : List Use) (gs : List Summed) → ((named : List Use) → folds_in named us ≡ folds_in named vs) → begun_for w us gs ≡ begun_for w vs gs
begun-alike w us vs [] same = refl
begun-alike w us vs (g ∷ gs) same =
    ap (λ b. (if b then begun_in w g else g) ∷ begun_for w us gs) (same g.uses)
    ∙ ap (λ hs. (if folds_in g.uses vs then begun_in w g else g) ∷ hs) (begun-alike w us vs gs same)

pub begun-worth : (w : ℕ) (uses : List Use) (gs : List Summed) (c : Cell) (n : ℕ) → n < 2 ^ 64 → All IsRegular gs → worth_over (begun_for w uses gs) c n ≡ worth_over gs c n
begun-worth w uses [] c n small regular = refl
begun-worth w uses (g ∷ gs) c n small regular =
    ap (worth_over (begun_for w uses gs) c) (begun-combined w c g (folds_in g.uses uses) n small (regular 0 g (omega arith)))
    ∙ begun-worth w uses gs c (copies_combined g.op n (copies_in c g)) (group-small c g n small (regular 0 g (omega arith))) (λ k d within. regular (suc k) d (omega (arith, within)))

row-begun : (o : Operation) (rows : Rows) (w x q len : ℕ) → IsSome (copy_in q (row_in rows x)) → IsSome (copy_in q (row_in (updated rows w (begun_row o len)) x))
row-begun o [] w x q len there = there
row-begun o (None ∷ rows) zero zero q len there = absurd (true≢false (sym there))
row-begun o (Some copies ∷ rows) zero zero q len there = there
row-begun o (row ∷ rows) zero (suc x) q len there = there
row-begun o (row ∷ rows) (suc w) zero q len there = there
row-begun o (row ∷ rows) (suc w) (suc x) q len there = row-begun o rows w x q len there

-- whoever had a copy has one still
pub begun-still : (w : ℕ) (uses : List Use) (gs : List Summed) (x : ℕ) (c : Cell) → IsSome (copy_among gs x c) → IsSome (copy_among (begun_for w uses gs) x c)
begun-still w uses [] x c there = there
begun-still w uses (g ∷ gs) x c there = by (begun-still w uses gs x c) (folds_in g.uses uses)
  where
    rest : (IsSome (copy_among gs x c) → IsSome (copy_among (begun_for w uses gs) x c)) → (o : Option ℕ) → IsSome (if is_some o then option_and_then (λ place. copy_in place (row_in g.rows x)) o else copy_among gs x c)
        → IsSome (if is_some o then option_and_then (λ place. copy_in place (row_in g.rows x)) o else copy_among (begun_for w uses gs) x c)
    rest later None some = later some
    rest later (Some p) some = some

    own : (IsSome (copy_among gs x c) → IsSome (copy_among (begun_for w uses gs) x c)) → (o : Option ℕ) → IsSome (if is_some o then option_and_then (λ place. copy_in place (row_in g.rows x)) o else copy_among gs x c)
        → IsSome (if is_some o then option_and_then (λ place. copy_in place (row_in (updated g.rows w (begun_row g.op (length g.uses))) x)) o else copy_among (begun_for w uses gs) x c)
    own later None some = later some
    own later (Some p) some = row-begun g.op g.rows w x p (length g.uses) some

    by : (IsSome (copy_among gs x c) → IsSome (copy_among (begun_for w uses gs) x c)) → (b : Bool) → IsSome (copy_among (begun_if w b g ∷ begun_for w uses gs) x c)
    by later true = own later (place_in g.uses c) there
    by later false = rest later (place_in g.uses c) there

same-there : (len unit p : ℕ) → p < len → IsSome (slice_get {X = ℕ} (replicate len unit) p)
same-there zero unit p within = absurd (omega (arith, within))
same-there (suc len) unit zero within = refl
same-there (suc len) unit (suc p) within = same-there len unit p (omega (arith, within))

number-there : (copies : List ℕ) (p : ℕ) → p < length copies → IsSome (slice_get copies p)
number-there [] p within = absurd (omega (arith, within))
number-there (x ∷ copies) zero within = refl
number-there (x ∷ copies) (suc p) within = number-there copies p (omega (arith, within))

-- a row that has begun has a copy at each place
row-there : (o : Operation) (rows : Rows) (w p len : ℕ) → w < length rows → p < len → All (λ row. IfSome row (λ copies. length copies ≡ len)) rows → IsSome (copy_in p (row_in (updated rows w (begun_row o len)) w))
row-there o [] w p len known within long = absurd (omega (arith, known))
row-there o (None ∷ rows) zero p len known within long = same-there len (unit_of o) p within
row-there o (Some copies ∷ rows) zero p len known within long =
    let is : length copies ≡ len = long 0 None (omega arith) in
    number-there copies p (omega (arith, within, is))
row-there o (row ∷ rows) (suc w) p len known within long = row-there o rows w p len (omega (arith, known)) within (λ k d inside. long (suc k) d (omega (arith, inside)))

nothing : Use
nothing = record { cell = record { array = 0; index = 0 }; mode = Reads }

-- the worker has a copy of each cell that is folded into
pub begun-there : (w : ℕ) (uses : List Use) (u : Use) (gs : List Summed) → w < 17 → Contains uses u → is_fold u.mode ≡ true → All IsRegular gs → IsSummed gs u.cell → IsSome (copy_among (begun_for w uses gs) w u.cell)
begun-there w uses u [] known there folds regular (k, g, within, is, named) = absurd (omega (arith, within))
begun-there w uses u (g ∷ gs) known there folds regular summed =
    by (begun-there w uses u gs known there folds (λ k d within. regular (suc k) d (omega (arith, within)))) (place_in g.uses u.cell) refl
  where
    tested : (p : ℕ) → place_in g.uses u.cell ≡ Some p → folds_in g.uses uses ≡ true
    tested p at = list_any-from_Any (λ v. if is_fold v.mode then is_some (place_in g.uses v.cell) else false) uses
        (let (k, within, is) = there in (k, u, within, is, ap (λ b. if b then is_some (place_in g.uses u.cell) else false) folds ∙ ap is_some at))

    by : (IsSummed gs u.cell → IsSome (copy_among (begun_for w uses gs) w u.cell)) → (o : Option ℕ) → place_in g.uses u.cell ≡ o → IsSome (copy_among (begun_for w uses (g ∷ gs)) w u.cell)
    by rest None at = subst IsSome (sym (ap (λ o. if is_some o then option_and_then (λ place. copy_in place (row_in (begun_if w (folds_in g.uses uses) g).rows w)) o else copy_among (begun_for w uses gs) w u.cell)
        (ap (λ us. place_in us u.cell) (begun-uses w (folds_in g.uses uses) g) ∙ at))) (rest (later summed))
      where
        later : IsSummed (g ∷ gs) u.cell → IsSummed gs u.cell
        later (zero, h, within, is, named) = absurd (true≢false (sym named ∙ ap (names u.cell) (sym is) ∙ ap is_some at))
        later (suc k, h, within, is, named) = (k, h, omega (arith, within), is, named)
    by rest (Some p) at =
        let one = regular 0 g (omega arith) in
        let inside : p < length g.uses = (position-Some (is_of u.cell) g.uses p nothing at).0 in
        let mine : IsSome (copy_in p (row_in (updated g.rows w (begun_row g.op (length g.uses))) w)) = row-there g.op g.rows w p (length g.uses) (omega (arith, known, one.numbers)) inside one.long in
        subst (λ b. IsSome (copy_among (begun_if w b g ∷ begun_for w uses gs) w u.cell)) (sym (tested p at))
        (subst IsSome (sym (ap (λ o. if is_some o then option_and_then (λ place. copy_in place (row_in (updated g.rows w (begun_row g.op (length g.uses))) w)) o else copy_among (begun_for w uses gs) w u.cell) at)) mine)

long-begun : (o : Operation) (len : ℕ) (row : Option (List ℕ)) → IfSome row (λ copies. length copies ≡ len) → IfSome (begun_row o len row) (λ copies. length copies ≡ len)
long-begun o len None long = length-replicate len (unit_of o)
long-begun o len (Some copies) long = long

units-small : (o : Operation) (len : ℕ) → All (λ copy. copy < 2 ^ 64) (replicate len (unit_of o))
units-small o zero = All-nil (λ copy. copy < 2 ^ 64)
units-small o (suc len) = All-cons (λ copy. copy < 2 ^ 64) (unit_of o) (replicate len (unit_of o)) (unit-small o) (units-small o len)

small-begun : (o : Operation) (len : ℕ) (row : Option (List ℕ)) → IsSmall row → IsSmall (begun_row o len row)
small-begun o len None small = units-small o len
small-begun o len (Some copies) small = small

begun-regular-one : (w : ℕ) (b : Bool) (g : Summed) → IsRegular g → IsRegular (begun_if w b g)
begun-regular-one w false g regular = regular
begun-regular-one w true g regular = record {
  written = regular.written;
  numbers = length-updated g.rows w (begun_row g.op (length g.uses)) ∙ regular.numbers;
  long = all-updated (λ row. IfSome row (λ copies. length copies ≡ length g.uses)) g.rows w (begun_row g.op (length g.uses)) (long-begun g.op (length g.uses)) regular.long;
  small = all-updated IsSmall g.rows w (begun_row g.op (length g.uses)) (small-begun g.op (length g.uses)) regular.small;
}

pub begun-regular : (w : ℕ) (uses : List Use) (gs : List Summed) → All IsRegular gs → All IsRegular (begun_for w uses gs)
begun-regular w uses [] all = all
begun-regular w uses (g ∷ gs) all =
    All-cons IsRegular (begun_if w (folds_in g.uses uses) g) (begun_for w uses gs) (begun-regular-one w (folds_in g.uses uses) g (all 0 g (omega arith)))
    (begun-regular w uses gs (λ k d within. all (suc k) d (omega (arith, within))))

-- ---- a group is opened

no_copies : (n p : ℕ) → copies_at (replicate n None) p ≡ []
no_copies zero p = refl
no_copies (suc n) p = no_copies n p

pub opened-worth : (gs : List Summed) (g : Summed) (c : Cell) (n : ℕ) → g.rows ≡ replicate 17 None → worth_over (gs ++ g ∷ []) c n ≡ worth_over gs c n
opened-worth [] g c n none = by (place_in g.uses c)
  where
    by : (o : Option ℕ) → copies_combined g.op n (copies_where g.rows o) ≡ n
    by None = refl
    by (Some p) = ap (copies_combined g.op n) (ap (λ rows. copies_at rows p) none ∙ no_copies 17 p)
opened-worth (h ∷ gs) g c n none = opened-worth gs g c (copies_combined h.op n (copies_in c h)) none

pub opened-still : (gs : List Summed) (g : Summed) (x : ℕ) (c : Cell) → IsSome (copy_among gs x c) → IsSome (copy_among (gs ++ g ∷ []) x c)
opened-still [] g x c there = absurd (true≢false (sym there))
opened-still (h ∷ gs) g x c there = by (opened-still gs g x c) (place_in h.uses c) there
  where
    by : (IsSome (copy_among gs x c) → IsSome (copy_among (gs ++ g ∷ []) x c)) → (o : Option ℕ) → IsSome (if is_some o then option_and_then (λ place. copy_in place (row_in h.rows x)) o else copy_among gs x c)
        → IsSome (if is_some o then option_and_then (λ place. copy_in place (row_in h.rows x)) o else copy_among (gs ++ g ∷ []) x c)
    by later None some = later some
    by later (Some p) some = some

abbrev IsLong : ℕ → Option (List ℕ) → Type 0
IsLong len row = IfSome row (λ (copies : List ℕ). length copies ≡ len)

no-rows-long : (n len : ℕ) → All (IsLong len) (replicate n None)
no-rows-long zero len = All-nil (IsLong len)
no-rows-long (suc n) len = All-cons (IsLong len) None (replicate n None) tt (no-rows-long n len)

no-rows-small : (n : ℕ) → All IsSmall (replicate n None)
no-rows-small zero = All-nil IsSmall
no-rows-small (suc n) = All-cons IsSmall None (replicate n None) tt (no-rows-small n)

pub opened-regular : (group : ℕ) (op : Operation) (uses : List Use) → All (λ u. u.mode ≡ Writes) uses → IsRegular (record { group = group; op = op; uses = uses; rows = replicate 17 None })
opened-regular group op uses written = record {
  written = written;
  numbers = length-replicate {A = Option (List ℕ)} 17 None;
  long = no-rows-long 17 (length uses);
  small = no-rows-small 17;
}

-- ---- a group is closed

-- the closed group's copies and others may be combined in either order, where both groups are by one operation
closed-swap : (n : ℕ) (gs : List Summed) (c : Cell) (o : Operation) (s : ℕ) (xs : List ℕ) → All (λ g. g.group ≡ n → names c g ≡ true → g.op ≡ o) gs →
    closed_over n gs c (copies_combined o s xs) ≡ copies_combined o (closed_over n gs c s) xs
closed-swap n [] c o s xs one = refl
closed-swap n (g ∷ gs) c o s xs one = by (closed-swap n gs c o s xs (λ k d within. one (suc k) d (omega (arith, within)))) (g.group == n) refl
  where
    here : g.group ≡ n → (b : Bool) → names c g ≡ b → copies_combined g.op (copies_combined o s xs) (copies_in c g) ≡ copies_combined o (copies_combined g.op s (copies_in c g)) xs
    here is true named = subst (λ p. copies_combined p (copies_combined o s xs) (copies_in c g) ≡ copies_combined o (copies_combined p s (copies_in c g)) xs) (sym (one 0 g (omega arith) is named)) (combined-swap o s xs (copies_in c g))
    here is false not = subst (λ ys. copies_combined g.op (copies_combined o s xs) ys ≡ copies_combined o (copies_combined g.op s ys) xs) (sym (unnamed c g not)) refl

    by : closed_over n gs c (copies_combined o s xs) ≡ copies_combined o (closed_over n gs c s) xs → (b : Bool) → (g.group == n) ≡ b
        → (if b then copies_combined g.op (copies_combined o s xs) (copies_in c g) else closed_over n gs c (copies_combined o s xs)) ≡ copies_combined o (if b then copies_combined g.op s (copies_in c g) else closed_over n gs c s) xs
    by rest true is = here (eqb-true g.group n is) (names c g) refl
    by rest false not = rest

-- no cell of a group of this number is named by an open group of another operation
abbrev IsByOne : ℕ → List Summed → Type 0
IsByOne n gs = All (λ g. g.group ≡ n → (c : Cell) → names c g ≡ true → IsOnlyBy gs g.op c) gs

closed-worth : (n : ℕ) (gs : List Summed) (c : Cell) (s : ℕ) → IsByOne n gs → worth_over (without n gs) c (closed_over n gs c s) ≡ worth_over gs c s
closed-worth n [] c s one = refl
closed-worth n (g ∷ gs) c s one =
    by (λ t. closed-worth n gs c t (λ k d within is e named j h inside. one (suc k) d (omega (arith, within)) is e named (suc j) h (omega (arith, inside)))) (g.group == n)
  where
    swapped : (b : Bool) → names c g ≡ b → closed_over n gs c (copies_combined g.op s (copies_in c g)) ≡ copies_combined g.op (closed_over n gs c s) (copies_in c g)
    swapped true named = closed-swap n gs c g.op s (copies_in c g) (λ k d within is there. sym (one (suc k) d (omega (arith, within)) is c there 0 g (omega arith) named))
    swapped false not = subst (λ xs. closed_over n gs c (copies_combined g.op s xs) ≡ copies_combined g.op (closed_over n gs c s) xs) (sym (unnamed c g not)) refl

    by : ((t : ℕ) → worth_over (without n gs) c (closed_over n gs c t) ≡ worth_over gs c t) → (b : Bool) → worth_over (if b then gs else g ∷ without n gs) c (if b then copies_combined g.op s (copies_in c g) else closed_over n gs c s) ≡ worth_over (g ∷ gs) c s
    by rest true = refl
    by rest false = ap (worth_over (without n gs) c) (sym (swapped (names c g) refl)) ∙ rest (copies_combined g.op s (copies_in c g))

pub worth-closed : (n : ℕ) (gs : List Summed) (c : Cell) (before after : Option ℕ) → NoTwoShare gs → after ≡ option_map (closed_over n gs c) before →
    option_map (worth_over (without n gs) c) after ≡ option_map (worth_over gs c) before
worth-closed n gs c None after apart is = ap (option_map (worth_over (without n gs) c)) is
worth-closed n gs c (Some s) after apart is =
    ap (option_map (worth_over (without n gs) c)) is ∙ ap Some (closed-worth n gs c s (λ k d within number e named. only-group gs e k d apart within named))

pub is_number : (m n : ℕ) → (m == n) ≡ true → m ≡ n
is_number m n same = eqb-true m n same

-- a copy stays, where the group that is closed doesn't name its cell
pub closed-still : (n : ℕ) (gs : List Summed) (x : ℕ) (c : Cell) → All (λ g. g.group ≡ n → names c g ≡ false) gs → IsSome (copy_among gs x c) → IsSome (copy_among (without n gs) x c)
closed-still n [] x c apart there = there
closed-still n (g ∷ gs) x c apart there = by (closed-still n gs x c (λ k d within. apart (suc k) d (omega (arith, within)))) (g.group == n) refl
  where
    kept : (IsSome (copy_among gs x c) → IsSome (copy_among (without n gs) x c)) → (o : Option ℕ) → IsSome (if is_some o then option_and_then (λ place. copy_in place (row_in g.rows x)) o else copy_among gs x c)
        → IsSome (if is_some o then option_and_then (λ place. copy_in place (row_in g.rows x)) o else copy_among (without n gs) x c)
    kept later None some = later some
    kept later (Some p) some = some

    by : (IsSome (copy_among gs x c) → IsSome (copy_among (without n gs) x c)) → (b : Bool) → (g.group == n) ≡ b → IsSome (copy_among (if b then gs else g ∷ without n gs) x c)
    by later true is = subst (λ t. IsSome (if t then option_and_then (λ place. copy_in place (row_in g.rows x)) (place_in g.uses c) else copy_among gs x c)) (apart 0 g (omega arith) (is_number g.group n is)) there
    by later false is = kept later (place_in g.uses c) there

folds_writes : (m v : Mode) → is_fold m ≡ true → v ≡ Writes → conflicts m v ≡ true
folds_writes Reads v folds writes = absurd (true≢false (sym folds))
folds_writes Writes v folds writes = absurd (true≢false (sym folds))
folds_writes (Folds o) v folds writes = ap (conflicts (Folds o)) writes

-- what is out to be folded into isn't named by a group of which nothing is out
pub unused : (uses : List Use) (g : Summed) (u : Use) → IsRegular g → ¬ Conflict uses g.uses → Contains uses u → is_fold u.mode ≡ true → names u.cell g ≡ false
unused uses g u regular free (k, within, is) folds = by (place_in g.uses u.cell) refl
  where
    by : (o : Option ℕ) → place_in g.uses u.cell ≡ o → is_some o ≡ false
    by None at = refl
    by (Some p) at =
        let found = position-Some (is_of u.cell) g.uses p nothing at in
        let v = get_or g.uses p nothing in
        let same : v.cell ≡ u.cell = (cell-decides v.cell u.cell).0 found.1 in
        absurd (free (k, u, within, is, (p, v, found.0, sym (get_or_default g.uses p nothing v found.0), (sym same, folds_writes u.mode v.mode folds (regular.written p nothing found.0)))))

-- ---- a lease comes back

pub back-push : (w : ℕ) (lent : List LentCell) (x : LentCell) (gs : List Summed) → all_back w (lent ++ x ∷ []) gs ≡ taken_back w x (all_back w lent gs)
back-push w [] x gs = refl
back-push w (l ∷ lent) x gs = back-push w lent x (taken_back w l gs)

pub taken-still : (w : ℕ) (l : LentCell) (gs : List Summed) (x : ℕ) (c : Cell) → IsSome (copy_among gs x c) → IsSome (copy_among (taken_back w l gs) x c)
taken-still w l gs x c there = by (is_fold l.mode)
  where
    by : (b : Bool) → IsSome (copy_among (if b then copies_folded w l.cell l.value gs else gs) x c)
    by true = still-some w l.value x l.cell c gs there
    by false = there

pub back-still : (w : ℕ) (lent : List LentCell) (gs : List Summed) (x : ℕ) (c : Cell) → IsSome (copy_among gs x c) → IsSome (copy_among (all_back w lent gs) x c)
back-still w [] gs x c there = there
back-still w (l ∷ lent) gs x c there = back-still w lent (taken_back w l gs) x c (taken-still w l gs x c there)

pub taken-only : (w : ℕ) (l : LentCell) (gs : List Summed) (o : Operation) (c : Cell) → IsOnlyBy gs o c → IsOnlyBy (taken_back w l gs) o c
taken-only w l gs o c only = by (is_fold l.mode)
  where
    by : (b : Bool) → IsOnlyBy (if b then copies_folded w l.cell l.value gs else gs) o c
    by true = only-still w l.value l.cell c o gs only
    by false = only

updated-small : (o : Operation) (v : ℕ) → v < 2 ^ 64 → (copies : List ℕ) (p : ℕ) → All (λ copy. copy < 2 ^ 64) copies → All (λ copy. copy < 2 ^ 64) (updated copies p (λ copy. join_by o copy v))
updated-small o v small copies p all = all-updated (λ copy. copy < 2 ^ 64) copies p (λ copy. join_by o copy v) (λ copy below. join-small o copy v below small) all

folded-regular-one : (w v p : ℕ) (g : Summed) → v < 2 ^ 64 → IsRegular g → IsRegular (folded_in w v g (Some p))
folded-regular-one w v p g below regular = record {
  written = regular.written;
  numbers = length-updated g.rows w (option_map (λ copies. updated copies p (λ copy. join_by g.op copy v))) ∙ regular.numbers;
  long = all-updated (λ row. IfSome row (λ copies. length copies ≡ length g.uses)) g.rows w (option_map (λ copies. updated copies p (λ copy. join_by g.op copy v))) keeps regular.long;
  small = all-updated IsSmall g.rows w (option_map (λ copies. updated copies p (λ copy. join_by g.op copy v))) keeps-small regular.small;
}
  where
    keeps : (row : Option (List ℕ)) → IfSome row (λ copies. length copies ≡ length g.uses) → IfSome (option_map (λ copies. updated copies p (λ copy. join_by g.op copy v)) row) (λ copies. length copies ≡ length g.uses)
    keeps None long = long
    keeps (Some copies) long = length-updated copies p (λ copy. join_by g.op copy v) ∙ long

    keeps-small : (row : Option (List ℕ)) → IsSmall row → IsSmall (option_map (λ copies. updated copies p (λ copy. join_by g.op copy v)) row)
    keeps-small None small = small
    keeps-small (Some copies) small = updated-small g.op v below copies p small

folded-regular : (w v : ℕ) (c : Cell) (gs : List Summed) → v < 2 ^ 64 → All IsRegular gs → All IsRegular (copies_folded w c v gs)
folded-regular w v c [] below all = all
folded-regular w v c (g ∷ gs) below all =
    by (λ k d within. all (suc k) d (omega (arith, within))) (folded-regular w v c gs below (λ k d within. all (suc k) d (omega (arith, within)))) (place_in g.uses c)
  where
    first : IsRegular g
    first = all 0 g (omega arith)

    by : All IsRegular gs → All IsRegular (copies_folded w c v gs) → (o : Option ℕ) → All IsRegular (if is_some o then folded_in w v g o ∷ gs else g ∷ copies_folded w c v gs)
    by rest more None = All-cons IsRegular g (copies_folded w c v gs) first more
    by rest more (Some p) = All-cons IsRegular (folded_in w v g (Some p)) gs (folded-regular-one w v p g below first) rest

taken-regular : (w : ℕ) (l : LentCell) (gs : List Summed) → l.value < 2 ^ 64 → All IsRegular gs → All IsRegular (taken_back w l gs)
taken-regular w l gs below all = by (is_fold l.mode)
  where
    by : (b : Bool) → All IsRegular (if b then copies_folded w l.cell l.value gs else gs)
    by true = folded-regular w l.value l.cell gs below all
    by false = all

pub back-regular : (w : ℕ) (lent : List LentCell) (gs : List Summed) → All (λ l. l.value < 2 ^ 64) lent → All IsRegular gs → All IsRegular (all_back w lent gs)
back-regular w [] gs below all = all
back-regular w (l ∷ lent) gs below all =
    back-regular w lent (taken_back w l gs) (λ k d within. below (suc k) d (omega (arith, within))) (taken-regular w l gs (below 0 l (omega arith)) all)

pub back-more : (w : ℕ) (lent : List LentCell) (k : ℕ) (x : LentCell) (gs : List Summed) → k < length lent → x ≡ get_or lent k x →
    all_back w (take (k + 1) lent) gs ≡ taken_back w x (all_back w (take k lent) gs)
back-more w lent k x gs within is =
    ap (λ ls. all_back w ls gs) (take_more lent k x within ∙ ap (λ y. take k lent ++ y ∷ []) (sym is)) ∙ back-push w (take k lent) x gs

-- ---- what is kept of groups, as it is read from outside

-- the first of this number
pub closing : (n k i : ℕ) (gs : List Group) → position_from (λ g. g.group == n) k gs ≡ Some i →
    (j : ℕ) × (i ≡ k + j) × (j < length gs) × (without n (summeds_of gs) ≡ summeds_of (remove gs j))
    × ((c : Cell) (d : Group) (s : ℕ) → closed_over n (summeds_of gs) c s ≡ copies_combined (get_or gs j d).op s (copies_in c (summed_of (get_or gs j d)))) × ((d : Group) → (get_or gs j d).group ≡ n)
closing n k i [] is = absurd (true≢false (sym (ap is_some is)))
closing n k i (g ∷ gs) is = by (closing n (k + 1) i gs) (g.group == n) refl
  where
    by : (position_from (λ (h : Group). h.group == n) (k + 1) gs ≡ Some i → (j : ℕ) × (i ≡ k + 1 + j) × (j < length gs) × (without n (summeds_of gs) ≡ summeds_of (remove gs j)) × ((c : Cell) (d : Group) (s : ℕ) → closed_over n (summeds_of gs) c s ≡ copies_combined (get_or gs j d).op s (copies_in c (summed_of (get_or gs j d)))) × ((d : Group) → (get_or gs j d).group ≡ n)) → (b : Bool) → (g.group == n) ≡ b → (j : ℕ) × (i ≡ k + j) × (j < suc (length gs)) × (without n (summeds_of (g ∷ gs)) ≡ summeds_of (remove (g ∷ gs) j))
        × ((c : Cell) (d : Group) (s : ℕ) → closed_over n (summeds_of (g ∷ gs)) c s ≡ copies_combined (get_or (g ∷ gs) j d).op s (copies_in c (summed_of (get_or (g ∷ gs) j d)))) × ((d : Group) → (get_or (g ∷ gs) j d).group ≡ n)
    by later true met =
        let here : k ≡ i = same_Some k i (sym (ap (λ b. cond b (Some k) (position_from (λ (g : Group). g.group == n) (k + 1) gs)) met) ∙ is) in (
          0,
          omega (arith, here),
          omega arith,
          ap (λ b. if b then summeds_of gs else summed_of g ∷ without n (summeds_of gs)) met,
          (λ c d s. ap (λ b. if b then copies_combined g.op s (copies_in c (summed_of g)) else closed_over n (summeds_of gs) c s) met),
          (λ d. is_number g.group n met),
        )
    by later false not =
        let (j, at, within, rest, closed, number) = later (sym (ap (λ b. cond b (Some k) (position_from (λ (g : Group). g.group == n) (k + 1) gs)) not) ∙ is) in (
          suc j,
          omega (arith, at),
          omega (arith, within),
          ap (λ b. if b then summeds_of gs else summed_of g ∷ without n (summeds_of gs)) not ∙ ap (λ hs. summed_of g ∷ hs) rest,
          (λ c d s. ap (λ b. if b then copies_combined g.op s (copies_in c (summed_of g)) else closed_over n (summeds_of gs) c s) not ∙ closed c d s),
          number,
        )

-- the group at a place is the first of its number
pub record Closes (n : ℕ) (gs : List Group) (i : ℕ) : Type 0 where
  pub within : i < length gs
  pub rest : without n (summeds_of gs) ≡ summeds_of (remove gs i)
  pub closed : (c : Cell) (d : Group) (s : ℕ) → closed_over n (summeds_of gs) c s ≡ copies_combined (get_or gs i d).op s (copies_in c (summed_of (get_or gs i d)))
  pub number : (d : Group) → (get_or gs i d).group ≡ n

pub closing-at : (n i : ℕ) (gs xs : List Group) (o : Option ℕ) → xs ≡ gs → o ≡ position (λ (g : Group). g.group == n) xs → o ≡ Some i → Closes n gs i
closing-at n i gs xs o same first is =
    let here : position_from (λ (g : Group). g.group == n) 0 gs ≡ Some i =
    sym (ap (position (λ (g : Group). g.group == n)) same ∙ position_from-zero (λ (g : Group). g.group == n) gs) ∙ sym first ∙ is in
    let (j, at, within, rest, closed, number) = closing n 0 i gs here in
    let e : j ≡ i = omega (arith, at) in
    subst (Closes n gs) e (record { within = within; rest = rest; closed = closed; number = number })

pub not_open : (n k : ℕ) (gs : List Group) → position_from (λ g. g.group == n) k gs ≡ None → ¬ Any (λ (g : Summed). g.group ≡ n) (summeds_of gs)
not_open n k [] none (i, h, within, is, same) = omega (arith, within)
not_open n k (g ∷ gs) none there = by (not_open n (k + 1) gs) (g.group == n) refl there
  where
    by : (position_from (λ (h : Group). h.group == n) (k + 1) gs ≡ None → ¬ Any (λ (h : Summed). h.group ≡ n) (summeds_of gs)) → (b : Bool) → (g.group == n) ≡ b → Any (λ (h : Summed). h.group ≡ n) (summeds_of (g ∷ gs)) → ⊥
    by later true met there = true≢false (sym (ap is_some (ap (λ b. cond b (Some k) (position_from (λ (g : Group). g.group == n) (k + 1) gs)) met)) ∙ ap is_some none)
    by later false not (zero, h, within, is, same) = true≢false (sym (eq-eqb g.group n (ap (λ (x : Summed). x.group) is ∙ same)) ∙ not)
    by later false not (suc i, h, within, is, same) =
        later (sym (ap (λ b. cond b (Some k) (position_from (λ (g : Group). g.group == n) (k + 1) gs)) not) ∙ none) (i, h, omega (arith, within), is, same)

-- ---- what always holds

pub all-at : {A : Type 0} (P : A → Type 0) (xs : List A) (x : A) → All P xs → Contains xs x → P x
all-at P xs x all (k, within, is) = subst P is (all k x within)

pub copies-lent : (gs : List Summed) (w : ℕ) (lent : List LentCell) → HasCopies gs w (uses_of lent) → All (λ l. is_fold l.mode ≡ true → IsSome (copy_among gs w l.cell)) lent
copies-lent gs w lent all k d within =
    subst (λ (u : Use). is_fold u.mode ≡ true → IsSome (copy_among gs w u.cell)) (get_or-map use_of lent k d) (all k (use_of d) (omega (arith, within, length-map lent use_of)))

pub own-lent : (gs : List Summed) (lent : List LentCell) → IsByOwn gs (uses_of lent) → All (λ l. (op : Operation) → l.mode ≡ Folds op → IsOnlyBy gs op l.cell) lent
own-lent gs lent all k d within =
    subst (λ (u : Use). (op : Operation) → u.mode ≡ Folds op → IsOnlyBy gs op u.cell) (get_or-map use_of lent k d) (all k (use_of d) (omega (arith, within, length-map lent use_of)))

abbrev pub Own : List Summed → Loan → Type 0
Own gs loan = IsByOwn gs loan.lease.uses

abbrev pub Copies : List Summed → Loan → Type 0
Copies gs loan = HasCopies gs loan.worker loan.lease.uses

pub ended-sound : (loan : Loan) (out left : List Loan) (gs : List Summed) → IsPermutation out (loan ∷ left) → IsSound (record { out = out; groups = gs }) → IsSound (record { out = left; groups = gs })
ended-sound loan out left gs ended sound = record {
  apart = no_two-ended loan out left ended sound.apart;
  regular = sound.regular;
  single = sound.single;
  copies = λ k d within. All-permutation (Copies gs) out (loan ∷ left) ended sound.copies (suc k) d (omega (arith, within));
  own = λ k d within. All-permutation (Own gs) out (loan ∷ left) ended sound.own (suc k) d (omega (arith, within));
}

pub begun-sound : (loan : Loan) (out more : List Loan) (gs : List Summed) → IsPermutation (loan ∷ out) more → IsFreeFor out loan.lease.uses → HasCopies gs loan.worker loan.lease.uses → IsByOwn gs loan.lease.uses →
    IsSound (record { out = out; groups = gs }) → IsSound (record { out = more; groups = gs })
begun-sound loan out more gs begun free mine own sound = record {
  apart = no_two-begun loan out more begun sound.apart free;
  regular = sound.regular;
  single = sound.single;
  copies = All-permutation (Copies gs) (loan ∷ out) more begun (All-cons (Copies gs) loan out mine sound.copies);
  own = All-permutation (Own gs) (loan ∷ out) more begun (All-cons (Own gs) loan out own sound.own);
}

-- groups that are the same but for their rows, in which all copies are still there
groups-sound : (out : List Loan) (gs hs : List Summed) → All IsRegular hs → bares gs ≡ bares hs → ((x : ℕ) (c : Cell) → IsSome (copy_among gs x c) → IsSome (copy_among hs x c)) →
    IsSound (record { out = out; groups = gs }) → IsSound (record { out = out; groups = hs })
groups-sound out gs hs regular same still sound = record {
  apart = sound.apart;
  regular = regular;
  single = share-alike gs hs same sound.single;
  copies = λ k d within i u inside folds. still (get_or out k d).worker (get_or (get_or out k d).lease.uses i u).cell (sound.copies k d within i u inside folds);
  own = λ k d within i u inside op folds. only-alike gs hs op (get_or (get_or out k d).lease.uses i u).cell same (sound.own k d within i u inside op folds);
}

pub rows-sound : (out : List Loan) (gs : List Summed) (w : ℕ) (uses : List Use) → IsSound (record { out = out; groups = gs }) → IsSound (record { out = out; groups = begun_for w uses gs })
rows-sound out gs w uses sound = groups-sound out gs (begun_for w uses gs) (begun-regular w uses gs sound.regular) (bares-begun w uses gs) (begun-still w uses gs) sound

-- a cell that is folded into is named by an open group
summed-fold : (gs : List Summed) (u : Use) → ((o : Operation) → u.mode ≡ Folds o → IsSummedBy gs o u.cell) → is_fold u.mode ≡ true → IsSummed gs u.cell
summed-fold gs u summed folds = by u.mode refl folds
  where
    named : (o : Operation) → u.mode ≡ Folds o → IsSummed gs u.cell
    named o is = let (k, g, within, at, both) = summed o is in (k, g, within, at, both.0)

    by : (m : Mode) → u.mode ≡ m → is_fold m ≡ true → IsSummed gs u.cell
    by Reads is folds = absurd (true≢false (sym folds))
    by Writes is folds = absurd (true≢false (sym folds))
    by (Folds o) is folds = named o is

pub leased-sound : (loan : Loan) (out more : List Loan) (gs : List Summed) → loan.worker < 17 → IsPermutation (loan ∷ out) more → IsFreeFor out loan.lease.uses →
    All (λ u. (o : Operation) → u.mode ≡ Folds o → IsSummedBy gs o u.cell) loan.lease.uses → IsSound (record { out = out; groups = gs }) → IsSound (record { out = more; groups = begun_for loan.worker loan.lease.uses gs })
leased-sound loan out more gs known begun free summed sound =
    begun-sound loan out more (begun_for loan.worker loan.lease.uses gs) begun free
    (λ i u inside folds. let used = get_or loan.lease.uses i u in
    begun-there loan.worker loan.lease.uses used gs known (i, inside, sym (get_or_default loan.lease.uses i u used inside)) folds sound.regular (summed-fold gs used (summed i u inside) folds))
    (λ i u inside op folds.
    only-alike gs (begun_for loan.worker loan.lease.uses gs) op (get_or loan.lease.uses i u).cell (bares-begun loan.worker loan.lease.uses gs)
    (only-summed gs op (get_or loan.lease.uses i u).cell sound.single (summed i u inside op folds)))
    (rows-sound out gs loan.worker loan.lease.uses sound)

pub opened-sound : (out : List Loan) (gs : List Summed) (g : Summed) → IsRegular g → All (λ h. h.group ≢ g.group) gs → ((c : Cell) → IsNamed g.uses c → ¬ IsSummed gs c) → IsFreeFor out g.uses →
    IsSound (record { out = out; groups = gs }) → IsSound (record { out = out; groups = gs ++ g ∷ [] })
opened-sound out gs g regular new unnamed free sound = record {
  apart = sound.apart;
  regular = All-push IsRegular gs g sound.regular regular;
  single = share-opened gs g new unnamed sound.single;
  copies = λ k d within i u inside folds. opened-still gs g (get_or out k d).worker (get_or (get_or out k d).lease.uses i u).cell (sound.copies k d within i u inside folds);
  own = λ k d within i u inside op folds.
      let uses = (get_or out k d).lease.uses in
      let used = get_or uses i u in
      let not : names used.cell g ≡ false = unused uses g used regular (free k d within) (i, inside, sym (get_or_default uses i u used inside)) (ap is_fold folds) in
      All-push (λ h. names used.cell h ≡ true → h.op ≡ op) gs g (sound.own k d within i u inside op folds) (λ named. absurd (true≢false (sym named ∙ not)));
}

pub back-sound : (out : List Loan) (gs : List Summed) (w : ℕ) (lent : List LentCell) → All (λ l. l.value < 2 ^ 64) lent → IsSound (record { out = out; groups = gs }) → IsSound (record { out = out; groups = all_back w lent gs })
back-sound out gs w lent below sound = groups-sound out gs (all_back w lent gs) (back-regular w lent gs below sound.regular) (bares-back w lent gs) (back-still w lent gs) sound

pub closed-sound : (out : List Loan) (gs : List Summed) (n : ℕ) → All (λ g. g.group ≡ n → IsFreeFor out g.uses) gs → IsSound (record { out = out; groups = gs }) → IsSound (record { out = out; groups = without n gs })
closed-sound out gs n free sound = record {
  apart = sound.apart;
  regular = closed-all IsRegular n gs sound.regular;
  single = share-closed n gs sound.single;
  copies = λ k d within i u inside folds.
      let loan = get_or out k d in
      let used = get_or loan.lease.uses i u in
      closed-still n gs loan.worker used.cell
      (λ j g known same. unused loan.lease.uses (get_or gs j g) used (sound.regular j g known) (free j g known same k d within) (i, inside, sym (get_or_default loan.lease.uses i u used inside)) folds)
      (sound.copies k d within i u inside folds);
  own = λ k d within i u inside op folds. closed-all (λ g. names (get_or (get_or out k d).lease.uses i u).cell g ≡ true → g.op ≡ op) n gs (sound.own k d within i u inside op folds);
}

-- ---- joined one way or the other

pub joined-same : (lent : List LentCell) (b b' a a' : Cell → Option ℕ) → ((c : Cell) → b' c ≡ b c) → ((c : Cell) → a' c ≡ a c) → AreJoined lent b a → AreJoined lent b' a'
joined-same lent b b' a a' sb sa joined = record {
  lent_cells = λ k d within. let l = get_or lent k d in sa l.cell ∙ joined.lent_cells k d within ∙ sym (ap (option_map (λ n. join l.mode n l.value)) (sb l.cell));
  untouched = λ k d within o folds unit. let l = get_or lent k d in sa l.cell ∙ joined.untouched k d within o folds unit ∙ sym (sb l.cell);
  others = λ other away. sa other ∙ joined.others other away ∙ sym (sb other);
}
