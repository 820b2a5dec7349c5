-- That no two open groups share a number or a cell, as rows begin and grow, as a group is opened and as one is closed.
use Rattle.std.proofs.Common.{◌≡◌, ◌≢◌, ℕ, suc, ◌<◌, List, [], ◌∷◌, ◌++◌, length, get_or, map, refl, sym, ap, ◌∙◌, subst, arith, true≢false, Bool, true, false, inl, inr}
use Rattle.std.specs.Prelude.{Option, Some, None, is_some, if◌then◌else◌, ◌==◌}
use Rattle.std.specs.List.{All}
use Rattle.std.proofs.lemmas.Bool.{cases_lt}
use Rattle.std.proofs.lemmas.List.{length-map, get_or_default}
use Rattle.std.proofs.lemmas.List.Elements.{All-cons}
use Rattle.std.proofs.lemmas.List.Kept.{AllPairs-cons}
use Rattle.std.proofs.lemmas.List.Quantifiers.{all_pairs_push, position-Some}
use Rattle.std.proofs.Math.ListN.{get_or-map}
use Rattle.ot_model.specs.Cells.{is_fold}
use Rattle.ot_model.specs.declared.expr.Cell.{Cell}
use Rattle.ot_model.specs.declared.fold.Fold.{Fold as Operation}
use Rattle.ot_model.specs.declared.stmt.Mode.TheVariants.{Reads}
use Rattle.ot_model.specs.declared.stmt.Use.{Use}
use Rattle.ot_model.proofs.EqualLemmas.{cell-decides}
use Rattle.ot_owner.specs.declared.lent.LentCell.{LentCell}
use Rattle.ot_owner.specs.Worth.{taken_back, all_back}
use Rattle.ot_owner.specs.Owning.{Summed, is_of, place_in, names, IsNamed, IsSummed, IsSummedBy, IsOnlyBy, ShareNothing, NoTwoShare, folds_in, folded_in, copies_folded, begun_in, begun_for, without}

-- ---- where the groups are the same but for their rows

abbrev bare : Summed → Summed
bare g = record g { rows = [] }

abbrev pub bares : List Summed → List Summed
bares gs = map bare gs

bare-at : (gs hs : List Summed) → bares gs ≡ bares hs → (k : ℕ) (d : Summed) → bare (get_or gs k d) ≡ bare (get_or hs k d)
bare-at gs hs same k d = sym (get_or-map bare gs k d) ∙ ap (λ xs. get_or xs k (bare d)) same ∙ get_or-map bare hs k d

as_long : (gs hs : List Summed) → bares gs ≡ bares hs → length gs ≡ length hs
as_long gs hs same = sym (length-map gs bare) ∙ ap length same ∙ length-map hs bare

pub only-alike : (gs hs : List Summed) (o : Operation) (c : Cell) → bares gs ≡ bares hs → IsOnlyBy gs o c → IsOnlyBy hs o c
only-alike gs hs o c same only k d within =
    let long = as_long gs hs same in
    subst (λ (g : Summed). names c g ≡ true → g.op ≡ o) (bare-at gs hs same k d) (only k d (omega (arith, within, long)))

pub share-alike : (gs hs : List Summed) → bares gs ≡ bares hs → NoTwoShare gs → NoTwoShare hs
share-alike gs hs same apart i j d before within =
    let long = as_long gs hs same in
    subst (ShareNothing (bare (get_or hs i d))) (bare-at gs hs same j d)
    (subst (λ (g : Summed). ShareNothing g (bare (get_or gs j d))) (bare-at gs hs same i d) (apart i j d before (omega (arith, within, long))))

pub new-alike : (gs hs : List Summed) (n : ℕ) → bares gs ≡ bares hs → All (λ g. g.group ≢ n) gs → All (λ g. g.group ≢ n) hs
new-alike gs hs n same new k d within =
    let long = as_long gs hs same in
    subst (λ (g : Summed). g.group ≢ n) (bare-at gs hs same k d) (new k d (omega (arith, within, long)))

pub summed-alike : (gs hs : List Summed) (c : Cell) → bares gs ≡ bares hs → IsSummed gs c → IsSummed hs c
summed-alike gs hs c same (k, g, within, is, named) =
    let h = get_or hs k g in
    let long = as_long gs hs same in
    let inside : k < length hs = omega (arith, within, long) in
    (k, h, inside, sym (get_or_default hs k g h inside), ap (names c) (sym (bare-at gs hs same k g)) ∙ ap (names c) is ∙ named)

pub bares-begun : (w : ℕ) (uses : List Use) (gs : List Summed) → bares gs ≡ bares (begun_for w uses gs)
bares-begun w uses [] = refl
bares-begun w uses (g ∷ gs) = ap (λ h. h ∷ bares gs) (by (folds_in g.uses uses)) ∙ ap (λ hs. bare (if folds_in g.uses uses then begun_in w g else g) ∷ hs) (bares-begun w uses gs)
  where
    by : (b : Bool) → bare g ≡ bare (if b then begun_in w g else g)
    by true = refl
    by false = refl

bares-folded : (w v : ℕ) (c : Cell) (gs : List Summed) → bares gs ≡ bares (copies_folded w c v gs)
bares-folded w v c [] = refl
bares-folded w v c (g ∷ gs) = by (place_in g.uses c) (bares-folded w v c gs)
  where
    by : (o : Option ℕ) → bares gs ≡ bares (copies_folded w c v gs) → bares (g ∷ gs) ≡ bares (if is_some o then folded_in w v g o ∷ gs else g ∷ copies_folded w c v gs)
    by None rest = ap (λ hs. bare g ∷ hs) rest
    by (Some p) rest = refl

bares-taken : (w : ℕ) (l : LentCell) (gs : List Summed) → bares gs ≡ bares (taken_back w l gs)
bares-taken w l gs = by (is_fold l.mode)
  where
    by : (b : Bool) → bares gs ≡ bares (if b then copies_folded w l.cell l.value gs else gs)
    by true = bares-folded w l.value l.cell gs
    by false = refl

pub bares-back : (w : ℕ) (lent : List LentCell) (gs : List Summed) → bares gs ≡ bares (all_back w lent gs)
bares-back w [] gs = refl
bares-back w (l ∷ lent) gs = bares-taken w l gs ∙ bares-back w lent (taken_back w l gs)

-- ---- a group is opened

nothing : Use
nothing = record { cell = record { array = 0; index = 0 }; mode = Reads }

named-place : (uses : List Use) (c : Cell) → is_some (place_in uses c) ≡ true → IsNamed uses c
named-place uses c there = by (place_in uses c) refl there
  where
    by : (o : Option ℕ) → place_in uses c ≡ o → is_some o ≡ true → IsNamed uses c
    by None at none = absurd (true≢false (sym none))
    by (Some p) at some =
        let found = position-Some (is_of c) uses p nothing at in
        let u = get_or uses p nothing in
        (p, u, found.0, sym (get_or_default uses p nothing u found.0), (cell-decides u.cell c).0 found.1)

-- a group of a new number over cells that no open group names
pub share-opened : (gs : List Summed) (g : Summed) → All (λ h. h.group ≢ g.group) gs → ((c : Cell) → IsNamed g.uses c → ¬ IsSummed gs c) → NoTwoShare gs → NoTwoShare (gs ++ g ∷ [])
share-opened gs g new unnamed apart = all_pairs_push ShareNothing gs g apart (λ k d within. (new k d within, λ c named. by k d within c named (names c g) refl))
  where
    by : (k : ℕ) (d : Summed) → k < length gs → (c : Cell) → names c (get_or gs k d) ≡ true → (b : Bool) → names c g ≡ b → b ≡ false
    by k d within c named false is = refl
    by k d within c named true is =
        let h = get_or gs k d in
        absurd (unnamed c (named-place g.uses c is) (k, h, within, sym (get_or_default gs k d h within), named))

-- ---- a group is closed

pub closed-all : (P : Summed → Type 0) (n : ℕ) (gs : List Summed) → All P gs → All P (without n gs)
closed-all P n [] all = all
closed-all P n (g ∷ gs) all = by (λ k d within. all (suc k) d (omega (arith, within))) (closed-all P n gs (λ k d within. all (suc k) d (omega (arith, within)))) (g.group == n)
  where
    by : All P gs → All P (without n gs) → (b : Bool) → All P (if b then gs else g ∷ without n gs)
    by rest left true = rest
    by rest left false = All-cons P g (without n gs) (all 0 g (omega arith)) left

pub share-closed : (n : ℕ) (gs : List Summed) → NoTwoShare gs → NoTwoShare (without n gs)
share-closed n [] apart = apart
share-closed n (g ∷ gs) apart = by rest (share-closed n gs rest) (g.group == n)
  where
    rest : NoTwoShare gs
    rest i j d before within = apart (suc i) (suc j) d (omega (arith, before)) (omega (arith, within))

    by : NoTwoShare gs → NoTwoShare (without n gs) → (b : Bool) → NoTwoShare (if b then gs else g ∷ without n gs)
    by rest left true = rest
    by rest left false = AllPairs-cons ShareNothing g (without n gs) (closed-all (ShareNothing g) n gs (λ k d within. apart 0 (suc k) d (omega arith) (omega (arith, within)))) left

-- ---- by which operation a cell is folded into

-- what one open group names, no other does
pub only-group : (gs : List Summed) (c : Cell) (k : ℕ) (d : Summed) → NoTwoShare gs → k < length gs → names c (get_or gs k d) ≡ true → IsOnlyBy gs (get_or gs k d).op c
only-group gs c k d apart within named j e inside also = elim (cases_lt j k) [
  | inl less ↦ absurd (true≢false (sym (ap (names c) (get_or_default gs k e d within) ∙ named) ∙ (apart j k e less within).1 c also))
  | inr rest ↦ elim (cases_lt k j) [
    | inl more ↦ absurd (true≢false (sym also ∙ (apart k j e more inside).1 c (ap (names c) (get_or_default gs k e d within) ∙ named)))
    | inr none ↦
        let here : j ≡ k = omega (arith, rest, none) in
        ap (λ n. (get_or gs n e).op) here ∙ ap (λ (g : Summed). g.op) (get_or_default gs k e d within)
  ]
]

pub only-summed : (gs : List Summed) (o : Operation) (c : Cell) → NoTwoShare gs → IsSummedBy gs o c → IsOnlyBy gs o c
only-summed gs o c apart (k, g, within, is, (named, by)) =
    subst (λ p. IsOnlyBy gs p c) (ap (λ (h : Summed). h.op) is ∙ by) (only-group gs c k g apart within (ap (names c) is ∙ named))
