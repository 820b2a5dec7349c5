-- What children declare that were created without an offence, beside what their parent and its other children do with a cell.
use Rattle.std.proofs.Common.{◌≡◌, Bool, true, false, not, ◌&&◌, ◌||◌, List, [], ◌∷◌, refl, sym, ap, subst, ◌∙◌, ◌⊎◌, inl, inr, true≢false}
use Rattle.std.specs.Prelude.{if◌then◌else◌, Some, None}
use Rattle.std.specs.List.{list_any}
use Rattle.ot_model.specs.Cells.{same_cell, conflicts, depends_on, one_writes, same_fold}
use Rattle.ot_model.specs.declared.expr.Cell.{Cell}
use Rattle.ot_model.specs.declared.fold.Fold.{Fold as Operation}
use Rattle.ot_model.specs.declared.fold.Fold.TheVariants.{Plus, Times, And, Or, Xor, Min, Max}
use Rattle.ot_model.specs.declared.stmt.Mode.{Mode}
use Rattle.ot_model.specs.declared.stmt.Mode.TheVariants.{Reads, Writes, Folds}
use Rattle.ot_model.specs.declared.stmt.Use.{Use}
use Rattle.ot_model.proofs.EqualLemmas.{fold-decides}
use Rattle.ot_check.specs.Offences.{use_as, Declared, Openings, allows, covers, clashes, exceeds, misfits, misfits_as, folds_by, folds_to, has_cell, opened_by_any}
use Rattle.ot_check.specs.Discipline.{Children, nothing_open, with_group, IsHarmless}
use Rattle.ot_check.specs.declared.fault.Offence.TheVariants.{ReductionMisuse, ConflictsWithChild}
use Rattle.ot_race.specs.Events.{fold_as}
use Rattle.ot_check.proofs.Cited.{or_true, and_left, and_right, and_true, and_false, or_none, or_false_left, or_false_right, not_true, not_false, any-more, any-same, same_is, same_itself, opened-by, both_false, fits-folds, Groups, groups_inside, group_free}

-- ---- truth values and lists

pub and_met : (a b : Bool) → a ≡ true → (a && b) ≡ false → b ≡ false
and_met true b h g = g
and_met false b h g = absurd (true≢false (sym h))

never : (a b : Bool) → (a ≡ true → b ≡ true) → b ≡ false → a ≡ false
never true b to none = absurd (true≢false (sym (to refl) ∙ none))
never false b to none = refl

sure : (b : Bool) → (b ≡ false → ⊥) → b ≡ true
sure true unmet = refl
sure false unmet = absurd (unmet refl)

-- an element that passes a test, and no test that none passes
record Found {A : Type 0} (test : A → Bool) (xs : List A) : Type 0 where
  it : A
  passes : test it ≡ true
  each : (other : A → Bool) → list_any other xs ≡ false → other it ≡ false

found : {A : Type 0} (test : A → Bool) (xs : List A) → list_any test xs ≡ true → Found test xs
found test [] h = absurd (true≢false (sym h))
found test (x ∷ xs) h =
    elim (or_true (test x) (list_any test xs) h) [
      | inl here ↦ record { it = x; passes = here; each = λ other none. or_false_left (other x) (list_any other xs) none }
      | inr later ↦
          let r = found test xs later in
          record { it = r.it; passes = r.passes; each = λ other none. r.each other (or_false_right (other x) (list_any other xs) none) }
    ]

-- ---- modes

covers_left : (m one other : Mode) → covers m one ≡ true → conflicts one other ≡ true → conflicts m other ≡ true
covers_left Writes one Reads h g = refl
covers_left Writes one Writes h g = refl
covers_left Writes one (Folds o) h g = refl
covers_left Reads Reads other h g = g
covers_left Reads Writes other h g = cc
covers_left Reads (Folds o) other h g = cc
covers_left (Folds p) Reads other h g = cc
covers_left (Folds p) Writes other h g = cc
covers_left (Folds p) (Folds o) other h g = subst (λ q. conflicts (Folds q) other ≡ true) (sym ((fold-decides p o).0 h)) g

covers_right : (m other one : Mode) → covers m other ≡ true → conflicts one other ≡ true → conflicts one m ≡ true
covers_right Writes other Reads h g = refl
covers_right Writes other Writes h g = refl
covers_right Writes other (Folds o) h g = refl
covers_right Reads Reads one h g = g
covers_right Reads Writes one h g = cc
covers_right Reads (Folds o) one h g = cc
covers_right (Folds p) Reads one h g = cc
covers_right (Folds p) Writes one h g = cc
covers_right (Folds p) (Folds o) one h g = subst (λ q. conflicts one (Folds q) ≡ true) (sym ((fold-decides p o).0 h)) g

write_conflicts : (m : Mode) → conflicts m Writes ≡ true
write_conflicts Reads = refl
write_conflicts Writes = refl
write_conflicts (Folds o) = refl

-- ---- what is declared of a cell

-- the mode of a declared use that lets the cell be used so
record IsAllowedBy (uses : List Use) (c : Cell) (wanted : Mode) : Type 0 where
  mode : Mode
  covered : covers mode wanted ≡ true
  each : (other : Use → Bool) → list_any other uses ≡ false → other (use_as mode c) ≡ false

allowed_by : (uses : List Use) (c : Cell) (wanted : Mode) → allows (Some uses) (use_as wanted c) ≡ true → IsAllowedBy uses c wanted
allowed_by uses c wanted h =
    let f = found (λ d. same_cell d.cell c && covers d.mode wanted) uses h in
    let cell = same_is f.it.cell c (and_left (same_cell f.it.cell c) (covers f.it.mode wanted) f.passes) in
    record {
      mode = f.it.mode;
      covered = and_right (same_cell f.it.cell c) (covers f.it.mode wanted) f.passes;
      each = λ other none. subst (λ c. other (use_as f.it.mode c) ≡ false) cell (f.each other none);
    }

clashes_of : (uses : List Use) (c : Cell) (one other : Mode) → allows (Some uses) (use_as one c) ≡ true → conflicts one other ≡ true
    → clashes (use_as other c) uses ≡ true
clashes_of uses c one other allowed conflict =
    any-more (λ d. same_cell d.cell c && covers d.mode one) (λ d. same_cell d.cell c && conflicts d.mode other) uses
    (λ d h. and_true (same_cell d.cell c) (conflicts d.mode other) (and_left (same_cell d.cell c) (covers d.mode one) h)
    (covers_left d.mode one other (and_right (same_cell d.cell c) (covers d.mode one) h) conflict)) allowed

-- ---- children

-- What a body declares, and the groups that are open in it: of the modes in which it has a cell only one is to fold, and then it
-- is the only one; and a cell of an open group it declares as Writes, and no open group has it by another operation.
pub record Setting (own : Declared) (opened : Openings) : Type 0 where
  pub agree : (o p : Operation) (c : Cell) → folds_to own o c ≡ true → folds_to own p c ≡ true → o ≡ p
  pub alone : (o : Operation) (c : Cell) (wanted : Mode) → folds_to own o c ≡ true → allows own (use_as wanted c) ≡ true → covers (Folds o) wanted ≡ true
  pub groups : Groups own opened
  pub single : (o p : Operation) (c : Cell) → opened o c ≡ true → opened p c ≡ true → o ≡ p

-- the creation of a child that declares this is no offence
pub record Fits (own : Declared) (opened : Openings) (uses : List Use) : Type 0 where
  pub within : list_any (exceeds own) uses ≡ false
  pub fitting : list_any (misfits own opened) uses ≡ false

-- a child that declares this is one of these
abbrev pub IsAmong : Children → List Use → Type 0
IsAmong children uses = (test : List Use → Bool) → test uses ≡ true → children test ≡ true

-- no child that may be unawaited is let use the cell in conflict with this mode
abbrev pub IsFree : Declared → Openings → Children → Cell → Mode → Type 0
IsFree own opened children c mode =
    (uses : List Use) → IsAmong children uses → Fits own opened uses → (one : Mode) → allows (Some uses) (use_as one c) ≡ true → conflicts one mode ≡ true → ⊥

pub free_from : (own : Declared) (opened : Openings) (children : Children) (c : Cell) (mode : Mode) → children (clashes (use_as mode c)) ≡ false
    → IsFree own opened children c mode
free_from own opened children c mode none = λ uses among fits one allowed conflict.
    true≢false (sym (among (clashes (use_as mode c)) (clashes_of uses c one mode allowed conflict)) ∙ none)

fold_fits : (own : Declared) (opened : Openings) (c : Cell) (o : Operation) (m : Mode) → conflicts m (Folds o) ≡ false → misfits_as m own opened c ≡ false
    → (folds_to own o c ≡ true) ⊎ (opened o c ≡ true)
fold_fits own opened c o Reads h g = absurd (true≢false h)
fold_fits own opened c o Writes h g = absurd (true≢false h)
fold_fits own opened c o (Folds p) h g =
    subst (λ o. (folds_to own o c ≡ true) ⊎ (opened o c ≡ true)) ((fold-decides p o).0 (not_false (same_fold p o) h)) (both_false (folds_to own p c) (opened p c) g)

-- a fold that is held as a write meets no child that folds to the cell: it would be of an open group
free_write : (own : Declared) (opened : Openings) (children : Children) (o : Operation) (c : Cell) → folds_to own o c ≡ false
    → IsHarmless own opened children (use_as (Folds o) c) → IsFree own opened children c Writes
free_write own opened children o c unmet harmless = λ uses among fits one allowed conflict.
    let a = allowed_by uses c one allowed in
    let clash = never (clashes (use_as (Folds o) c) uses) (children (clashes (use_as (Folds o) c))) (among (clashes (use_as (Folds o) c))) (harmless ConflictsWithChild) in
    let same = and_met (same_cell c c) (conflicts a.mode (Folds o)) (same_itself c) (a.each (λ d. same_cell d.cell c && conflicts d.mode (Folds o)) clash) in
    elim (fold_fits own opened c o a.mode same (a.each (misfits own opened) fits.fitting)) [
      | inl declared ↦ true≢false (sym declared ∙ unmet)
      | inr grouped ↦ true≢false (sym (opened-by opened o c grouped) ∙ harmless ReductionMisuse)
    ]

as_fold : (own : Declared) (o : Operation) (c : Cell) (P : Mode → Type 0) → (folds_to own o c ≡ true → P (Folds o)) → (folds_to own o c ≡ false → P Writes)
    → P (fold_as own o c)
as_fold own o c P met unmet = by (folds_to own o c) refl
  where
    by : (b : Bool) → folds_to own o c ≡ b → P (if b then Folds o else Writes)
    by true is = met is
    by false is = unmet is

pub free_fold : (own : Declared) (opened : Openings) (children : Children) (o : Operation) (c : Cell)
    → IsHarmless own opened children (use_as (Folds o) c) → IsFree own opened children c (fold_as own o c)
free_fold own opened children o c harmless =
    as_fold own o c (IsFree own opened children c) (λ is. free_from own opened children c (Folds o) (harmless ConflictsWithChild))
    (λ is. free_write own opened children o c is harmless)

-- ---- what a body declares of a fold

folds_by_covers : (o : Operation) (m : Mode) → covers m (Folds o) ≡ true → folds_by o m ≡ false → covers m Writes ≡ true
folds_by_covers o Reads h g = absurd (true≢false (sym h))
folds_by_covers o Writes h g = refl
folds_by_covers o (Folds p) h g = absurd (true≢false (sym h ∙ g))

written_for : (uses : List Use) (o : Operation) (c : Cell) → folds_to (Some uses) o c ≡ false → allows (Some uses) (use_as (Folds o) c) ≡ true
    → allows (Some uses) (use_as Writes c) ≡ true
written_for uses o c unmet h =
    let a = allowed_by uses c (Folds o) h in
    let unfolded = and_met (same_cell c c) (folds_by o a.mode) (same_itself c) (a.each (λ d. same_cell d.cell c && folds_by o d.mode) unmet) in
    sure (allows (Some uses) (use_as Writes c))
    (λ none. true≢false (sym (folds_by_covers o a.mode a.covered unfolded)
    ∙ and_met (same_cell c c) (covers a.mode Writes) (same_itself c) (a.each (λ d. same_cell d.cell c && covers d.mode Writes) none)))

write_allowed : (own : Declared) (o : Operation) (c : Cell) → folds_to own o c ≡ false → allows own (use_as (Folds o) c) ≡ true
    → allows own (use_as Writes c) ≡ true
write_allowed None o c unmet h = refl
write_allowed (Some uses) o c unmet h = written_for uses o c unmet h

-- it declares the cell as the fold is held
pub fold_allowed : (own : Declared) (o : Operation) (c : Cell) → allows own (use_as (Folds o) c) ≡ true → allows own (use_as (fold_as own o c) c) ≡ true
fold_allowed own o c h = as_fold own o c (λ m. allows own (use_as m c) ≡ true) (λ is. h) (λ is. write_allowed own o c is h)

-- ---- two children

-- a child may fold to the cell by the operation: so may the body, or a group that is open in it has the cell
abbrev MayFold : Declared → Openings → Operation → Cell → Type 0
MayFold own opened o c = (folds_to own o c ≡ true) ⊎ (opened o c ≡ true)

-- the body, and each child, uses such a cell in no other mode
fold_alone : (own : Declared) (opened : Openings) (o : Operation) (c : Cell) (m : Mode) → Setting own opened → covers (Folds o) m ≡ false
    → MayFold own opened o c → allows own (use_as m c) ≡ true → opened_by_any opened c ≡ false → ⊥
fold_alone own opened o c m s other (inl declared) allowed shut = true≢false (sym (s.alone o c m declared allowed) ∙ other)
fold_alone own opened o c m s other (inr grouped) allowed shut = true≢false (sym (opened-by opened o c grouped) ∙ shut)

folds_agree : (own : Declared) (opened : Openings) (o p : Operation) (c : Cell) → Setting own opened → MayFold own opened o c → MayFold own opened p c → o ≡ p
folds_agree own opened o p c s (inl one) (inl other) = s.agree o p c one other
folds_agree own opened o p c s (inl one) (inr grouped) = absurd (true≢false (sym (s.alone o c Writes one (s.groups p c grouped))))
folds_agree own opened o p c s (inr grouped) (inl other) = absurd (true≢false (sym (s.alone p c Writes other (s.groups o c grouped))))
folds_agree own opened o p c s (inr grouped) (inr both) = s.single o p c grouped both

may_fold : (own : Declared) (opened : Openings) (o : Operation) (c : Cell) → misfits_as (Folds o) own opened c ≡ false → MayFold own opened o c
may_fold own opened o c fitting = both_false (folds_to own o c) (opened o c) fitting

two_modes : (own : Declared) (opened : Openings) (c : Cell) (m n : Mode) → Setting own opened → one_writes m n ≡ false → conflicts m n ≡ true
    → exceeds own (use_as m c) ≡ false → misfits_as m own opened c ≡ false → exceeds own (use_as n c) ≡ false → misfits_as n own opened c ≡ false → ⊥
two_modes own opened c Writes n s independent conflict in_one one in_other other = true≢false independent
two_modes own opened c Reads Writes s independent conflict in_one one in_other other = true≢false independent
two_modes own opened c (Folds o) Writes s independent conflict in_one one in_other other = true≢false independent
two_modes own opened c Reads Reads s independent conflict in_one one in_other other = true≢false (sym conflict)
two_modes own opened c Reads (Folds p) s independent conflict in_one one in_other other =
    fold_alone own opened p c Reads s refl (may_fold own opened p c other) (not_false (allows own (use_as Reads c)) in_one) one
two_modes own opened c (Folds o) Reads s independent conflict in_one one in_other other =
    fold_alone own opened o c Reads s refl (may_fold own opened o c one) (not_false (allows own (use_as Reads c)) in_other) other
two_modes own opened c (Folds o) (Folds p) s independent conflict in_one one in_other other =
    true≢false (sym ((fold-decides o p).1 (folds_agree own opened o p c s (may_fold own opened o c one) (may_fold own opened p c other))) ∙ not_true (same_fold o p) conflict)

-- children of which neither depends on the other aren't let use a cell in conflict
pub siblings_agree : (own : Declared) (opened : Openings) → Setting own opened → (us vs : List Use) → Fits own opened us → Fits own opened vs
    → depends_on us vs ≡ false → (c : Cell) (one other : Mode) → allows (Some us) (use_as one c) ≡ true → allows (Some vs) (use_as other c) ≡ true
    → conflicts one other ≡ true → ⊥
siblings_agree own opened s us vs fits fits_too independent c one other h g conflict =
    let a = allowed_by us c one h in
    let b = allowed_by vs c other g in
    let some = a.each (λ u. list_any (λ v. same_cell u.cell v.cell && one_writes u.mode v.mode) vs) independent in
    let both = b.each (λ v. same_cell c v.cell && one_writes a.mode v.mode) some in
    two_modes own opened c a.mode b.mode s (and_met (same_cell c c) (one_writes a.mode b.mode) (same_itself c) both)
    (covers_right b.mode other a.mode b.covered (covers_left a.mode one other a.covered conflict))
    (a.each (exceeds own) fits.within) (a.each (misfits own opened) fits.fitting) (b.each (exceeds own) fits_too.within) (b.each (misfits own opened) fits_too.fitting)

-- ---- bodies

-- a program's own body declares nothing
pub root_setting : Setting None nothing_open
root_setting = record {
  agree = λ o p c h g. absurd (true≢false (sym h));
  alone = λ o c wanted h g. absurd (true≢false (sym h));
  groups = λ o c h. absurd (true≢false (sym h));
  single = λ o p c h g. absurd (true≢false (sym h));
}

-- what a child may fold to it has in no other mode
alone_in_child : (own : Declared) (opened : Openings) (o : Operation) (c : Cell) (m wanted : Mode) → Setting own opened → MayFold own opened o c
    → covers m wanted ≡ true → exceeds own (use_as m c) ≡ false → misfits_as m own opened c ≡ false → covers (Folds o) wanted ≡ true
alone_in_child own opened o c Reads wanted s may covered within fitting =
    absurd (fold_alone own opened o c Reads s refl may (not_false (allows own (use_as Reads c)) within) fitting)
alone_in_child own opened o c Writes wanted s may covered within fitting =
    absurd (fold_alone own opened o c Writes s refl may (not_false (allows own (use_as Writes c)) within) fitting)
alone_in_child own opened o c (Folds p) wanted s may covered within fitting =
    subst (λ q. covers (Folds q) wanted ≡ true) (sym (folds_agree own opened o p c s may (may_fold own opened p c fitting))) covered

-- so it is in the body of a child, where no group is open at first
pub child_setting : (own : Declared) (opened : Openings) (uses : List Use) → Setting own opened → Fits own opened uses → Setting (Some uses) nothing_open
child_setting own opened uses s fits = record {
  agree = λ o p c h g.
      folds_agree own opened o p c s (fits-folds own opened uses o c fits.fitting h) (fits-folds own opened uses p c fits.fitting g);
  alone = λ o c wanted h g.
      let a = allowed_by uses c wanted g in
      alone_in_child own opened o c a.mode wanted s (fits-folds own opened uses o c fits.fitting h) a.covered (a.each (exceeds own) fits.within)
      (a.each (misfits own opened) fits.fitting);
  groups = λ o c h. absurd (true≢false (sym h));
  single = λ o p c h g. absurd (true≢false (sym h));
}

-- ---- groups that begin

group_names : (opened : Openings) (o p : Operation) (cells : List Cell) (c : Cell) → has_cell cells c ≡ false → with_group opened o cells p c ≡ opened p c
group_names opened o p cells c unmet = ap (λ b. opened p c || (same_fold o p && b)) unmet ∙ ap (λ b. opened p c || b) (and_false (same_fold o p)) ∙ or_none (opened p c)

still_shut : (opened : Openings) (o : Operation) (cells : List Cell) (c : Cell) → has_cell cells c ≡ false
    → opened_by_any (with_group opened o cells) c ≡ opened_by_any opened c
unfolding opened_by_any
still_shut opened o cells c unmet =
    any-same (λ p. with_group opened o cells p c) (λ p. opened p c) (Plus ∷ Times ∷ And ∷ Or ∷ Xor ∷ Min ∷ Max ∷ []) (λ p. group_names opened o p cells c unmet)

still_fits : (own : Declared) (opened : Openings) (o : Operation) (cells : List Cell) (c : Cell) (m : Mode) → has_cell cells c ≡ false
    → misfits_as m own opened c ≡ false → misfits_as m own (with_group opened o cells) c ≡ false
still_fits own opened o cells c Reads unmet h = still_shut opened o cells c unmet ∙ h
still_fits own opened o cells c Writes unmet h = still_shut opened o cells c unmet ∙ h
still_fits own opened o cells c (Folds p) unmet h = ap (λ b. not (folds_to own p c) && not b) (group_names opened o p cells c unmet) ∙ h

-- no child that may be unawaited uses a cell that the group names
unnamed : (children : Children) (uses : List Use) (cells : List Cell) (d : Use) → IsAmong children uses
    → ((other : Use → Bool) → list_any other uses ≡ false → other d ≡ false) → list_any (λ c. children (clashes (use_as Writes c))) cells ≡ false
    → has_cell cells d.cell ≡ false
unnamed children uses cells d among each free =
    never (has_cell cells d.cell) false (λ named.
    let f = found (λ c. same_cell c d.cell) cells named in
    let none = f.each (λ c. children (clashes (use_as Writes c))) free in
    let clash = never (clashes (use_as Writes f.it) uses) (children (clashes (use_as Writes f.it))) (among (clashes (use_as Writes f.it))) none in
    let apart = each (λ d. same_cell d.cell f.it && conflicts d.mode Writes) clash in
    let same = subst (λ c. same_cell d.cell c ≡ true) (sym (same_is f.it d.cell f.passes)) (same_itself d.cell) in
    absurd (true≢false (sym (write_conflicts d.mode) ∙ and_met (same_cell d.cell f.it) (conflicts d.mode Writes) same apart))) refl

pub fits_inside : (own : Declared) (opened : Openings) (children : Children) (o : Operation) (cells : List Cell) (uses : List Use) → IsAmong children uses
    → list_any (λ c. children (clashes (use_as Writes c))) cells ≡ false → Fits own opened uses → Fits own (with_group opened o cells) uses
fits_inside own opened children o cells uses among free fits = record {
  within = fits.within;
  fitting = never (list_any (misfits own (with_group opened o cells)) uses) false (λ misfit.
      let f = found (misfits own (with_group opened o cells)) uses misfit in
      absurd (true≢false (sym f.passes
      ∙ still_fits own opened o cells f.it.cell f.it.mode (unnamed children uses cells f.it among f.each free) (f.each (misfits own opened) fits.fitting)))) refl;
}

named_once : (own : Declared) (opened : Openings) (o p q : Operation) (cells : List Cell) (c : Cell)
    → list_any (λ c. not (allows own (use_as Writes c)) || opened_by_any opened c) cells ≡ false → (same_fold o p && has_cell cells c) ≡ true → opened q c ≡ true → ⊥
named_once own opened o p q cells c clean named grouped =
    true≢false (sym (opened-by opened q c grouped) ∙ group_free own opened cells c clean (and_right (same_fold o p) (has_cell cells c) named))

pub setting_inside : (own : Declared) (opened : Openings) (o : Operation) (cells : List Cell) → Setting own opened
    → list_any (λ c. not (allows own (use_as Writes c)) || opened_by_any opened c) cells ≡ false → Setting own (with_group opened o cells)
setting_inside own opened o cells s clean = record {
  agree = s.agree;
  alone = s.alone;
  groups = groups_inside own opened o cells s.groups clean;
  single = λ p q c h g. elim (or_true (opened p c) (same_fold o p && has_cell cells c) h) [
    | inl one ↦ elim (or_true (opened q c) (same_fold o q && has_cell cells c) g) [
      | inl other ↦ s.single p q c one other
      | inr named ↦ absurd (named_once own opened o q p cells c clean named one)
    ]
    | inr named ↦ elim (or_true (opened q c) (same_fold o q && has_cell cells c) g) [
      | inl other ↦ absurd (named_once own opened o p q cells c clean named other)
      | inr again ↦ sym ((fold-decides o p).0 (and_left (same_fold o p) (has_cell cells c) named)) ∙ (fold-decides o q).0 (and_left (same_fold o q) (has_cell cells c) again)
    ]
  ];
}
