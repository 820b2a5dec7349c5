-- What is held of what is touched: the strongest of the modes that are held is the strongest mode, held.
use Rattle.std.proofs.Common.{◌≡◌, Bool, true, false, List, [], ◌∷◌, map, refl, sym, ap, ◌∙◌}
use Rattle.std.specs.Prelude.{Option, Some, None, option_map, if◌then◌else◌}
use Rattle.std.specs.List.{fold}
use Rattle.ot_model.specs.Cells.{same_cell, AreInOrder, mode_in, same_fold}
use Rattle.ot_model.proofs.EqualLemmas.{cell-decides, fold-decides}
use Rattle.ot_model.specs.declared.expr.Cell.{Cell}
use Rattle.ot_model.specs.declared.fold.Fold.{Fold as Operation}
use Rattle.ot_model.specs.declared.stmt.Mode.{Mode}
use Rattle.ot_model.specs.declared.stmt.Mode.TheVariants.{Reads, Writes, Folds}
use Rattle.ot_model.specs.declared.stmt.Use.{Use}
use Rattle.ot_parts.specs.Modes.{Declared, as_held, folds_to, held_as, held_mode, mode_noted, stronger, with_mode, mode_added, strongest}
use Rattle.ot_parts.proofs.FoldLemmas.{same_self}

-- ---- use by use

pub held-in_order : (own : Declared) (us : List Use) → AreInOrder us → AreInOrder (map (as_held own) us)
held-in_order own [] order = tt
held-in_order own (u ∷ []) order = tt
held-in_order own (u ∷ v ∷ us) order = (order.0, held-in_order own (v ∷ us) order.1)

pub held-mode_in : (own : Declared) (us : List Use) (c : Cell) → mode_in (map (as_held own) us) c ≡ option_map (held_as own c) (mode_in us c)
held-mode_in own [] c = refl
held-mode_in own (u ∷ us) c = by (same_cell c u.cell) refl (held-mode_in own us c)
  where
    by : (b : Bool) → same_cell c u.cell ≡ b → mode_in (map (as_held own) us) c ≡ option_map (held_as own c) (mode_in us c)
        → (if b then Some (held_as own u.cell u.mode) else mode_in (map (as_held own) us) c) ≡ option_map (held_as own c) (if b then Some u.mode else mode_in us c)
    by true is rest = ap (λ d. Some (held_as own d u.mode)) (sym ((cell-decides c u.cell).0 is))
    by false is rest = rest

-- where each is held as it is
pub held-so : (own : Declared) (us : List Use) → map (as_held own) us ≡ us → (c : Cell) → mode_in us c ≡ option_map (held_as own c) (mode_in us c)
held-so own us is = λ c. ap (λ l. mode_in l c) (sym is) ∙ held-mode_in own us c

-- ---- mode by mode

-- a fold as it is held
abbrev shown : Operation → Bool → Mode
shown o b = if b then Folds o else Writes

shown-reads : (o : Operation) (b : Bool) → stronger (shown o b) Reads ≡ shown o b
shown-reads o true = refl
shown-reads o false = refl

shown-writes : (o : Operation) (b : Bool) → stronger (shown o b) Writes ≡ Writes
shown-writes o true = refl
shown-writes o false = refl

shown-apart : (o p : Operation) (a b : Bool) → same_fold o p ≡ false → stronger (shown o a) (shown p b) ≡ Writes
shown-apart o p true true is = ap (λ t. if t then Folds o else Writes) is
shown-apart o p true false is = refl
shown-apart o p false b is = refl

shown-itself : (o : Operation) (a : Bool) → stronger (shown o a) (shown o a) ≡ shown o a
shown-itself o true = ap (λ t. if t then Folds o else Writes) (same_self o)
shown-itself o false = refl

pub held-stronger : (own : Declared) (c : Cell) (m n : Mode) → held_as own c (stronger m n) ≡ stronger (held_as own c m) (held_as own c n)
held-stronger own c Reads n = refl
held-stronger own c Writes n = refl
held-stronger own c (Folds o) Reads = sym (shown-reads o (folds_to own o c))
held-stronger own c (Folds o) Writes = sym (shown-writes o (folds_to own o c))
held-stronger own c (Folds o) (Folds p) = by (same_fold o p) refl
  where
    by : (b : Bool) → same_fold o p ≡ b → held_as own c (if b then Folds o else Writes) ≡ stronger (shown o (folds_to own o c)) (shown p (folds_to own p c))
    by true is =
        sym (shown-itself o (folds_to own o c)) ∙ ap (λ q. stronger (shown o (folds_to own o c)) (shown q (folds_to own q c))) ((fold-decides o p).0 is)
    by false is = sym (shown-apart o p (folds_to own o c) (folds_to own p c) is)

held-with_mode : (own : Declared) (c : Cell) (s : Option Mode) (m : Mode) → held_as own c (with_mode s m) ≡ with_mode (option_map (held_as own c) s) (held_as own c m)
held-with_mode own c None m = refl
held-with_mode own c (Some n) m = held-stronger own c n m

held-one : (own : Declared) (c : Cell) (s : Option Mode) (u : Use) → mode_noted own c (option_map (held_as own c) s) u ≡ option_map (held_as own c) (mode_added c s u)
held-one own c s u = by (same_cell u.cell c) refl
  where
    by : (b : Bool) → same_cell u.cell c ≡ b
        → (if b then Some (with_mode (option_map (held_as own c) s) (held_as own u.cell u.mode)) else option_map (held_as own c) s)
        ≡ option_map (held_as own c) (if b then Some (with_mode s u.mode) else s)
    by true is =
        ap (λ d. Some (with_mode (option_map (held_as own c) s) (held_as own d u.mode))) ((cell-decides u.cell c).0 is) ∙ ap Some (sym (held-with_mode own c s u.mode))
    by false is = refl

held-from : (own : Declared) (c : Cell) (us : List Use) (s : Option Mode) → fold (mode_noted own c) (option_map (held_as own c) s) us ≡ option_map (held_as own c) (fold (mode_added c) s us)
held-from own c [] s = refl
held-from own c (u ∷ us) s = ap (λ o. fold (mode_noted own c) o us) (held-one own c s u) ∙ held-from own c us (mode_added c s u)

-- what touches hold
pub held-strongest : (own : Declared) (us : List Use) (c : Cell) → held_mode own us c ≡ option_map (held_as own c) (strongest us c)
held-strongest own us c = held-from own c us None
