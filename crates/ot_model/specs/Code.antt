-- Codes of values, statements and bodies, so that a type's value may hold them: the list of the parts of one, inner parts
-- first, which a stack puts together again.
use Rattle.std.proofs.Common.{inl, inr, ◌∙◌, ap}
use Rattle.std.specs.Prelude.{◌≡◌, ◌⊎◌, ℕ, Bool, true, false, List, [], ◌∷◌, slice_index_or, refl, None, Some}
use Rattle.std.specs.Coded.{Coded, code_by, coded×, coded⊎, coded_ℕ, coded_bool, coded_list}
use Rattle.ot_model.specs.Tree.{E, Literal, CellAt, Apply, PickFrom, Set, Fold, If, Task, Wait, Group, Body, End, Next}
use Rattle.ot_model.specs.declared.expr.Cell.{Cell}
use Rattle.ot_model.specs.declared.expr.Section.{Section}
use Rattle.ot_model.specs.declared.expr.Op.{Op}
use Rattle.ot_model.specs.declared.expr.Op.TheVariants.{Plus, Minus, Times, And, Or, Xor, Less, Equal, Min, Max}
use Rattle.ot_model.specs.declared.fold.Fold.{Fold as Operation}
use Rattle.ot_model.specs.declared.fold.Fold.TheVariants as f
use Rattle.ot_model.specs.Cells.{number_of}
use Rattle.ot_model.specs.declared.stmt.Mode.{Mode}
use Rattle.ot_model.specs.declared.stmt.Mode.TheVariants.{Reads, Writes, Folds}
use Rattle.ot_model.specs.declared.stmt.Use.{Use}

abbrev pub cell_code : Coded Cell
cell_code = code_by (ℕ × ℕ) (coded× coded_ℕ coded_ℕ) (λ c. (c.array, c.index)) (λ p. record { array = p.0; index = p.1 }) (λ _. refl)

abbrev pub section_code : Coded Section
section_code =
    code_by (ℕ × (ℕ × ℕ)) (coded× coded_ℕ (coded× coded_ℕ coded_ℕ)) (λ s. (s.array, (s.start, s.len))) (λ p. record { array = p.0; start = p.1.0; len = p.1.1 }) (λ _. refl)

abbrev pub op_number : Op → ℕ
op_number Plus = 0
op_number Minus = 1
op_number Times = 2
op_number And = 3
op_number Or = 4
op_number Xor = 5
op_number Less = 6
op_number Equal = 7
op_number Min = 8
op_number Max = 9

abbrev pub op_at : ℕ → Op
op_at n = slice_index_or (Plus ∷ Minus ∷ Times ∷ And ∷ Or ∷ Xor ∷ Less ∷ Equal ∷ Min ∷ Max ∷ []) n Plus

pub op-back : (o : Op) → op_at (op_number o) ≡ o
op-back Plus = refl
op-back Minus = refl
op-back Times = refl
op-back And = refl
op-back Or = refl
op-back Xor = refl
op-back Less = refl
op-back Equal = refl
op-back Min = refl
op-back Max = refl

abbrev pub op_code : Coded Op
op_code = code_by ℕ coded_ℕ op_number op_at op-back

abbrev pub operation_at : ℕ → Operation
operation_at n = slice_index_or (f.Plus ∷ f.Times ∷ f.And ∷ f.Or ∷ f.Xor ∷ f.Min ∷ f.Max ∷ []) n f.Plus

pub operation-back : (o : Operation) → operation_at (number_of o) ≡ o
operation-back f.Plus = refl
operation-back f.Times = refl
operation-back f.And = refl
operation-back f.Or = refl
operation-back f.Xor = refl
operation-back f.Min = refl
operation-back f.Max = refl

abbrev pub fold_code : Coded Operation
fold_code = code_by ℕ coded_ℕ number_of operation_at operation-back

abbrev pub mode_sum : Mode → Bool ⊎ Operation
mode_sum Reads = inl false
mode_sum Writes = inl true
mode_sum (Folds o) = inr o

abbrev pub mode_at : Bool ⊎ Operation → Mode
mode_at (inl false) = Reads
mode_at (inl true) = Writes
mode_at (inr o) = Folds o

pub mode-back : (m : Mode) → mode_at (mode_sum m) ≡ m
mode-back Reads = refl
mode-back Writes = refl
mode-back (Folds o) = refl

abbrev pub mode_code : Coded Mode
mode_code = code_by (Bool ⊎ Operation) (coded⊎ coded_bool fold_code) mode_sum mode_at mode-back

abbrev pub use_code : Coded Use
use_code = code_by (Cell × Mode) (coded× cell_code mode_code) (λ u. (u.cell, u.mode)) (λ p. record { cell = p.0; mode = p.1 }) (λ _. refl)

-- ---- a value

pub data ValuePart : Type 0 where
  OfNumber : ℕ → ValuePart
  OfCell : Cell → ValuePart
  OfTwo : Op → ValuePart
  OfPick : Section → ValuePart

abbrev pub value_part_sum : ValuePart → ℕ ⊎ (Cell ⊎ (Op ⊎ (Section)))
value_part_sum (OfNumber x) = inl x
value_part_sum (OfCell x) = inr (inl x)
value_part_sum (OfTwo x) = inr (inr (inl x))
value_part_sum (OfPick x) = inr (inr (inr x))

abbrev pub value_part_at : ℕ ⊎ (Cell ⊎ (Op ⊎ (Section))) → ValuePart
value_part_at (inl x) = OfNumber x
value_part_at (inr (inl x)) = OfCell x
value_part_at (inr (inr (inl x))) = OfTwo x
value_part_at (inr (inr (inr x))) = OfPick x

pub value_part-back : (p : ValuePart) → value_part_at (value_part_sum p) ≡ p
value_part-back (OfNumber x) = refl
value_part-back (OfCell x) = refl
value_part-back (OfTwo x) = refl
value_part-back (OfPick x) = refl

abbrev pub value_part_code : Coded ValuePart
value_part_code = code_by (ℕ ⊎ (Cell ⊎ (Op ⊎ (Section)))) (coded⊎ coded_ℕ (coded⊎ cell_code (coded⊎ op_code (section_code)))) value_part_sum value_part_at value_part-back

-- the parts of a value, before those of what follows
abbrev pub value_parts : E → List ValuePart → List ValuePart
value_parts (Literal n) k = OfNumber n ∷ k
value_parts (CellAt c) k = OfCell c ∷ k
value_parts (Apply o a b) k = value_parts b (value_parts a (OfTwo o ∷ k))
value_parts (PickFrom s e) k = value_parts e (OfPick s ∷ k)

-- one part more
abbrev pub with_value_part : ValuePart → List E → List E
with_value_part (OfNumber n) es = Literal n ∷ es
with_value_part (OfCell c) es = CellAt c ∷ es
with_value_part (OfTwo o) (a ∷ b ∷ es) = Apply o a b ∷ es
with_value_part (OfPick s) (e ∷ es) = PickFrom s e ∷ es
with_value_part p es = es

abbrev pub values_of : List ValuePart → List E → List E
values_of [] es = es
values_of (p ∷ k) es = values_of k (with_value_part p es)

pub values-back : (e : E) (k : List ValuePart) (es : List E) → values_of (value_parts e k) es ≡ values_of k (e ∷ es)
values-back (Literal n) k es = refl
values-back (CellAt c) k es = refl
values-back (Apply o a b) k es = values-back b (value_parts a (OfTwo o ∷ k)) es ∙ values-back a (OfTwo o ∷ k) (b ∷ es)
values-back (PickFrom s e) k es = values-back e (OfPick s ∷ k) es

abbrev pub top_value : List E → E
top_value es = slice_index_or es 0 (Literal 0)

abbrev pub value_code : Coded E
value_code = code_by (List ValuePart) (coded_list value_part_code) (λ e. value_parts e []) (λ k. top_value (values_of k [])) (λ e. ap top_value (values-back e [] []))

-- ---- a body: its end, a wait for all children and a wait with a declaration are the other parts

pub data Part : Type 0 where
  OfSet : Cell × E → Part
  OfFold : Operation × (Cell × E) → Part
  OfIf : E → Part
  OfTask : List Use → Part
  OfGroup : Operation × List Cell → Part
  OfOther : Bool ⊎ List Use → Part

abbrev pub part_sum : Part → (Cell × E) ⊎ ((Operation × (Cell × E)) ⊎ (E ⊎ (List Use ⊎ ((Operation × List Cell) ⊎ (Bool ⊎ List Use)))))
part_sum (OfSet x) = inl x
part_sum (OfFold x) = inr (inl x)
part_sum (OfIf x) = inr (inr (inl x))
part_sum (OfTask x) = inr (inr (inr (inl x)))
part_sum (OfGroup x) = inr (inr (inr (inr (inl x))))
part_sum (OfOther x) = inr (inr (inr (inr (inr x))))

abbrev pub part_at : (Cell × E) ⊎ ((Operation × (Cell × E)) ⊎ (E ⊎ (List Use ⊎ ((Operation × List Cell) ⊎ (Bool ⊎ List Use))))) → Part
part_at (inl x) = OfSet x
part_at (inr (inl x)) = OfFold x
part_at (inr (inr (inl x))) = OfIf x
part_at (inr (inr (inr (inl x)))) = OfTask x
part_at (inr (inr (inr (inr (inl x))))) = OfGroup x
part_at (inr (inr (inr (inr (inr x))))) = OfOther x

pub part-back : (p : Part) → part_at (part_sum p) ≡ p
part-back (OfSet x) = refl
part-back (OfFold x) = refl
part-back (OfIf x) = refl
part-back (OfTask x) = refl
part-back (OfGroup x) = refl
part-back (OfOther x) = refl

abbrev pub part_code : Coded Part
part_code = code_by ((Cell × E) ⊎ ((Operation × (Cell × E)) ⊎ (E ⊎ (List Use ⊎ ((Operation × List Cell) ⊎ (Bool ⊎ List Use)))))) (coded⊎ (coded× cell_code value_code) (coded⊎ (coded× fold_code (coded× cell_code value_code)) (coded⊎ value_code (coded⊎ (coded_list use_code) (coded⊎ (coded× fold_code (coded_list cell_code)) (coded⊎ coded_bool (coded_list use_code))))))) part_sum part_at part-back

-- the parts of a body, before those of what follows
abbrev pub parts : Body → List Part → List Part
parts End k = OfOther (inl false) ∷ k
parts (Next (Wait None) b) k = parts b (OfOther (inl true) ∷ k)
parts (Next (Wait (Some d)) b) k = parts b (OfOther (inr d) ∷ k)
parts (Next (Set c e) b) k = parts b (OfSet (c, e) ∷ k)
parts (Next (Fold o c e) b) k = parts b (OfFold (o, (c, e)) ∷ k)
parts (Next (If e x y) b) k = parts b (parts y (parts x (OfIf e ∷ k)))
parts (Next (Task d x) b) k = parts b (parts x (OfTask d ∷ k))
parts (Next (Group o cs x) b) k = parts b (parts x (OfGroup (o, cs) ∷ k))

-- one part more
abbrev pub with_part : Part → List Body → List Body
with_part (OfOther (inl false)) bs = End ∷ bs
with_part (OfOther (inl true)) (b ∷ bs) = Next (Wait None) b ∷ bs
with_part (OfOther (inr d)) (b ∷ bs) = Next (Wait (Some d)) b ∷ bs
with_part (OfSet p) (b ∷ bs) = Next (Set p.0 p.1) b ∷ bs
with_part (OfFold p) (b ∷ bs) = Next (Fold p.0 p.1.0 p.1.1) b ∷ bs
with_part (OfIf e) (x ∷ y ∷ b ∷ bs) = Next (If e x y) b ∷ bs
with_part (OfTask d) (x ∷ b ∷ bs) = Next (Task d x) b ∷ bs
with_part (OfGroup p) (x ∷ b ∷ bs) = Next (Group p.0 p.1 x) b ∷ bs
with_part p bs = bs

abbrev pub bodies_of : List Part → List Body → List Body
bodies_of [] bs = bs
bodies_of (p ∷ k) bs = bodies_of k (with_part p bs)

pub bodies-back : (b : Body) (k : List Part) (bs : List Body) → bodies_of (parts b k) bs ≡ bodies_of k (b ∷ bs)
bodies-back End k bs = refl
bodies-back (Next (Wait None) b) k bs = bodies-back b (OfOther (inl true) ∷ k) bs
bodies-back (Next (Wait (Some d)) b) k bs = bodies-back b (OfOther (inr d) ∷ k) bs
bodies-back (Next (Set c e) b) k bs = bodies-back b (OfSet (c, e) ∷ k) bs
bodies-back (Next (Fold o c e) b) k bs = bodies-back b (OfFold (o, (c, e)) ∷ k) bs
bodies-back (Next (If e x y) b) k bs =
    bodies-back b (parts y (parts x (OfIf e ∷ k))) bs ∙ (bodies-back y (parts x (OfIf e ∷ k)) (b ∷ bs) ∙ bodies-back x (OfIf e ∷ k) (y ∷ b ∷ bs))
bodies-back (Next (Task d x) b) k bs = bodies-back b (parts x (OfTask d ∷ k)) bs ∙ bodies-back x (OfTask d ∷ k) (b ∷ bs)
bodies-back (Next (Group o cs x) b) k bs = bodies-back b (parts x (OfGroup (o, cs) ∷ k)) bs ∙ bodies-back x (OfGroup (o, cs) ∷ k) (b ∷ bs)

abbrev pub top_body : List Body → Body
top_body bs = slice_index_or bs 0 End

abbrev pub body_code : Coded Body
body_code = code_by (List Part) (coded_list part_code) (λ b. parts b []) (λ k. top_body (bodies_of k [])) (λ b. ap top_body (bodies-back b [] []))
