-- What is shown determines what was shown, where names are names and differ.
use Rattle.std.specs.Prelude.{◌≡◌, ℕ, ◌<◌, ◌^◌, ◌==◌, nat_le, Bool, true, false, not, ◌&&◌, ◌||◌, List, [], ◌∷◌, length, ◌++◌, codes, Option, Some, None}
use Rattle.ot_model.specs.Tree.{E, Literal, CellAt, Apply, PickFrom, S, Set, Fold, If, Task, Wait, Group, End}
use Rattle.ot_model.specs.declared.expr.Cell.{Cell}
use Rattle.ot_model.specs.declared.expr.Section.{Section}
use Rattle.ot_model.specs.declared.stmt.Use.{Use}
use Rattle.ot_model.specs.Cells.{AreInOrder, is_fold}
use Rattle.ot_model.specs.declared.fold.Fold.{Fold as Operation}
use Rattle.ot_model.specs.declared.expr.Op.TheVariants as o
use Rattle.ot_model.specs.declared.fold.Fold.TheVariants as f
use Rattle.ot_show_print.specs.Shown.{Text, name, cell, value, sections, task, wait, group, statement, sections_of, section_cells}
use Rattle.ot_model.specs.Signs.{fold_sign, is_called}

abbrev pub is_digit : ℕ → Bool
is_digit b = nat_le 48 b && nat_le b 57

-- a letter, a digit or `_`
abbrev pub in_word : ℕ → Bool
in_word b = (nat_le 97 b && nat_le b 122) || is_digit b || b == 95

abbrev pub all_word : Text → Bool
all_word [] = true
all_word (b ∷ bs) = in_word b && all_word bs

-- letters, digits and `_`, no digit first
abbrev pub is_name : Text → Bool
is_name [] = false
is_name (b ∷ bs) = not (is_digit b) && all_word (b ∷ bs)

-- names of arrays, no two of them the same
pub record AreNames (names : List Text) : Type 0 where
  pub each : (i : ℕ) → i < length names → is_name (name names i) ≡ true
  pub differ : (i j : ℕ) → i < length names → j < length names → name names i ≡ name names j → i ≡ j

-- numbers fit 64 bits, and each array has a name
abbrev pub Fits : List Text → E → Type 0
Fits names (Literal n) = n < 2 ^ 64
Fits names (CellAt c) = (c.array < length names) × (c.index < 2 ^ 64)
Fits names (Apply op a b) = Fits names a × Fits names b
Fits names (PickFrom s e) = (s.array < length names) × (s.start < 2 ^ 64) × (s.len < 2 ^ 64) × Fits names e

-- whether a value goes on here: a byte of a word or a blank stands in front
abbrev pub goes : Text → Bool
goes [] = false
goes (b ∷ bs) = in_word b || b == 32

abbrev pub ValueIsDetermined : Type 0
ValueIsDetermined = (names : List Text) → AreNames names → (a b : E) → Fits names a → Fits names b → value names a ≡ value names b → a ≡ b

-- its array has a name, and it has a cell
abbrev pub FitsSection : List Text → Section → Type 0
FitsSection names s = (s.array < length names) × (s.start < 2 ^ 64) × (0 < s.len) × (s.len < 2 ^ 64)

abbrev pub AllFit : List Text → List Section → Type 0
AllFit names [] = Unit {0}
AllFit names (s ∷ ss) = FitsSection names s × AllFit names ss

abbrev pub CellsFit : List Text → List Cell → Type 0
CellsFit names [] = Unit {0}
CellsFit names (c ∷ cs) = ((c.array < length names) × (c.index < 2 ^ 64)) × CellsFit names cs

-- a section's cells come back, in order, whatever they are
abbrev pub CellsComeBack : Type 0
CellsComeBack = (cs : List Cell) → section_cells (sections_of cs) ≡ cs

abbrev pub SectionsAreDetermined : Type 0
SectionsAreDetermined = (names : List Text) → AreNames names → (ss ts : List Section) → AllFit names ss → AllFit names ts → sections names ss ≡ sections names ts → ss ≡ ts

abbrev pub CellsAreDetermined : Type 0
CellsAreDetermined = (names : List Text) → AreNames names → (cs ds : List Cell) → CellsFit names cs → CellsFit names ds → sections names (sections_of cs) ≡ sections names (sections_of ds) → cs ≡ ds

abbrev pub UsesFit : List Text → List Use → Type 0
UsesFit names [] = Unit {0}
UsesFit names (u ∷ us) = ((u.cell.array < length names) × (u.cell.index < 2 ^ 64)) × UsesFit names us

-- a task's text determines what it declares
abbrev pub TaskIsDetermined : Type 0
TaskIsDetermined = (names : List Text) → AreNames names → (us vs : List Use) → AreInOrder us → AreInOrder vs → UsesFit names us → UsesFit names vs → task names us ≡ task names vs → us ≡ vs

-- no use folds, as in the declaration of a wait
abbrev pub OnlyDepends : List Use → Type 0
OnlyDepends [] = Unit {0}
OnlyDepends (u ∷ us) = (is_fold u.mode ≡ false) × OnlyDepends us

abbrev pub WaitFits : List Text → Option (List Use) → Type 0
WaitFits names None = Unit {0}
WaitFits names (Some us) = AreInOrder us × UsesFit names us × OnlyDepends us

-- a wait's text determines whether it declares cells, and which
abbrev pub WaitIsDetermined : Type 0
WaitIsDetermined = (names : List Text) → AreNames names → (v w : Option (List Use)) → WaitFits names v → WaitFits names w → wait names v ≡ wait names w → v ≡ w

-- a group's text determines its operation and its cells, where it has any
abbrev pub GroupIsDetermined : Type 0
GroupIsDetermined = (names : List Text) → AreNames names → (op other : Operation) (c : Cell) (cs ds : List Cell) → CellsFit names (c ∷ cs) → CellsFit names ds → group names op (c ∷ cs) ≡ group names other ds → (op ≡ other) × ((c ∷ cs) ≡ ds)

-- what stands between the cell and the value of a set, or of a fold by an operation that has a sign
abbrev pub write_sign : Option Operation → Text
write_sign None = codes " = "
write_sign (Some op) = fold_sign op

abbrev pub HasSign : Option Operation → Type 0
HasSign None = Unit {0}
HasSign (Some op) = is_called op ≡ false

-- the text of a set, or of a fold with a sign, determines which it is, its cell and its value
abbrev pub WriteIsDetermined : Type 0
WriteIsDetermined = (names : List Text) → AreNames names → (k l : Option Operation) (c d : Cell) (a b : E) → HasSign k → HasSign l → Fits names (CellAt c) → Fits names (CellAt d) → Fits names a → Fits names b
    → cell names c ++ write_sign k ++ value names a ≡ cell names d ++ write_sign l ++ value names b → (k ≡ l) × (c ≡ d) × (a ≡ b)

-- a fold by min or max is shown as the set that does the same: the two are not told apart
abbrev pub CalledFoldIsShownAsSet : Type 0
CalledFoldIsShownAsSet = (names : List Text) (c : Cell) (e : E)
    → (statement names (Fold f.Max c e) ≡ statement names (Set c (Apply o.Max (CellAt c) e))) × (statement names (Fold f.Min c e) ≡ statement names (Set c (Apply o.Min (CellAt c) e)))

-- ---- whole statements

-- what a fold by `min` or `max` computes as a value; any other is told as a fold
abbrev pub fold_as_shown : Operation → Cell → E → S
fold_as_shown f.Min c e = Set c (Apply o.Min (CellAt c) e)
fold_as_shown f.Max c e = Set c (Apply o.Max (CellAt c) e)
fold_as_shown op c e = Fold op c e

-- the operation of a group over no cell isn't told
abbrev pub group_as_shown : Operation → List Cell → S
group_as_shown op [] = Group f.Plus [] End
group_as_shown op (c ∷ cs) = Group op (c ∷ cs) End

-- what is told of a statement: bodies aren't, nor whether a cell is set to its `min` or `max` with a value by a fold
abbrev pub as_shown : S → S
as_shown (Set c e) = Set c e
as_shown (Fold op c e) = fold_as_shown op c e
as_shown (If e a b) = If e End End
as_shown (Task us b) = Task us End
as_shown (Wait w) = Wait w
as_shown (Group op cs b) = group_as_shown op cs

abbrev pub FitsStatement : List Text → S → Type 0
FitsStatement names (Set c e) = Fits names (CellAt c) × Fits names e
FitsStatement names (Fold op c e) = Fits names (CellAt c) × Fits names e
FitsStatement names (If e a b) = Fits names e
FitsStatement names (Task us b) = AreInOrder us × UsesFit names us
FitsStatement names (Wait w) = WaitFits names w
FitsStatement names (Group op cs b) = CellsFit names cs

-- a statement is shown as what is told of it
abbrev pub StatementIsShownSo : Type 0
StatementIsShownSo = (names : List Text) (s : S) → statement names (as_shown s) ≡ statement names s

-- statements of one text, of whatever kinds, are one as far as it tells them
abbrev pub StatementIsDetermined : Type 0
StatementIsDetermined = (names : List Text) → AreNames names → (s t : S) → FitsStatement names s → FitsStatement names t → statement names s ≡ statement names t → as_shown s ≡ as_shown t
