-- What the C of a program says of it.
use Rattle.std.specs.Prelude.{◌≡◌, ℕ, ◌<◌, ◌^◌, nat_le, Bool, true, false, not, ◌&&◌, ◌||◌, if◌then◌else◌, List, [], ◌∷◌, length, map, Some, None}
use Rattle.ot_show_print.specs.Shown.{Text, name}
use Rattle.ot_show_print.specs.Laws.{is_digit, in_word, AreNames, Fits, CellsFit, fold_as_shown}
use Rattle.ot_model.specs.Tree.{E, CellAt, S, Set, Fold, If, Task, Wait, Group, Body, End, Next}
use Rattle.ot_model.specs.declared.expr.Cell.{Cell}
use Rattle.ot_model.specs.declared.fold.Fold.{Fold as Operation}
use Rattle.ot_model.specs.declared.fold.Fold.TheVariants as f
use Rattle.ot_model.specs.Signs.{is_called}
use Rattle.ot_model.specs.Cells.{AreInOrder}
use Rattle.ot_model.specs.declared.stmt.Use.{Use}
use Rattle.ot_show_c.specs.Statements.{c_clauses, only_folds, each_once, block, c_statement, body, deeper, c_value}
use Rattle.ot_model.specs.Programs.{Expanded}
use Rattle.ot_model.specs.declared.expr.Section.{Section}
use Rattle.ot_c_names.specs.Names.{is_taken, name_in_c}
use Rattle.ot_show_c.specs.Programs.{Declared, arrays_in_c, up_to_last, IsProgram, declared_from}

-- ---- names

-- a letter, small or capital, a digit or `_`
abbrev pub in_identifier : ℕ → Bool
in_identifier b = in_word b || (nat_le 65 b && nat_le b 90)

abbrev pub all_identifier : Text → Bool
all_identifier [] = true
all_identifier (b ∷ bs) = in_identifier b && all_identifier bs

-- letters, digits and `_`, no digit first
abbrev pub is_identifier : Text → Bool
is_identifier [] = false
is_identifier (b ∷ bs) = not (is_digit b) && all_identifier (b ∷ bs)

-- identifiers of C that aren't taken, no two of them the same
pub record AreIdentifiers (names : List Text) : Type 0 where
  pub each : (i : ℕ) → i < length names → is_identifier (name names i) ≡ true
  pub free : (i : ℕ) → i < length names → is_taken (name names i) ≡ false
  pub differ : (i j : ℕ) → i < length names → j < length names → name names i ≡ name names j → i ≡ j

-- names that differ have names in C that are free and differ
abbrev pub NamesStayApart : Type 0
NamesStayApart = (names : List Text) → AreNames names → AreIdentifiers (map name_in_c names)

-- ---- values

-- a value's C determines the value
abbrev pub CValueIsDetermined : Type 0
CValueIsDetermined = (names : List Text) → AreIdentifiers names → (a b : E) → Fits names a → Fits names b → c_value names a ≡ c_value names b → a ≡ b

-- ---- declarations

-- each declared cell's array has a name, and its place fits 32 bits
abbrev pub CUsesFit : List Text → List Use → Type 0
CUsesFit names [] = Unit {0}
CUsesFit names (u ∷ us) = ((u.cell.array < length names) × (u.cell.index < 2 ^ 32)) × CUsesFit names us

-- the clauses of a task or a wait determine what it declares
abbrev pub DeclarationIsDetermined : Type 0
DeclarationIsDetermined = (names : List Text) → AreIdentifiers names → (us vs : List Use) → AreInOrder us → AreInOrder vs → CUsesFit names us → CUsesFit names vs → c_clauses names us ≡ c_clauses names vs → us ≡ vs

-- ---- statements and bodies

-- what the C tells of a fold: where it is by `min` or `max`, and not into the task's own copy, it is the set that does the same
abbrev pub normal_fold : List Use → Operation → Cell → E → S
normal_fold own op c e = if only_folds own op c then Fold op c e else fold_as_shown op c e

-- a group's cells are told in order, each once, and its operation where it has any
abbrev pub normal_group : Operation → List Cell → Body → S
normal_group op [] b = Group f.Plus [] b
normal_group op (c ∷ cs) b = Group op (each_once (c ∷ cs)) b

-- a wait that declares no cell awaits nobody: nothing stands for it
abbrev pub is_nothing : S → Bool
is_nothing (Wait (Some [])) = true
is_nothing _ = false

-- what the C tells of a statement, or of a body, of a task with this declaration
abbrev mutual
  pub normal_statement : List Use → S → S
  normal_statement own (Fold op c e) = normal_fold own op c e
  normal_statement own (If e a b) = If e (normal own a) (normal own b)
  normal_statement own (Task us b) = Task us (normal us b)
  normal_statement own (Group op cs b) = normal_group op cs (normal own b)
  normal_statement own s = s

  pub normal : List Use → Body → Body
  normal own End = End
  normal own (Next s rest) = if is_nothing s then normal own rest else Next (normal_statement own s) (normal own rest)

-- numbers fit, and each array has a name
abbrev mutual
  pub StatementFits : List Text → S → Type 0
  StatementFits names (Set c e) = Fits names (CellAt c) × Fits names e
  StatementFits names (Fold op c e) = Fits names (CellAt c) × Fits names e
  StatementFits names (If e a b) = Fits names e × BodyFits names a × BodyFits names b
  StatementFits names (Task us b) = AreInOrder us × CUsesFit names us × BodyFits names b
  StatementFits names (Wait None) = Unit {0}
  StatementFits names (Wait (Some us)) = AreInOrder us × CUsesFit names us
  StatementFits names (Group op cs b) = CellsFit names cs × BodyFits names b

  pub BodyFits : List Text → Body → Type 0
  BodyFits names End = Unit {0}
  BodyFits names (Next s rest) = StatementFits names s × BodyFits names rest

-- the C of a body, in a block, determines the body as far as it tells it
abbrev pub BodyIsDetermined : Type 0
BodyIsDetermined = (names : List Text) → AreNames names → (own : List Use) (margin : Text) (a b : Body) → BodyFits (map name_in_c names) a → BodyFits (map name_in_c names) b
    → block margin (body (map name_in_c names) (deeper margin) own a) ≡ block margin (body (map name_in_c names) (deeper margin) own b) → normal own a ≡ normal own b

-- the C of a fold by `min` or `max`, where the task doesn't only fold into the cell by it, is that of the set that does the same
abbrev pub CalledFoldIsWrittenAsSet : Type 0
CalledFoldIsWrittenAsSet = (names : List Text) (margin : Text) (own : List Use) (c : Cell) (e : E) (op : Operation) → is_called op ≡ true → only_folds own op c ≡ false
    → c_statement names margin own (Fold op c e) ≡ c_statement names margin own (fold_as_shown op c e)

-- ---- whole programs

-- each array has a name, and numbers fit
abbrev pub ShowsFit : List Text → List Section → Type 0
ShowsFit names [] = Unit {0}
ShowsFit names (s ∷ ss) = ((s.array < length names) × (s.start < 2 ^ 64) × (s.len < 2 ^ 64)) × ShowsFit names ss

abbrev pub NumbersFit : List ℕ → Type 0
NumbersFit [] = Unit {0}
NumbersFit (n ∷ ns) = (n < 2 ^ 64) × NumbersFit ns

abbrev pub ListsFit : List (List ℕ) → Type 0
ListsFit [] = Unit {0}
ListsFit (ns ∷ lists) = NumbersFit ns × ListsFit lists

-- arrays of these names, whose lengths fit, with the numbers that they begin with
pub record ArraysFit (names : List Text) (arrays : List (Text × ℕ)) (numbers : List (List ℕ)) : Type 0 where
  pub named : map (λ a. a.0) arrays ≡ names
  pub lens : NumbersFit (map (λ a. a.1) arrays)
  pub lists : ListsFit numbers

pub record ProgramFits (names : List Text) (p : Expanded) : Type 0 where
  pub body : BodyFits names p.body
  pub shows : ShowsFit names p.shows

-- what is told of an array that is declared: not the zeros at the end
abbrev pub told_array : Declared → Declared
told_array d = record { name = d.name; len = d.len; numbers = up_to_last d.numbers }

-- two programs over arrays in C are one as far as their C tells them: what they show, their bodies, and the arrays that they name
pub record AreToldAlike (arrays others : List (Text × ℕ)) (ms ns : List (List ℕ)) (p q : Expanded) : Type 0 where
  pub shows : p.shows ≡ q.shows
  pub body : normal [] p.body ≡ normal [] q.body
  pub named : map told_array (declared_from p 0 arrays ms) ≡ map told_array (declared_from q 0 others ns)

-- the C of a program, over arrays of the same names, determines what it shows, its body as far as it is told, and its arrays
abbrev pub ProgramIsDetermined : Type 0
ProgramIsDetermined = (names : List Text) → AreNames names → (arrays others : List (Text × ℕ)) (ms ns : List (List ℕ)) (p q : Expanded) → ArraysFit names arrays ms → ArraysFit names others ns
    → ProgramFits (map name_in_c names) p → ProgramFits (map name_in_c names) q → (text : Text) → IsProgram arrays ms p text → IsProgram others ns q text → AreToldAlike (arrays_in_c arrays) (arrays_in_c others) ms ns p q
