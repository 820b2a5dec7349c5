-- A tree as a text: what is printed of a tree denotes the tree.
use Rattle.std.specs.Prelude.{◌≡◌, ℕ, ◌<◌, ◌^◌, true, List, [], ◌∷◌, map, slice_get, All, Option, option_map, unwrap_or, Some, None, Ok, codes}
use Rattle.serde_json.specs.Data.{Data, number, string, array, Items, no_items, item, unsigned}
use Rattle.ot_model.specs.Tree.{size, tasks_in, E, Literal, CellAt, Apply, PickFrom, S, Set, Fold, If, Task, Wait, Group, Body, End, Next, body_of}
use Rattle.ot_model.specs.Names.{FitsShape, NamedIn}
use Rattle.ot_model.specs.Programs.{Arrays, AreShort, array_lengths}
use Rattle.ot_model.specs.Signs.{word, identifier}
use Rattle.ot_model.specs.declared.expr.Cell.{Cell}
use Rattle.ot_model.specs.declared.expr.Section.{Section}
use Rattle.ot_model.specs.declared.fold.Fold.{Fold as Operation}
use Rattle.ot_model.specs.declared.fold.Fold.TheVariants as by
use Rattle.ot_model.specs.declared.stmt.Mode.{Mode}
use Rattle.ot_model.specs.declared.stmt.Mode.TheVariants.{Reads, Writes, Folds}
use Rattle.ot_model.specs.declared.stmt.Use.{Use}
use Rattle.ot_program.specs.Accepted.{IsSmall}
use Rattle.ot_program.specs.Copies.{copies, statements_of}
use Rattle.ot_program.specs.Meanings.{uses, Bindings, position_of, Clause, is_name}
use Rattle.ot_program.specs.Programs.{program_of}
use Rattle.ot_program.specs.declared.profile.Profile.{Profile}
use Rattle.ot_program.specs.declared.profile.Profile.TheVariants.{One, Two}

abbrev pub one : Data → Items
one a = item a no_items

abbrev pub two : Data → Data → Items
two a b = item a (one b)

abbrev pub three : Data → Data → Data → Items
three a b c = item a (two b c)

abbrev pub four : Data → Data → Data → Data → Items
four a b c d = item a (three b c d)

abbrev pub num : ℕ → Data
num n = number (unsigned n)

abbrev pub name_at : Arrays → ℕ → Data
name_at shape i = string (unwrap_or (option_map (λ a. a.0) (slice_get shape.arrays i)) [])

abbrev pub cell_text : Arrays → Cell → Data
cell_text shape c = array (three (string (codes "c")) (name_at shape c.array) (num c.index))

abbrev pub section_text : Arrays → Section → Data
section_text shape s = array (three (name_at shape s.array) (num s.start) (num s.len))

abbrev pub value_text : Arrays → E → Data
value_text shape (Literal n) = num n
value_text shape (CellAt c) = cell_text shape c
value_text shape (Apply o a b) = array (three (string (word o)) (value_text shape a) (value_text shape b))
value_text shape (PickFrom s e) = array (three (string (codes "pick")) (section_text shape s) (value_text shape e))

abbrev pub alone : Cell → Section
alone c = record { array = c.array; start = c.index; len = 1 }

abbrev pub cells_text : Arrays → List Cell → Items
cells_text shape [] = no_items
cells_text shape (c ∷ cs) = item (section_text shape (alone c)) (cells_text shape cs)

-- a clause of one section, its text given
abbrev pub clause_text : Profile → Mode → Data → Data
clause_text profile Reads s = array (two (string (codes "in")) s)
clause_text profile Writes s = array (two (string (codes "out")) s)
clause_text One (Folds op) s = array (two (string (codes "red")) s)
clause_text Two (Folds op) s = array (three (string (codes "red")) (string (identifier op)) s)

abbrev pub uses_text : Arrays → Profile → List Use → Items
uses_text shape profile [] = no_items
uses_text shape profile (u ∷ us) = item (clause_text profile u.mode (section_text shape (alone u.cell))) (uses_text shape profile us)

abbrev mutual
  pub statement_text : Arrays → Profile → S → Data
  statement_text shape profile (Set c e) = array (three (string (codes "set")) (cell_text shape c) (value_text shape e))
  statement_text shape One (Fold op c e) = array (three (string (codes "add")) (cell_text shape c) (value_text shape e))
  statement_text shape Two (Fold op c e) = array (four (string (codes "fold")) (string (identifier op)) (cell_text shape c) (value_text shape e))
  statement_text shape profile (If e a b) =
      array (four (string (codes "if")) (value_text shape e) (array (body_text shape profile a)) (array (body_text shape profile b)))
  statement_text shape profile (Task us b) =
      array (three (string (codes "task")) (array (uses_text shape profile us)) (array (body_text shape profile b)))
  statement_text shape profile (Wait None) = array (one (string (codes "wait")))
  statement_text shape profile (Wait (Some us)) = array (two (string (codes "wait")) (array (uses_text shape Two us)))
  statement_text shape One (Group op cs b) =
      array (three (string (codes "group")) (array (cells_text shape cs)) (array (body_text shape One b)))
  statement_text shape Two (Group op cs b) =
      array (four (string (codes "group")) (string (identifier op)) (array (cells_text shape cs)) (array (body_text shape Two b)))

  pub body_text : Arrays → Profile → Body → Items
  body_text shape profile End = no_items
  body_text shape profile (Next s rest) = item (statement_text shape profile s) (body_text shape profile rest)

abbrev pub sections_text : Arrays → List Section → Items
sections_text shape [] = no_items
sections_text shape (s ∷ ss) = item (section_text shape s) (sections_text shape ss)

abbrev pub program_word : Profile → List ℕ
program_word One = codes "program"
program_word Two = codes "program2"

abbrev pub program_text : Arrays → Profile → List Section → Body → Data
program_text shape profile shows b =
    array (three (string (program_word profile)) (array (sections_text shape shows)) (array (body_text shape profile b)))

-- ---- what can be printed: arrays that are found by their names, numbers of 64 bits, and in profile 1 folds by `+` and
-- waits without clauses alone

abbrev pub IsFound : Arrays → ℕ → Type 0
IsFound shape i = position_of shape (name_at shape i) ≡ i

abbrev pub IsCell : Arrays → Cell → Type 0
IsCell shape c = IsFound shape c.array × (c.index < 2 ^ 64)

abbrev pub IsValue : Arrays → E → Type 0
IsValue shape (Literal n) = n < 2 ^ 64
IsValue shape (CellAt c) = IsCell shape c
IsValue shape (Apply o a b) = IsValue shape a × IsValue shape b
IsValue shape (PickFrom s e) = IsFound shape s.array × (s.start < 2 ^ 64) × (s.len < 2 ^ 64) × IsValue shape e

abbrev pub AreCells : Arrays → List Cell → Type 0
AreCells shape [] = Unit {0}
AreCells shape (c ∷ cs) = IsCell shape c × AreCells shape cs

abbrev pub as_clause : Use → Clause
as_clause u = record { mode = u.mode; section = alone u.cell }

abbrev pub IsFoldOf : Profile → Operation → Type 0
IsFoldOf One op = op ≡ by.Plus
IsFoldOf Two op = Unit {0}

abbrev pub IsModeOf : Profile → Mode → Type 0
IsModeOf profile Reads = Unit {0}
IsModeOf profile Writes = Unit {0}
IsModeOf profile (Folds op) = IsFoldOf profile op

abbrev pub AreUsesOf : Arrays → Profile → List Use → Type 0
AreUsesOf shape profile [] = Unit {0}
AreUsesOf shape profile (u ∷ us) = IsCell shape u.cell × IsModeOf profile u.mode × AreUsesOf shape profile us

-- the uses are in order, each cell once: so a clause for each declares them
abbrev pub AreUses : Arrays → Profile → List Use → Type 0
AreUses shape profile us = AreUsesOf shape profile us × (uses (map as_clause us) ≡ us)

-- a wait with clauses is one of profile 2, and no clause of it folds
abbrev pub IsWaitMode : Mode → Type 0
IsWaitMode (Folds op) = ⊥
IsWaitMode mode = Unit {0}

abbrev pub AreWaitUses : Arrays → List Use → Type 0
AreWaitUses shape [] = Unit {0}
AreWaitUses shape (u ∷ us) = IsCell shape u.cell × IsWaitMode u.mode × AreWaitUses shape us

abbrev pub IsWait : Arrays → Profile → Option (List Use) → Type 0
IsWait shape profile None = Unit {0}
IsWait shape One (Some us) = ⊥
IsWait shape Two (Some us) = AreWaitUses shape us × (uses (map as_clause us) ≡ us)

abbrev mutual
  pub IsStatement : Arrays → Profile → S → Type 0
  IsStatement shape profile (Set c e) = IsCell shape c × IsValue shape e
  IsStatement shape profile (Fold op c e) = IsFoldOf profile op × IsCell shape c × IsValue shape e
  IsStatement shape profile (If e a b) = IsValue shape e × IsBody shape profile a × IsBody shape profile b
  IsStatement shape profile (Task us b) = AreUses shape profile us × IsBody shape profile b
  IsStatement shape profile (Wait w) = IsWait shape profile w
  IsStatement shape profile (Group op cs b) = IsFoldOf profile op × AreCells shape cs × IsBody shape profile b

  pub IsBody : Arrays → Profile → Body → Type 0
  IsBody shape profile End = Unit {0}
  IsBody shape profile (Next s rest) = IsStatement shape profile s × IsBody shape profile rest

abbrev pub PrintedReadsAsItself : Type 0
PrintedReadsAsItself =
    (shape : Arrays) (profile : Profile) (level : ℕ) (variables : Bindings) (b : Body) → IsBody shape profile b
    → body_of (statements_of shape (copies profile level (array (body_text shape profile b)) variables)) ≡ b

-- arrays with names, and lengths of 32 bits
pub record AreNamed (arrays : List (List ℕ × ℕ)) : Type 0 where
  pub names : All (λ a. is_name a.0 ≡ true) arrays
  pub lengths : AreShort arrays

-- what can be shown: sections of arrays that are found by their names
abbrev pub AreShows : Arrays → List Section → Type 0
AreShows shape shows = All (λ s. IsFound shape s.array × FitsShape (array_lengths shape) s) shows

-- What is printed of a tree whose cells are there, and that is within the limits, is accepted: no fault is told.
abbrev pub PrintedIsAccepted : Type 0
PrintedIsAccepted =
    (shape : Arrays) (profile : Profile) (shows : List Section) (b : Body) → AreNamed shape.arrays → AreShows shape shows
    → IsBody shape profile b → NamedIn (array_lengths shape) b → IsSmall shape.tasks shows b
    → program_of shape (program_text shape profile shows b)
    ≡ Ok (record { shows = shows; body = b; statements = size b; tasks = tasks_in b })
