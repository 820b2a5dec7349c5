-- The statements of a text as copies, of the body of a `for` one for each turn; their order; and the tree that they
-- are (docs/LANGUAGE.md, "Forms", on statements and loops).
use Rattle.std.specs.Prelude.{ℕ, zero, suc, ◌+◌, ◌-◌, List, [], ◌∷◌, ◌++◌, map, flat_map, ◌&&◌, if◌then◌else◌, Some, None, codes}
use Rattle.serde_json.specs.Data.{Data, array, Items, no_items, item}
use Rattle.ot_model.specs.Programs.{Arrays}
use Rattle.ot_model.specs.Tree.{S, Set, Fold, If, Task, Wait, Group, body_of, cells_of}
use Rattle.ot_model.specs.declared.fold.Fold.TheVariants.{Plus}
use Rattle.ot_program.specs.Meanings.{uses, items, letters, operation, Bindings, size, cell, section, value, clause, wait_clause, is_word, is_one, is_two}
use Rattle.ot_program.specs.declared.profile.Profile.{Profile}

-- a statement's own parts as they stand in the text, its bodies among them, and of a `task` the profile by which its clauses
-- are read; one turn of a `for`; or what has no form
pub data Text : Type 0 where
  SetText : (cell value : Data) → Text
  AddText : (cell value : Data) → Text
  FoldText : (op cell value : Data) → Text
  IfText : (condition one two : Data) → Text
  ForText : (variable first behind body : Data) → Text
  Turn : Text
  TaskText : Profile → (clauses body : Data) → Text
  WaitText : Text
  WaitForText : (clauses : Data) → Text
  GroupText : (sections body : Data) → Text
  GroupByText : (op sections body : Data) → Text
  ProgramText : (shows body : Data) → Text
  NoForm : Text

-- a statement in its place: how many bodies it stands in, and the variables around it
pub record Placed : Type 0 where
  pub level : ℕ
  pub variables : Bindings
  pub text : Text

-- copies of statements, each with its bodies; a `for` has its turns in the place of its first body
mutual
  pub data Copy : Type 0 where
    At : Placed → Copies → Copies → Copy

  pub data Copies : Type 0 where
    Done : Copies
    Then : Copy → Copies → Copies

abbrev pub at : ℕ → Bindings → Text → Copies → Copies → Copy
at level variables text one two = At (record { level = level; variables = variables; text = text }) one two

-- a copy of a body for each of so many numbers from the first on
abbrev pub turns : ℕ → Bindings → (ℕ → Copies) → ℕ → ℕ → Copies
turns level variables body first zero = Done
turns level variables body first (suc more) =
    Then (at level variables Turn (body first) Done) (turns level variables body (suc first) more)

unfoldable mutual
  -- `[statement, ..]`
  pub copies : Profile → ℕ → Data → Bindings → Copies
  copies profile level (array ds) variables = copies_of profile level ds variables
  copies profile level _ variables = Then (at level variables NoForm Done Done) Done

  pub copies_of : Profile → ℕ → Items → Bindings → Copies
  copies_of profile level no_items variables = Done
  copies_of profile level (item d ds) variables = Then (copy profile level d variables) (copies_of profile level ds variables)

  -- `["wait"]`, `["set", cell, value]`, `["add", cell, value]`, `["task", [clause, ..], body]`,
  -- `["if", value, body, body]` and `["for", variable, size, size, body]`; in profile 1 `["group", [section, ..], body]`,
  -- in profile 2 `["wait", [clause, ..]]`, `["fold", op, cell, value]` and `["group", op, [section, ..], body]`
  pub copy : Profile → ℕ → Data → Bindings → Copy
  copy profile level (array (item t no_items)) variables =
      if is_word t (codes "wait") then at level variables WaitText Done Done else
      at level variables NoForm Done Done
  copy profile level (array (item t (item a no_items))) variables =
      if is_two profile && is_word t (codes "wait") then at level variables (WaitForText a) Done Done else
      at level variables NoForm Done Done
  copy profile level (array (item t (item a (item b no_items)))) variables =
      if is_word t (codes "set") then at level variables (SetText a b) Done Done else
      (if is_word t (codes "add") then at level variables (AddText a b) Done Done else
      (if is_word t (codes "task") then at level variables (TaskText profile a b) (copies profile (level + 1) b variables) Done else
      (if is_one profile && is_word t (codes "group")
      then at level variables (GroupText a b) (copies profile (level + 1) b variables) Done else
      at level variables NoForm Done Done)))
  copy profile level (array (item t (item a (item b (item c no_items))))) variables =
      if is_two profile && is_word t (codes "fold") then at level variables (FoldText a b c) Done Done else
      (if is_two profile && is_word t (codes "group")
      then at level variables (GroupByText a b c) (copies profile (level + 1) c variables) Done else
      (if is_word t (codes "if")
      then at level variables (IfText a b c) (copies profile (level + 1) b variables) (copies profile (level + 1) c variables) else
      at level variables NoForm Done Done))
  copy profile level (array (item t (item a (item b (item c (item d no_items)))))) variables =
      if is_word t (codes "for")
      then at level variables (ForText a b c d) (turns level variables (λ n. copies profile (level + 1) d ((letters a, n) ∷ variables))
      (size variables b) (size variables c - size variables b)) Done
      else at level variables NoForm Done Done
  copy profile level _ variables = at level variables NoForm Done Done

-- Expanded order: a statement before its bodies, and the first body before the second.
abbrev mutual
  pub in_copy : Copy → List Placed
  in_copy (At p one two) = p ∷ (in_order one ++ in_order two)

  pub in_order : Copies → List Placed
  in_order Done = []
  in_order (Then c rest) = in_copy c ++ in_order rest

-- ---- the tree

module _ (shape : Arrays) where
  -- a statement, its bodies given; a `for` is what its turns are
  abbrev pub statement : Bindings → Text → List S → List S → List S
  statement variables (SetText a b) one two = Set (cell shape variables a) (value shape variables b) ∷ []
  statement variables (AddText a b) one two = Fold Plus (cell shape variables a) (value shape variables b) ∷ []
  statement variables (FoldText op a b) one two = Fold (operation op) (cell shape variables a) (value shape variables b) ∷ []
  statement variables (IfText a b c) one two = If (value shape variables a) (body_of one) (body_of two) ∷ []
  statement variables (ForText a b c d) one two = one
  statement variables Turn one two = one
  statement variables (TaskText profile a b) one two =
      Task (uses (map (clause shape profile variables) (items a))) (body_of one) ∷ []
  statement variables WaitText one two = Wait None ∷ []
  statement variables (WaitForText a) one two = Wait (Some (uses (map (wait_clause shape variables) (items a)))) ∷ []
  statement variables (GroupText a b) one two =
      Group Plus (flat_map cells_of (map (section shape variables) (items a))) (body_of one) ∷ []
  statement variables (GroupByText op a b) one two =
      Group (operation op) (flat_map cells_of (map (section shape variables) (items a))) (body_of one) ∷ []
  statement variables (ProgramText a b) one two = one
  statement variables NoForm one two = []

  abbrev mutual
    pub statement_of : Copy → List S
    statement_of (At p one two) = statement p.variables p.text (statements_of one) (statements_of two)

    pub statements_of : Copies → List S
    statements_of Done = []
    statements_of (Then c rest) = statement_of c ++ statements_of rest
