-- Where no statement has a fault, each cell that the tree names is in the shape.
use Rattle.std.proofs.Common.{◌≡◌, ℕ, zero, suc, ◌+◌, ◌<◌, ◌≤◌, ◌^◌, Bool, true, false, cond, ◌||◌, List, [], ◌∷◌, ◌++◌, map, Option, Some, nat_le, nat_lt, nat_eq, codes, refl, sym, ap, ◌∙◌, arith}
use Rattle.std.specs.Prelude.{slice_get, find, fold, flat_map, option_map, unwrap_or, is_some, not}
use Rattle.std.specs.List.{list_any, range_with_len, AllByRecursion}
use Rattle.std.proofs.lemmas.Bool.{ltb-true, leb-true, eqb-false}
use Rattle.std.proofs.lemmas.List.Elements.{recursion_from_All, All-from_recursion}
use Rattle.std.proofs.lemmas.List.Folds.{find_at}
use Rattle.std.proofs.lemmas.Option.{slice_get-map}
use Rattle.serde_json.specs.Data.{Data, number, string, array, Items, no_items, item}
use Rattle.ot_model.specs.Cells.{same_cell, is_before}
use Rattle.ot_model.specs.Names.{IsInShape, FitsShape, AreInShape, AreDeclaredIn, ValueNamedIn, NamedIn}
use Rattle.ot_model.specs.Programs.{Arrays, AreShort, array_lengths}
use Rattle.ot_model.specs.Tree.{CellAt, Apply, PickFrom, S, body_of, cell_at, cells_of}
use Rattle.ot_model.specs.declared.expr.Cell.{Cell}
use Rattle.ot_model.specs.declared.expr.Op.TheVariants.{Plus}
use Rattle.ot_model.specs.declared.expr.Section.{Section}
use Rattle.ot_model.specs.declared.stmt.Use.{Use}
use Rattle.ot_program.specs.declared.fault.Refusal.{Refusal}
use Rattle.ot_program.specs.declared.fault.Refusal.TheVariants.{Form, UnknownArray, OutOfRange, EmptySection}
use Rattle.ot_program.specs.declared.profile.Profile.{Profile}
use Rattle.ot_program.specs.declared.profile.Profile.TheVariants.{One, Two}
use Rattle.ot_program.specs.Copies.{Text, SetText, AddText, FoldText, IfText, ForText, Turn, TaskText, WaitText, WaitForText, GroupText, GroupByText, ProgramText, NoForm, Copy, At, Copies, Done, Then, in_copy, in_order, statement, statement_of, statements_of}
use Rattle.ot_program.specs.Meanings.{cell_placed, named_cells, mode_among, uses, each, items, Bindings, size, op_of, mode_of, red_by, is_called, position_of, length_of, Clause, cell_indexed, cell, section, value, clause, wait_clause, is_word}
use Rattle.ot_program.specs.Faults.{unless, no_list, list_faults, deep, name_faults, size_faults, array_faults, indexed_faults, cell_faults, section_faults, value_faults, expression_faults, clause_faults, wait_clause_faults, fold_faults, faults_nested, text_faults}
use Rattle.ot_program.specs.Limits.{size_depth, depth_of}
use Rattle.ot_program.proofs.Tallies.{append-none, unless-none, AreClean, clean-append}

-- ---- arrays

abbrev SomeLen : Option (List ℕ × ℕ) → Type 0
SomeLen o = option_map (λ (a : List ℕ × ℕ). a.1) o ≡ Some (unwrap_or (option_map (λ (a : List ℕ × ℕ). a.1) o) 0)

some_by : (b any : Bool) (a : List ℕ × ℕ) (o : Option (List ℕ × ℕ)) → b || any ≡ true → (any ≡ true → SomeLen o) → SomeLen (cond b (Some a) o)
some_by true any a o is h = refl
some_by false any a o is h = h is

some_found : (test : List ℕ × ℕ → Bool) (arrays : List (List ℕ × ℕ)) → list_any test arrays ≡ true → SomeLen (find test arrays)
some_found test [] is = absurd cc
some_found test (a ∷ rest) is = some_by (test a) (list_any test rest) a (find test rest) is (λ k. some_found test rest k)

-- the array of a name is at its position, with its length
array_there : (shape : Arrays) (name : Data) → array_faults shape name ≡ []
    → slice_get (array_lengths shape) (position_of shape name) ≡ Some (length_of shape name)
array_there shape name clean =
    let known = unless-none (list_any (is_called name) shape.arrays) UnknownArray (append-none (name_faults name) _ clean).1 in
    slice_get-map (λ (a : List ℕ × ℕ). a.1) shape.arrays (position_of shape name)
    ∙ ap (option_map (λ (a : List ℕ × ℕ). a.1)) (sym (find_at (is_called name) shape.arrays))
    ∙ some_found (is_called name) shape.arrays known

-- ---- cells and sections

indexed_named : (shape : Arrays) (variables : Bindings) (name index : Data) → indexed_faults shape variables name index ≡ []
    → IsInShape (array_lengths shape) (cell_indexed shape variables name index)
indexed_named shape variables name index clean =
    let parts = append-none (array_faults shape name ++ size_faults variables index) _ clean in
    let array = append-none (array_faults shape name) (size_faults variables index) parts.0 in
    let test = nat_lt (size variables index) (length_of shape name) in
    let range = append-none (unless test OutOfRange) (deep (size_depth index)) parts.1 in
    record {
      len = length_of shape name;
      array = array_there shape name array.0;
      within = ltb-true (size variables index) (length_of shape name) (unless-none test OutOfRange range.0);
    }

no_faults : (c : Refusal) → c ∷ [] ≡ [] → ⊥
no_faults c is = cc

cell_named : (shape : Arrays) (variables : Bindings) (d : Data) → cell_faults shape variables d ≡ []
    → IsInShape (array_lengths shape) (cell shape variables d)
cell_named shape variables (array (item t (item a (item b no_items)))) clean =
    indexed_named shape variables a b (append-none (unless (is_word t (codes "c")) Form) (indexed_faults shape variables a b) clean).1
cell_named shape variables _ clean = absurd (no_faults Form clean)

len_short : (arrays : List (List ℕ × ℕ)) → AllByRecursion (λ a. a.1 < 2 ^ 32) arrays → (i n : ℕ)
    → slice_get (map (λ a. a.1) arrays) i ≡ Some n → n < 2 ^ 32
len_short [] h i n there = absurd cc
len_short (a ∷ rest) h zero n there = let is : a.1 ≡ n = cc in omega (arith, h.0)
len_short (a ∷ rest) h (suc i) n there = len_short rest h.1 i n there

not_true : (b : Bool) → not b ≡ true → b ≡ false
not_true true is = absurd cc
not_true false is = refl

section_named : (shape : Arrays) → AreShort shape.arrays → (variables : Bindings) (d : Data) → section_faults shape variables d ≡ []
    → FitsShape (array_lengths shape) (section shape variables d)
section_named shape short variables (array (item a (item b (item c no_items)))) clean =
    let start = size variables b in
    let len = size variables c in
    let most = length_of shape a in
    let parts = append-none (array_faults shape a ++ (size_faults variables b ++ size_faults variables c)) _ clean in
    let named = append-none (array_faults shape a) (size_faults variables b ++ size_faults variables c) parts.0 in
    let inside = nat_le (start + len) most in
    let some = not (nat_eq len 0) in
    let ends = append-none (unless inside OutOfRange ++ unless some EmptySection) (deep (size_depth b) ++ deep (size_depth c)) parts.1 in
    let two = append-none (unless inside OutOfRange) (unless some EmptySection) ends.0 in
    let there = array_there shape a named.0 in
    let below = len_short shape.arrays (recursion_from_All (λ (a : List ℕ × ℕ). a.1 < 2 ^ 32) shape.arrays short.short) (position_of shape a) most there in
    let within : start + len ≤ most = leb-true (start + len) most (unless-none inside OutOfRange two.0) in
    let not_zero = eqb-false len 0 (not_true (nat_eq len 0) (unless-none some EmptySection two.1)) in
    record { len = most; array = there; within = within; short = omega arith; some = omega (arith, not_zero) }
section_named shape short variables _ clean = absurd (no_faults Form clean)

-- what holds of each item without a fault holds of a list without one
list_named : {A : Type 0} (P : A → Type 0) (faults : Data → List Refusal) (denoted : Data → A)
    → ((d : Data) → faults d ≡ [] → P (denoted d)) → (d : Data) → list_faults faults d ≡ [] → AllByRecursion P (map denoted (items d))
list_named P faults denoted h (array ds) clean = each_named ds clean
  where
    each_named : (ds : Items) → flat_map faults (each ds) ≡ [] → AllByRecursion P (map denoted (each ds))
    each_named no_items clean = tt
    each_named (item d ds) clean = let both = append-none (faults d) (flat_map faults (each ds)) clean in (h d both.0, each_named ds both.1)
list_named P faults denoted h _ clean = tt

-- ---- the cells of sections

cells_from_named : (lens : List ℕ) (s : Section) (len : ℕ) → slice_get lens s.array ≡ Some len → s.start + s.len ≤ len → (i many : ℕ)
    → i + many ≤ s.len → AllByRecursion (IsInShape lens) (map (cell_at s) (range_with_len i many))
cells_from_named lens s len there within i zero below = tt
cells_from_named lens s len there within i (suc more) below =
    (record { len = len; array = there; within = omega arith }, cells_from_named lens s len there within (i + 1) more (omega arith))

cells_named : (lens : List ℕ) (s : Section) → FitsShape lens s → AllByRecursion (IsInShape lens) (cells_of s)
cells_named lens s h = cells_from_named lens s h.len h.array h.within 0 s.len (omega arith)

all_append : {A : Type 0} (P : A → Type 0) (xs ys : List A) → AllByRecursion P xs → AllByRecursion P ys → AllByRecursion P (xs ++ ys)
all_append P [] ys h k = k
all_append P (x ∷ xs) ys h k = (h.0, all_append P xs ys h.1 k)

all_cells_named : {A : Type 0} (lens : List ℕ) (of : A → Section) (xs : List A) → AllByRecursion (λ x. FitsShape lens (of x)) xs
    → AllByRecursion (IsInShape lens) (flat_map (λ x. cells_of (of x)) xs)
all_cells_named lens of [] h = tt
all_cells_named lens of (x ∷ xs) h =
    all_append (IsInShape lens) (cells_of (of x)) (flat_map (λ y. cells_of (of y)) xs) (cells_named lens (of x) h.0) (all_cells_named lens of xs h.1)

-- ---- declarations

all_if : {A : Type 0} (P : A → Type 0) (b : Bool) (xs ys : List A) → AllByRecursion P xs → AllByRecursion P ys → AllByRecursion P (cond b xs ys)
all_if P true xs ys h k = h
all_if P false xs ys h k = k

placed_named : (lens : List ℕ) (cells : List Cell) (c : Cell) → AllByRecursion (IsInShape lens) cells → IsInShape lens c
    → AllByRecursion (IsInShape lens) (cell_placed cells c)
placed_named lens [] c h k = (k, tt)
placed_named lens (d ∷ ds) c h k =
    all_if (IsInShape lens) (is_before c d) (c ∷ d ∷ ds) (cond (same_cell c d) (d ∷ ds) (d ∷ cell_placed ds c)) (k, h)
    (all_if (IsInShape lens) (same_cell c d) (d ∷ ds) (d ∷ cell_placed ds c) h (h.0, placed_named lens ds c h.1 k))

all_placed_named : (lens : List ℕ) (cells more : List Cell) → AllByRecursion (IsInShape lens) cells → AllByRecursion (IsInShape lens) more
    → AllByRecursion (IsInShape lens) (fold cell_placed cells more)
all_placed_named lens cells [] h k = h
all_placed_named lens cells (c ∷ cs) h k = all_placed_named lens (cell_placed cells c) cs (placed_named lens cells c h k.0) k.1

uses_of_named : (lens : List ℕ) (clauses : List Clause) (cells : List Cell) → AllByRecursion (IsInShape lens) cells
    → AllByRecursion (λ (u : Use). IsInShape lens u.cell) (map (λ c. record { cell = c; mode = mode_among clauses c }) cells)
uses_of_named lens clauses [] h = tt
uses_of_named lens clauses (c ∷ cs) h = (h.0, uses_of_named lens clauses cs h.1)

uses_named : (lens : List ℕ) (clauses : List Clause) → AllByRecursion (λ c. FitsShape lens c.section) clauses → AreDeclaredIn lens (uses clauses)
uses_named lens clauses h =
    All-from_recursion (λ (u : Use). IsInShape lens u.cell) (uses clauses)
    (uses_of_named lens clauses (named_cells clauses)
    (all_placed_named lens [] (flat_map (λ clause. cells_of clause.section) clauses) tt (all_cells_named lens (λ c. c.section) clauses h)))

-- ---- values and clauses

value_named : (shape : Arrays) → AreShort shape.arrays → (variables : Bindings) (d : Data) → value_faults shape variables d ≡ []
    → ValueNamedIn (array_lengths shape) (value shape variables d)
unfolding value value_faults
value_named shape short variables (number n) clean = tt
value_named shape short variables (string s) clean = tt
value_named shape short variables (array (item t (item a (item b no_items)))) clean =
    by (is_word t (codes "c")) (is_word t (codes "pick")) clean (λ h. value_named shape short variables a h) (λ h. value_named shape short variables b h)
  where
    by : (c p : Bool)
        → cond c (indexed_faults shape variables a b) (cond p (section_faults shape variables a ++ value_faults shape variables b)
        (unless (is_some (op_of t)) Form ++ (value_faults shape variables a ++ value_faults shape variables b))) ≡ []
        → (value_faults shape variables a ≡ [] → ValueNamedIn (array_lengths shape) (value shape variables a))
        → (value_faults shape variables b ≡ [] → ValueNamedIn (array_lengths shape) (value shape variables b))
        → ValueNamedIn (array_lengths shape) (cond c (CellAt (cell_indexed shape variables a b)) (cond p (PickFrom (section shape variables a) (value shape variables b))
        (Apply (unwrap_or (op_of t) Plus) (value shape variables a) (value shape variables b))))
    by true p clean one two = indexed_named shape variables a b clean
    by false true clean one two =
        let both = append-none (section_faults shape variables a) (value_faults shape variables b) clean in
        (section_named shape short variables a both.0, two both.1)
    by false false clean one two =
        let sides = append-none (unless (is_some (op_of t)) Form) (value_faults shape variables a ++ value_faults shape variables b) clean in
        let both = append-none (value_faults shape variables a) (value_faults shape variables b) sides.1 in
        (one both.0, two both.1)
value_named shape short variables _ clean = tt

expression_named : (shape : Arrays) → AreShort shape.arrays → (variables : Bindings) (d : Data) → expression_faults shape variables d ≡ []
    → ValueNamedIn (array_lengths shape) (value shape variables d)
expression_named shape short variables d clean =
    value_named shape short variables d (append-none (value_faults shape variables d) (deep (depth_of (value shape variables d))) clean).0

clause_named : (shape : Arrays) → AreShort shape.arrays → (profile : Profile) (variables : Bindings) (d : Data) → clause_faults shape profile variables d ≡ []
    → FitsShape (array_lengths shape) (clause shape profile variables d).section
clause_named shape short profile variables (array (item t (item a no_items))) clean =
    section_named shape short variables a (append-none (unless (is_some (mode_of profile t)) Form) (section_faults shape variables a) clean).1
clause_named shape short Two variables (array (item t (item op (item a no_items)))) clean =
    section_named shape short variables a (append-none (unless (is_some (red_by t op)) Form) (section_faults shape variables a) clean).1
clause_named shape short One variables _ clean = absurd (no_faults Form clean)
clause_named shape short Two variables _ clean = absurd (no_faults Form clean)

pub sections_named : (shape : Arrays) → AreShort shape.arrays → (variables : Bindings) (d : Data) → list_faults (section_faults shape variables) d ≡ []
    → AllByRecursion (FitsShape (array_lengths shape)) (map (section shape variables) (items d))
sections_named shape short variables d clean =
    list_named (FitsShape (array_lengths shape)) (section_faults shape variables) (section shape variables) (section_named shape short variables) d clean

pub clauses_named : (shape : Arrays) → AreShort shape.arrays → (profile : Profile) (variables : Bindings) (d : Data) → list_faults (clause_faults shape profile variables) d ≡ []
    → AllByRecursion (λ c. FitsShape (array_lengths shape) c.section) (map (clause shape profile variables) (items d))
clauses_named shape short profile variables d clean =
    list_named (λ (c : Clause). FitsShape (array_lengths shape) c.section) (clause_faults shape profile variables) (clause shape profile variables)
    (clause_named shape short profile variables) d clean

wait_clause_named : (shape : Arrays) → AreShort shape.arrays → (variables : Bindings) (d : Data) → wait_clause_faults shape variables d ≡ []
    → FitsShape (array_lengths shape) (wait_clause shape variables d).section
wait_clause_named shape short variables (array (item t (item a no_items))) clean =
    section_named shape short variables a (append-none (unless (is_some (mode_of Two t)) Form) (section_faults shape variables a) clean).1
wait_clause_named shape short variables _ clean = absurd (no_faults Form clean)

pub wait_clauses_named : (shape : Arrays) → AreShort shape.arrays → (variables : Bindings) (d : Data) → list_faults (wait_clause_faults shape variables) d ≡ []
    → AllByRecursion (λ c. FitsShape (array_lengths shape) c.section) (map (wait_clause shape variables) (items d))
wait_clauses_named shape short variables d clean =
    list_named (λ (c : Clause). FitsShape (array_lengths shape) c.section) (wait_clause_faults shape variables) (wait_clause shape variables)
    (wait_clause_named shape short variables) d clean

-- ---- statements

NamedIn-append : (lens : List ℕ) (xs ys : List S) → NamedIn lens (body_of xs) → NamedIn lens (body_of ys)
    → NamedIn lens (body_of (xs ++ ys))
NamedIn-append lens [] ys h k = k
NamedIn-append lens (x ∷ xs) ys h k = (h.0, NamedIn-append lens xs ys h.1 k)

-- the cells of a group
grouped_named : (shape : Arrays) → AreShort shape.arrays → (level : ℕ) (variables : Bindings) (a b : Data)
    → (list_faults (section_faults shape variables) a ++ no_list b) ++ faults_nested level ≡ []
    → AreInShape (array_lengths shape) (flat_map cells_of (map (section shape variables) (items a)))
grouped_named shape short level variables a b clean =
    let lens = array_lengths shape in
    let parts = append-none (list_faults (section_faults shape variables) a ++ no_list b) (faults_nested level) clean in
    let list = append-none (list_faults (section_faults shape variables) a) (no_list b) parts.0 in
    let sections = map (section shape variables) (items a) in
    All-from_recursion (IsInShape lens) (flat_map cells_of sections)
    (all_cells_named lens (λ (s : Section). s) sections (sections_named shape short variables a list.0))

statement_named : (shape : Arrays) → AreShort shape.arrays → (level : ℕ) (variables : Bindings) (text : Text) (ss ts : List S)
    → text_faults shape level variables text ≡ [] → NamedIn (array_lengths shape) (body_of ss) → NamedIn (array_lengths shape) (body_of ts)
    → NamedIn (array_lengths shape) (body_of (statement shape variables text ss ts))
statement_named shape short level variables (SetText a b) ss ts clean h k =
    let both = append-none (cell_faults shape variables a) (expression_faults shape variables b) clean in
    ((cell_named shape variables a both.0, expression_named shape short variables b both.1), tt)
statement_named shape short level variables (AddText a b) ss ts clean h k =
    let both = append-none (cell_faults shape variables a) (expression_faults shape variables b) clean in
    ((cell_named shape variables a both.0, expression_named shape short variables b both.1), tt)
statement_named shape short level variables (FoldText op a b) ss ts clean h k =
    let parts = append-none (fold_faults op) (cell_faults shape variables a ++ expression_faults shape variables b) clean in
    let both = append-none (cell_faults shape variables a) (expression_faults shape variables b) parts.1 in
    ((cell_named shape variables a both.0, expression_named shape short variables b both.1), tt)
statement_named shape short level variables (IfText a b c) ss ts clean h k =
    let parts = append-none (expression_faults shape variables a ++ (no_list b ++ no_list c)) (faults_nested level) clean in
    let value = append-none (expression_faults shape variables a) (no_list b ++ no_list c) parts.0 in
    ((expression_named shape short variables a value.0, h, k), tt)
statement_named shape short level variables (ForText a b c d) ss ts clean h k = h
statement_named shape short level variables Turn ss ts clean h k = h
statement_named shape short level variables (TaskText profile a b) ss ts clean h k =
    let parts = append-none (list_faults (clause_faults shape profile variables) a ++ no_list b) _ clean in
    let list = append-none (list_faults (clause_faults shape profile variables) a) (no_list b) parts.0 in
    let cs = map (clause shape profile variables) (items a) in
    ((uses_named (array_lengths shape) cs (clauses_named shape short profile variables a list.0), h), tt)
statement_named shape short level variables WaitText ss ts clean h k = (tt, tt)
statement_named shape short level variables (WaitForText a) ss ts clean h k =
    (uses_named (array_lengths shape) (map (wait_clause shape variables) (items a)) (wait_clauses_named shape short variables a clean), tt)
statement_named shape short level variables (GroupText a b) ss ts clean h k =
    ((grouped_named shape short level variables a b clean, h), tt)
statement_named shape short level variables (GroupByText op a b) ss ts clean h k =
    let parts = append-none (fold_faults op) ((list_faults (section_faults shape variables) a ++ no_list b) ++ faults_nested level) clean in
    ((grouped_named shape short level variables a b parts.1, h), tt)
statement_named shape short level variables (ProgramText a b) ss ts clean h k = h
statement_named shape short level variables NoForm ss ts clean h k = tt

mutual
  pub copy_named : (shape : Arrays) → AreShort shape.arrays → (c : Copy) → AreClean shape (in_copy c)
      → NamedIn (array_lengths shape) (body_of (statement_of shape c))
  copy_named shape short (At p one two) clean =
      let inside = clean-append shape (in_order one) (in_order two) clean.1 in
      statement_named shape short p.level p.variables p.text (statements_of shape one) (statements_of shape two) clean.0
      (copies_named shape short one inside.0) (copies_named shape short two inside.1)

  pub copies_named : (shape : Arrays) → AreShort shape.arrays → (cs : Copies) → AreClean shape (in_order cs)
      → NamedIn (array_lengths shape) (body_of (statements_of shape cs))
  copies_named shape short Done clean = tt
  copies_named shape short (Then c rest) clean =
      let both = clean-append shape (in_copy c) (in_order rest) clean in
      NamedIn-append (array_lengths shape) (statement_of shape c) (statements_of shape rest) (copy_named shape short c both.0)
      (copies_named shape short rest both.1)
