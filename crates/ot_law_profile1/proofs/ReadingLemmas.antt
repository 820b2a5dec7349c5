-- A text of the first profile reads as it did.
use Rattle.std.proofs.Common.{◌≡◌, ℕ, zero, suc, ◌+◌, ◌-◌, ◌++◌, Bool, true, false, cond, not, ◌&&◌, ◌||◌, List, [], ◌∷◌, map, Option, Some, None, Result, Err, codes, refl, sym, ap, ◌∙◌, true≢false}
use Rattle.std.specs.Prelude.{bytes_eq, flat_map, fold, is_some, unwrap_or, option_map}
use Rattle.std.specs.List.{list_any}
use Rattle.std.specs.Option.{option_or}
use Rattle.std.proofs.lemmas.List.{map-append}
use Rattle.std.proofs.lemmas.Slice.Eq.{bytes_eq-Decides}
use Rattle.serde_json.specs.Data.{Data, string, array, Items, no_items, item}
use Rattle.ot_model.specs.Cells.{same_cell, is_fold, same_mode}
use Rattle.ot_model.specs.Tree.{size, tasks_in, Next, If, Task, Group, body_of, cells_of}
use Rattle.ot_model.specs.Programs.{Arrays}
use Rattle.ot_model.specs.declared.expr.Cell.{Cell}
use Rattle.ot_model.specs.declared.expr.Section.{Section}
use Rattle.ot_model.specs.declared.fold.Fold.{Fold}
use Rattle.ot_model.specs.declared.fold.Fold.TheVariants.{Plus}
use Rattle.ot_model.specs.declared.stmt.Mode.TheVariants.{Reads, Writes, Folds}
use Rattle.ot_law_profile1.specs.Tree.{Mode1, Reads1, Writes1, Adds1, same_mode1, S1, body_of1, size1, Expanded1}
use Rattle.ot_law_profile1.specs.Upward.{up_mode, up_use, up_uses, up_one, up, up_program, up_read, ReadingIsKept, FirstIsNotSecond}
use Rattle.ot_law_profile1.proofs.SerialLemmas.{any-map, any-same, size-up, tasks_in-up}
use Rattle.ot_program.specs.Copies.{Text, SetText, AddText, IfText, ForText, Turn, TaskText, WaitText, GroupText, ProgramText, NoForm, Placed, Copy, Copies, At, Done, Then, at, turns, copies, copies_of, copy, in_copy, in_order, statement, statement_of, statements_of}
use Rattle.ot_program.specs.Meanings.{names, named_cells, named_as, operation_in, first_fold, mode_among, named_otherwise, is_mixed, uses, cell_placed, items, letters, Bindings, size as size_of, section, value, mode_of, Clause, clause, is_word}
use Rattle.ot_program.specs.Faults.{unless, no_list, list_faults, clause_faults, section_faults, faults_mixed, faults_nested, text_faults, past_limits}
use Rattle.ot_program.specs.Limits.{cells_in, tally, plus, own_tally, total}
use Rattle.ot_program.specs.Programs.{foremost, told_or, faults_behind, fault_told, expansion, program_copy, program_in}
use Rattle.ot_program.specs.declared.fault.Refusal.{Refusal}
use Rattle.ot_program.specs.declared.fault.Refusal.TheVariants.{Form, MixedReduction}
use Rattle.ot_law_profile1.proofs.Profiles.{One, Two}
use Rattle.ot_law_profile1.specs.Copies.{Text1, SetText1, AddText1, IfText1, ForText1, Turn1, TaskText1, WaitText1, GroupText1, ProgramText1, NoForm1, Placed1, Copy1, Copies1, At1, Done1, Then1, at1, turns1, copies1, copies_of1, copy1, in_copy1, in_order1, statement1, statement_of1, statements_of1, mode_of1, Clause1, clause1, named_cells1, named_as1, mode_among1, is_mixed1, uses1}
use Rattle.ot_law_profile1.specs.Programs.{clause_faults1, mixed1, text_faults1, own_faults1, own_tally1, total1, faults_behind1, told1, expansion1, program_copy1}

-- ---- lists and tests

or-turned : (a b c d : Bool) → ((a || b) || (c || d)) ≡ ((a || c) || (b || d))
or-turned true b c d = refl
or-turned false true true d = refl
or-turned false true false d = refl
or-turned false false c d = refl

and-out : (a b c : Bool) → ((a && c) || (b && c)) ≡ ((a || b) && c)
and-out true true true = refl
and-out true true false = refl
and-out true false true = refl
and-out true false false = refl
and-out false b c = refl

any-either : {A : Type 0} (p q : A → Bool) (xs : List A) → list_any (λ x. p x || q x) xs ≡ (list_any p xs || list_any q xs)
any-either p q [] = refl
any-either p q (x ∷ xs) = ap (λ w. (p x || q x) || w) (any-either p q xs) ∙ or-turned (p x) (q x) (list_any p xs) (list_any q xs)

any-and : {A : Type 0} (p : A → Bool) (a : Bool) (xs : List A) → list_any (λ x. p x && a) xs ≡ (list_any p xs && a)
any-and p a [] = refl
any-and p a (x ∷ xs) = ap (λ w. (p x && a) || w) (any-and p a xs) ∙ and-out (p x) (list_any p xs) a

map-same : {A B : Type 0} (f g : A → B) → ((x : A) → f x ≡ g x) → (xs : List A) → map f xs ≡ map g xs
map-same f g h [] = refl
map-same f g h (x ∷ xs) = ap (λ y. y ∷ map f xs) (h x) ∙ ap (λ ys. g x ∷ ys) (map-same f g h xs)

map-map : {A B C : Type 0} (f : A → B) (g : B → C) (xs : List A) → map g (map f xs) ≡ map (λ x. g (f x)) xs
map-map f g [] = refl
map-map f g (x ∷ xs) = ap (λ ys. g (f x) ∷ ys) (map-map f g xs)

flat-map : {A B C : Type 0} (f : A → B) (g : B → List C) (xs : List A) → flat_map g (map f xs) ≡ flat_map (λ x. g (f x)) xs
flat-map f g [] = refl
flat-map f g (x ∷ xs) = ap (λ ys. g (f x) ++ ys) (flat-map f g xs)

flat-same : {A B : Type 0} (f g : A → List B) → ((x : A) → f x ≡ g x) → (xs : List A) → flat_map f xs ≡ flat_map g xs
flat-same f g h [] = refl
flat-same f g h (x ∷ xs) = ap (λ y. y ++ flat_map f xs) (h x) ∙ ap (λ ys. g x ++ ys) (flat-same f g h xs)

-- a choice between two that are each an image is the image of the choice
chosen : {A B : Type 0} (f : A → B) (w : Bool) (x y : B) (z v : A) → x ≡ f z → y ≡ f v → cond w x y ≡ f (cond w z v)
chosen f true x y z v h g = h
chosen f false x y z v h g = g

-- ---- clauses

abbrev up_clause : Clause1 → Clause
up_clause c = record { mode = up_mode c.mode; section = c.section }

mode-up : (t : Data) → mode_of One t ≡ option_map up_mode (mode_of1 t)
mode-up t =
    chosen (option_map up_mode) (is_word t (codes "in")) (Some Reads) _ (Some Reads1) _ refl
    (chosen (option_map up_mode) (is_word t (codes "out")) (Some Writes) _ (Some Writes1) _ refl
    (chosen (option_map up_mode) (is_word t (codes "inout")) (Some Writes) _ (Some Writes1) _ refl
    (chosen (option_map up_mode) (is_word t (codes "red")) (Some (Folds Plus)) None (Some Adds1) None refl refl)))

some-up : (m : Option Mode1) → is_some (option_map up_mode m) ≡ is_some m
some-up None = refl
some-up (Some m) = refl

or_reads-up : (m : Option Mode1) → unwrap_or (option_map up_mode m) Reads ≡ up_mode (unwrap_or m Reads1)
or_reads-up None = refl
or_reads-up (Some m) = refl

clause-up : (shape : Arrays) (variables : Bindings) (d : Data) → clause shape One variables d ≡ up_clause (clause1 shape variables d)
clause-up shape variables (array (item t (item a no_items))) =
    ap (λ m. record { mode = m; section = section shape variables a }) (ap (λ m. unwrap_or m Reads) (mode-up t) ∙ or_reads-up (mode_of1 t))
clause-up shape variables _ = refl

clauses-up : (shape : Arrays) (variables : Bindings) (d : Data) → map (clause shape One variables) (items d) ≡ map up_clause (map (clause1 shape variables) (items d))
clauses-up shape variables d =
    map-same (clause shape One variables) (λ e. up_clause (clause1 shape variables e)) (clause-up shape variables) (items d) ∙ sym (map-map (clause1 shape variables) up_clause (items d))

clause_faults-up : (shape : Arrays) (variables : Bindings) (d : Data) → clause_faults shape One variables d ≡ clause_faults1 shape variables d
clause_faults-up shape variables (array (item t (item a no_items))) =
    ap (λ w. unless w Form ++ section_faults shape variables a) (ap is_some (mode-up t) ∙ some-up (mode_of1 t))
clause_faults-up shape variables _ = refl

sections-up : (cs : List Clause1) → map (λ c. c.section) (map up_clause cs) ≡ map (λ c. c.section) cs
sections-up cs = map-map up_clause (λ c. c.section) cs

-- ---- declarations

same_mode-up : (m n : Mode1) → same_mode (up_mode m) (up_mode n) ≡ same_mode1 m n
same_mode-up Reads1 Reads1 = refl
same_mode-up Reads1 Writes1 = refl
same_mode-up Reads1 Adds1 = refl
same_mode-up Writes1 Reads1 = refl
same_mode-up Writes1 Writes1 = refl
same_mode-up Writes1 Adds1 = refl
same_mode-up Adds1 Reads1 = refl
same_mode-up Adds1 Writes1 = refl
same_mode-up Adds1 Adds1 = refl

named_cells-up : (cs : List Clause1) → named_cells (map up_clause cs) ≡ named_cells1 cs
named_cells-up cs = ap (fold cell_placed []) (flat-map up_clause (λ clause. cells_of clause.section) cs)

abbrev names1 : Cell → Clause1 → Bool
names1 c clause = list_any (same_cell c) (cells_of clause.section)

named_as-up : (m : Mode1) (cs : List Clause1) (c : Cell) → named_as (up_mode m) (map up_clause cs) c ≡ named_as1 m cs c
named_as-up m cs c =
    any-map up_clause (λ clause. names c clause && same_mode (up_mode m) clause.mode) (λ clause. names1 c clause && same_mode1 m clause.mode)
    (λ clause. ap (λ w. names1 c clause && w) (same_mode-up m clause.mode)) cs

-- all that folds, folds by `+`
fold_by-up : (w : Bool) (m : Mode1) (o : Option Fold) → unwrap_or o Plus ≡ Plus
    → unwrap_or (cond w (option_or (operation_in (up_mode m)) o) o) Plus ≡ Plus
fold_by-up true Reads1 o h = h
fold_by-up true Writes1 o h = h
fold_by-up true Adds1 o h = refl
fold_by-up false m o h = h

fold-up : (cs : List Clause1) (c : Cell) → unwrap_or (first_fold (map up_clause cs) c) Plus ≡ Plus
fold-up [] c = refl
fold-up (clause ∷ cs) c = fold_by-up (names1 c clause) clause.mode (first_fold (map up_clause cs) c) (fold-up cs c)

mode_among-up : (cs : List Clause1) (c : Cell) → mode_among (map up_clause cs) c ≡ up_mode (mode_among1 cs c)
mode_among-up cs c =
    ap (λ w. cond w Writes (cond (named_as Reads (map up_clause cs) c) Reads (Folds (unwrap_or (first_fold (map up_clause cs) c) Plus)))) (named_as-up Writes1 cs c)
    ∙ ap (λ w. cond (named_as1 Writes1 cs c) Writes (cond w Reads (Folds (unwrap_or (first_fold (map up_clause cs) c) Plus)))) (named_as-up Reads1 cs c)
    ∙ chosen up_mode (named_as1 Writes1 cs c) Writes _ Writes1 _ refl
    (chosen up_mode (named_as1 Reads1 cs c) Reads _ Reads1 Adds1 refl (ap Folds (fold-up cs c)))

uses-up : (cs : List Clause1) → uses (map up_clause cs) ≡ up_uses (uses1 cs)
uses-up cs =
    ap (map (λ c. record { cell = c; mode = mode_among (map up_clause cs) c })) (named_cells-up cs)
    ∙ map-same (λ c. record { cell = c; mode = mode_among (map up_clause cs) c }) (λ c. up_use (record { cell = c; mode = mode_among1 cs c }))
    (λ c. ap (λ m. record { cell = c; mode = m }) (mode_among-up cs c)) (named_cells1 cs)
    ∙ sym (map-map (λ c. record { cell = c; mode = mode_among1 cs c }) up_use (named_cells1 cs))

-- ---- what is mixed

abbrev named_so : Mode1 → Cell → Clause1 → Bool
named_so m c clause = names1 c clause && same_mode1 m clause.mode

otherwise_modes : (n : Mode1) (w : Bool) → (w && not (same_mode (Folds Plus) (up_mode n))) ≡ ((w && same_mode1 Writes1 n) || (w && same_mode1 Reads1 n))
otherwise_modes n false = refl
otherwise_modes Reads1 true = refl
otherwise_modes Writes1 true = refl
otherwise_modes Adds1 true = refl

otherwise-up : (cs : List Clause1) (c : Cell) → named_otherwise (Folds Plus) (map up_clause cs) c ≡ (named_as1 Writes1 cs c || named_as1 Reads1 cs c)
otherwise-up cs c =
    any-map up_clause (λ k. names c k && not (same_mode (Folds Plus) k.mode)) (λ k. named_so Writes1 c k || named_so Reads1 c k)
    (λ k. otherwise_modes k.mode (names1 c k)) cs
    ∙ any-either (named_so Writes1 c) (named_so Reads1 c) cs

mixed_modes : (cs : List Clause1) (c : Cell) (m : Mode1) (v : Bool) → (v && (is_fold (up_mode m) && named_otherwise (up_mode m) (map up_clause cs) c))
    ≡ ((v && same_mode1 Adds1 m) && (named_as1 Writes1 cs c || named_as1 Reads1 cs c))
mixed_modes cs c m false = refl
mixed_modes cs c Reads1 true = refl
mixed_modes cs c Writes1 true = refl
mixed_modes cs c Adds1 true = otherwise-up cs c

mixed-up : (cs : List Clause1) (c : Cell) → is_mixed (map up_clause cs) c ≡ is_mixed1 cs c
mixed-up cs c =
    any-map up_clause (λ k. names c k && (is_fold k.mode && named_otherwise k.mode (map up_clause cs) c)) (λ k. named_so Adds1 c k && (named_as1 Writes1 cs c || named_as1 Reads1 cs c))
    (λ k. mixed_modes cs c k.mode (names1 c k)) cs
    ∙ any-and (named_so Adds1 c) (named_as1 Writes1 cs c || named_as1 Reads1 cs c) cs

all_mixed-up : (cs : List Clause1) → faults_mixed (map up_clause cs) ≡ mixed1 cs
all_mixed-up cs =
    ap (λ w. unless (not w) MixedReduction)
    (ap (list_any (is_mixed (map up_clause cs))) (named_cells-up cs) ∙ any-same (is_mixed (map up_clause cs)) (is_mixed1 cs) (mixed-up cs) (named_cells1 cs))

-- ---- texts

abbrev up_text : Text1 → Text
up_text (SetText1 a b) = SetText a b
up_text (AddText1 a b) = AddText a b
up_text (IfText1 a b c) = IfText a b c
up_text (ForText1 a b c d) = ForText a b c d
up_text Turn1 = Turn
up_text (TaskText1 a b) = TaskText One a b
up_text WaitText1 = WaitText
up_text (GroupText1 a b) = GroupText a b
up_text (ProgramText1 a b) = ProgramText a b
up_text NoForm1 = NoForm

abbrev up_placed : Placed1 → Placed
up_placed p = record { level = p.level; variables = p.variables; text = up_text p.text }

abbrev mutual
  up_copy : Copy1 → Copy
  up_copy (At1 p one two) = At (up_placed p) (up_copies one) (up_copies two)

  up_copies : Copies1 → Copies
  up_copies Done1 = Done
  up_copies (Then1 c rest) = Then (up_copy c) (up_copies rest)

turns-up : (level : ℕ) (variables : Bindings) (body : ℕ → Copies) (old : ℕ → Copies1) → ((n : ℕ) → body n ≡ up_copies (old n)) → (first more : ℕ)
    → turns level variables body first more ≡ up_copies (turns1 level variables old first more)
turns-up level variables body old h first zero = refl
turns-up level variables body old h first (suc more) =
    ap (λ one. Then (at level variables Turn one Done) (turns level variables body (suc first) more)) (h first)
    ∙ ap (λ rest. Then (at level variables Turn (up_copies (old first)) Done) rest) (turns-up level variables body old h (suc first) more)

mutual
  unfolding copies copies1

  copies-up : (level : ℕ) (d : Data) (variables : Bindings) → copies One level d variables ≡ up_copies (copies1 level d variables)
  copies-up level (array ds) variables = copies_of-up level ds variables
  copies-up level _ variables = refl

  copies_of-up : (level : ℕ) (ds : Items) (variables : Bindings) → copies_of One level ds variables ≡ up_copies (copies_of1 level ds variables)
  copies_of-up level no_items variables = refl
  copies_of-up level (item d ds) variables =
      ap (λ c. Then c (copies_of One level ds variables)) (copy-up level d variables) ∙ ap (λ rest. Then (up_copy (copy1 level d variables)) rest) (copies_of-up level ds variables)

  copy-up : (level : ℕ) (d : Data) (variables : Bindings) → copy One level d variables ≡ up_copy (copy1 level d variables)
  copy-up level (array (item t no_items)) variables =
      chosen up_copy (is_word t (codes "wait")) (at level variables WaitText Done Done) (at level variables NoForm Done Done) (at1 level variables WaitText1 Done1 Done1) (at1 level variables NoForm1 Done1 Done1) refl refl
  copy-up level (array (item t (item a no_items))) variables = refl
  copy-up level (array (item t (item a (item b no_items)))) variables =
      let inner = copies-up (level + 1) b variables in
      let none = at1 level variables NoForm1 Done1 Done1 in
      let group = at1 level variables (GroupText1 a b) (copies1 (level + 1) b variables) Done1 in
      let task = at1 level variables (TaskText1 a b) (copies1 (level + 1) b variables) Done1 in
      let add = at1 level variables (AddText1 a b) Done1 Done1 in
      chosen up_copy (is_word t (codes "set")) (at level variables (SetText a b) Done Done) _ (at1 level variables (SetText1 a b) Done1 Done1) (cond (is_word t (codes "add")) add (cond (is_word t (codes "task")) task (cond (is_word t (codes "group")) group none))) refl
      (chosen up_copy (is_word t (codes "add")) (at level variables (AddText a b) Done Done) _ add (cond (is_word t (codes "task")) task (cond (is_word t (codes "group")) group none)) refl
      (chosen up_copy (is_word t (codes "task")) (at level variables (TaskText One a b) (copies One (level + 1) b variables) Done) _ task (cond (is_word t (codes "group")) group none)
      (ap (λ cs. at level variables (TaskText One a b) cs Done) inner)
      (chosen up_copy (is_word t (codes "group")) (at level variables (GroupText a b) (copies One (level + 1) b variables) Done) (at level variables NoForm Done Done) group none
      (ap (λ cs. at level variables (GroupText a b) cs Done) inner) refl)))
  copy-up level (array (item t (item a (item b (item c no_items))))) variables =
      chosen up_copy (is_word t (codes "if")) (at level variables (IfText a b c) (copies One (level + 1) b variables) (copies One (level + 1) c variables)) (at level variables NoForm Done Done)
      (at1 level variables (IfText1 a b c) (copies1 (level + 1) b variables) (copies1 (level + 1) c variables)) (at1 level variables NoForm1 Done1 Done1)
      (ap (λ cs. at level variables (IfText a b c) cs (copies One (level + 1) c variables)) (copies-up (level + 1) b variables)
      ∙ ap (λ cs. at level variables (IfText a b c) (up_copies (copies1 (level + 1) b variables)) cs) (copies-up (level + 1) c variables)) refl
  copy-up level (array (item t (item a (item b (item c (item d no_items)))))) variables =
      let body : ℕ → Copies = λ n. copies One (level + 1) d ((letters a, n) ∷ variables) in
      let old : ℕ → Copies1 = λ n. copies1 (level + 1) d ((letters a, n) ∷ variables) in
      let first = size_of variables b in
      let more = size_of variables c - size_of variables b in
      chosen up_copy (is_word t (codes "for")) (at level variables (ForText a b c d) (turns level variables body first more) Done) (at level variables NoForm Done Done)
      (at1 level variables (ForText1 a b c d) (turns1 level variables old first more) Done1) (at1 level variables NoForm1 Done1 Done1)
      (ap (λ cs. at level variables (ForText a b c d) cs Done) (turns-up level variables body old (λ n. copies-up (level + 1) d ((letters a, n) ∷ variables)) first more)) refl
  copy-up level _ variables = refl

mutual
  in_copy-up : (c : Copy1) → in_copy (up_copy c) ≡ map up_placed (in_copy1 c)
  in_copy-up (At1 p one two) =
      ap (λ ps. up_placed p ∷ (ps ++ in_order (up_copies two))) (in_order-up one) ∙ ap (λ ps. up_placed p ∷ (map up_placed (in_order1 one) ++ ps)) (in_order-up two)
      ∙ ap (λ ps. up_placed p ∷ ps) (sym (map-append up_placed (in_order1 one) (in_order1 two)))

  in_order-up : (cs : Copies1) → in_order (up_copies cs) ≡ map up_placed (in_order1 cs)
  in_order-up Done1 = refl
  in_order-up (Then1 c rest) =
      ap (λ ps. ps ++ in_order (up_copies rest)) (in_copy-up c) ∙ ap (λ ps. map up_placed (in_copy1 c) ++ ps) (in_order-up rest)
      ∙ sym (map-append up_placed (in_copy1 c) (in_order1 rest))

-- ---- the tree

body-up : (ss : List S1) → body_of (map up_one ss) ≡ up (body_of1 ss)
body-up [] = refl
body-up (s ∷ ss) = ap (Next (up_one s)) (body-up ss)

module _ (shape : Arrays) where
  statement-up : (variables : Bindings) (text : Text1) (one two : List S1)
      → statement shape variables (up_text text) (map up_one one) (map up_one two) ≡ map up_one (statement1 shape variables text one two)
  statement-up variables (SetText1 a b) one two = refl
  statement-up variables (AddText1 a b) one two = refl
  statement-up variables (IfText1 a b c) one two =
      ap (λ s. If (value shape variables a) s (body_of (map up_one two)) ∷ []) (body-up one) ∙ ap (λ s. If (value shape variables a) (up (body_of1 one)) s ∷ []) (body-up two)
  statement-up variables (ForText1 a b c d) one two = refl
  statement-up variables Turn1 one two = refl
  statement-up variables (TaskText1 a b) one two =
      ap (λ cs. Task (uses cs) (body_of (map up_one one)) ∷ []) (clauses-up shape variables a)
      ∙ ap (λ us. Task us (body_of (map up_one one)) ∷ []) (uses-up (map (clause1 shape variables) (items a)))
      ∙ ap (λ s. Task (up_uses (uses1 (map (clause1 shape variables) (items a)))) s ∷ []) (body-up one)
  statement-up variables WaitText1 one two = refl
  statement-up variables (GroupText1 a b) one two = ap (λ s. Group Plus (flat_map cells_of (map (section shape variables) (items a))) s ∷ []) (body-up one)
  statement-up variables (ProgramText1 a b) one two = refl
  statement-up variables NoForm1 one two = refl

  mutual
    statement_of-up : (c : Copy1) → statement_of shape (up_copy c) ≡ map up_one (statement_of1 shape c)
    statement_of-up (At1 p one two) =
        ap (λ ss. statement shape p.variables (up_text p.text) ss (statements_of shape (up_copies two))) (statements-up one)
        ∙ ap (statement shape p.variables (up_text p.text) (map up_one (statements_of1 shape one))) (statements-up two)
        ∙ statement-up p.variables p.text (statements_of1 shape one) (statements_of1 shape two)

    statements-up : (cs : Copies1) → statements_of shape (up_copies cs) ≡ map up_one (statements_of1 shape cs)
    statements-up Done1 = refl
    statements-up (Then1 c rest) =
        ap (λ ss. ss ++ statements_of shape (up_copies rest)) (statement_of-up c) ∙ ap (λ ss. map up_one (statement_of1 shape c) ++ ss) (statements-up rest)
        ∙ sym (map-append up_one (statement_of1 shape c) (statements_of1 shape rest))

  -- ---- faults and counts

  text_faults-up : (level : ℕ) (variables : Bindings) (text : Text1) → text_faults shape level variables (up_text text) ≡ text_faults1 shape level variables text
  text_faults-up level variables (SetText1 a b) = refl
  text_faults-up level variables (AddText1 a b) = refl
  text_faults-up level variables (IfText1 a b c) = refl
  text_faults-up level variables (ForText1 a b c d) = refl
  text_faults-up level variables Turn1 = refl
  text_faults-up level variables (TaskText1 a b) =
      ap (λ fs. ((no_list a ++ fs) ++ no_list b) ++ (faults_nested level ++ faults_mixed (map (clause shape One variables) (items a))))
      (flat-same (clause_faults shape One variables) (clause_faults1 shape variables) (clause_faults-up shape variables) (items a))
      ∙ ap (λ ms. (list_faults (clause_faults1 shape variables) a ++ no_list b) ++ (faults_nested level ++ ms))
      (ap faults_mixed (clauses-up shape variables a) ∙ all_mixed-up (map (clause1 shape variables) (items a)))
  text_faults-up level variables WaitText1 = refl
  text_faults-up level variables (GroupText1 a b) = refl
  text_faults-up level variables (ProgramText1 a b) = refl
  text_faults-up level variables NoForm1 = refl

  tally-up : (variables : Bindings) (text : Text1) → own_tally shape variables (up_text text) ≡ own_tally1 shape variables text
  tally-up variables (SetText1 a b) = refl
  tally-up variables (AddText1 a b) = refl
  tally-up variables (IfText1 a b c) = refl
  tally-up variables (ForText1 a b c d) = refl
  tally-up variables Turn1 = refl
  tally-up variables (TaskText1 a b) =
      ap (λ ss. tally 1 1 0 0 (cells_in ss)) (ap (map (λ c. c.section)) (clauses-up shape variables a) ∙ sections-up (map (clause1 shape variables) (items a)))
  tally-up variables WaitText1 = refl
  tally-up variables (GroupText1 a b) = refl
  tally-up variables (ProgramText1 a b) = refl
  tally-up variables NoForm1 = refl

  total-up : (ps : List Placed1) → total shape (map up_placed ps) ≡ total1 shape ps
  total-up [] = refl
  total-up (p ∷ ps) = ap (λ n. plus n (total shape (map up_placed ps))) (tally-up p.variables p.text) ∙ ap (plus (own_tally1 shape p.variables p.text)) (total-up ps)

  behind-up : (before : List Placed1) (p : Placed1) → faults_behind shape (map up_placed before) (up_placed p) ≡ faults_behind1 shape before p
  behind-up before p =
      ap (λ fs. fs ++ past_limits shape.tasks (total shape (map up_placed before ++ up_placed p ∷ []))) (text_faults-up p.level p.variables p.text)
      ∙ ap (λ n. own_faults1 shape p ++ past_limits shape.tasks n)
      (ap (total shape) (sym (map-append up_placed before (p ∷ []))) ∙ total-up (before ++ p ∷ []))

  told-up : (before rest : List Placed1) → fault_told shape (map up_placed before) (map up_placed rest) ≡ told1 shape before rest
  told-up before [] = refl
  told-up before (p ∷ rest) =
      ap (λ fs. option_or (foremost fs) (fault_told shape (map up_placed before ++ up_placed p ∷ []) (map up_placed rest))) (behind-up before p)
      ∙ ap (λ o. option_or (foremost (faults_behind1 shape before p)) o)
      (ap (λ ps. fault_told shape ps (map up_placed rest)) (sym (map-append up_placed before (p ∷ []))) ∙ told-up (before ++ p ∷ []) rest)

-- ---- programs

expansion-up : (shows : List Section) (ss : List S1) → expansion shows (map up_one ss) ≡ up_program (expansion1 shows ss)
expansion-up shows ss =
    ap (λ b. record { shows = shows; body = b; statements = size b; tasks = tasks_in b }) (body-up ss)
    ∙ ap (λ n. record { shows = shows; body = up (body_of1 ss); statements = n; tasks = tasks_in (up (body_of1 ss)) }) (size-up (body_of1 ss))
    ∙ ap (λ n. record { shows = shows; body = up (body_of1 ss); statements = size1 (body_of1 ss); tasks = n }) (tasks_in-up (body_of1 ss))

told_or-up : (x : Expanded1) (o : Option Refusal) → told_or (up_program x) o ≡ up_read (told_or x o)
told_or-up x None = refl
told_or-up x (Some c) = refl

program_copy-up : (a b : Data) → program_copy One a b ≡ up_copy (program_copy1 a b)
program_copy-up a b = ap (λ cs. at 0 [] (ProgramText a b) cs Done) (copies-up 1 b [])

program-up : (shape : Arrays) (a b : Data) → program_in shape (Some One) a b
    ≡ up_read (told_or (expansion1 (map (section shape []) (items a)) (statement_of1 shape (program_copy1 a b))) (told1 shape [] (in_copy1 (program_copy1 a b))))
program-up shape a b =
    let shows = map (section shape []) (items a) in
    let old = program_copy1 a b in
    ap (λ c. told_or (expansion shows (statement_of shape c)) (fault_told shape [] (in_copy c))) (program_copy-up a b)
    ∙ ap (λ ss. told_or (expansion shows ss) (fault_told shape [] (in_copy (up_copy old)))) (statement_of-up shape old)
    ∙ ap (λ x. told_or x (fault_told shape [] (in_copy (up_copy old)))) (expansion-up shows (statement_of1 shape old))
    ∙ ap (told_or (up_program (expansion1 shows (statement_of1 shape old)))) (ap (fault_told shape []) (in_copy-up old) ∙ told-up shape [] (in_copy1 old))
    ∙ told_or-up (expansion1 shows (statement_of1 shape old)) (told1 shape [] (in_copy1 old))

-- a text of three items whose first is no `program2`
of_three : (shape : Arrays) (a b : Data) (one two : Bool) (x : Result Expanded1 Refusal) → two ≡ false → program_in shape (Some One) a b ≡ up_read x
    → program_in shape (cond one (Some One) (cond two (Some Two) None)) a b ≡ up_read (cond one x (Err Form))
of_three shape a b true two x other h = h
of_three shape a b false two x other h = ap (λ w. program_in shape (cond w (Some Two) None) a b) other

pub reading-up : ReadingIsKept
reading-up shape (array (item t (item a (item b no_items)))) other =
    of_three shape a b (is_word t (codes "program")) (is_word t (codes "program2")) (told_or (expansion1 (map (section shape []) (items a)) (statement_of1 shape (program_copy1 a b))) (told1 shape [] (in_copy1 (program_copy1 a b)))) other (program-up shape a b)
reading-up shape _ other = refl

word-only : (s one two : List ℕ) → bytes_eq one two ≡ false → bytes_eq s one ≡ true → bytes_eq s two ≡ false
word-only s one two apart is = ap (λ r. bytes_eq r two) ((bytes_eq-Decides s one).0 is) ∙ apart

pub first-other : FirstIsNotSecond
first-other (array (item (string s) ds)) is = word-only s (codes "program") (codes "program2") refl is
first-other (array (item _ ds)) is = absurd (true≢false (sym is))
first-other _ is = absurd (true≢false (sym is))
