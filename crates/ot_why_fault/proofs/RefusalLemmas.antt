-- The faults of parts, each with what is compared, have the refusals that `ot_program`'s faults of these parts are.
use Rattle.std.proofs.Common.{◌≡◌, ℕ, Bool, true, false, cond, ◌&&◌, ◌||◌, List, [], ◌∷◌, ◌++◌, map, Option, Some, None, Bor, codes, refl, sym, ap, ◌∙◌, append_assoc, append-nil, arith, if◌then◌else◌}
use Rattle.std.specs.Prelude.{not, flat_map, is_some, option_map, find}
use Rattle.std.specs.Option.{option_to_list}
use Rattle.std.specs.List.{list_any}
use Rattle.std.proofs.Math.Bool.{or_assoc, or-false}
use Rattle.std.proofs.lemmas.List.{map-append}
use Rattle.serde_json.specs.Data.{Data, Items, number, string, array, no_items, item}
use Rattle.serde_json.specs.View.{view}
use Rattle.serde_json.specs.declared.value.Value.{Value}
use Rattle.ot_model.specs.Programs.{Arrays}
use Rattle.ot_model.specs.declared.fold.Fold.{Fold}
use Rattle.ot_model.specs.declared.stmt.Mode.{Mode}
use Rattle.ot_model.specs.declared.stmt.Mode.TheVariants.{Folds}
use Rattle.ot_model.specs.declared.expr.Cell.{Cell}
use Rattle.ot_program.specs.Copies.{Text, SetText, AddText, FoldText, IfText, ForText, Turn, TaskText, WaitText, WaitForText, GroupText, GroupByText, ProgramText, NoForm as NoStatementForm}
use Rattle.ot_program.specs.Meanings.{named_cells, is_mixed, items, Bindings, fold_of, mode_of, red_of, red_by, clause, whole_number, is_name, is_word, is_one, is_two}
use Rattle.ot_program.specs.Faults as told
use Rattle.ot_program.specs.Faults.{size_faults, value_faults}
use Rattle.ot_program.specs.declared.fault.Refusal.{Refusal}
use Rattle.ot_program.specs.declared.fault.Refusal.TheVariants.{Form, MixedReduction}
use Rattle.ot_program.specs.declared.profile.Profile.{Profile}
use Rattle.ot_why_place.specs.Texts.{text_by}
use Rattle.ot_why_place.specs.declared.text.Text.{Text as CodeText}
use Rattle.ot_why_place.specs.declared.text.Text.TheVariants as t
use Rattle.ot_why_mixed.proofs.ClauseLemmas.{none_first, none_second}
use Rattle.ot_why_mixed.specs.Mixed.{first_mixed, cell_by_name, mixed_of, faults_of}
use Rattle.ot_why_fault.specs.Whys.{mixed_why, mixed_whys, Why, Form as NoForm, refusal_of, whys_unless, whys_no_list, list_whys, name_whys, variable_whys, size_whys, array_whys, indexed_whys, cell_whys, section_whys, value_whys, expression_whys, target_whys, is_mode, clause_whys, wait_clause_whys, whys_nested, group_whys, text_whys}
use Rattle.ot_why_fault.specs.declared.why.Wanted.TheVariants as wanted

-- they have these refusals
abbrev pub Are : List Why → List Refusal → Type 0
Are whys faults = map refusal_of whys ≡ faults

pub unless_is : (test : Bool) (why : Why) → Are (whys_unless test why) (told.unless test (refusal_of why))
unless_is true why = refl
unless_is false why = refl

if_is : (b : Bool) (vs ws : List Why) → Are (cond b vs ws) (cond b (map refusal_of vs) (map refusal_of ws))
if_is true vs ws = refl
if_is false vs ws = refl

-- ---- names and sizes

name_is : (d : Data) → Are (name_whys d) (told.name_faults d)
name_is (string s) = unless_is (is_name s) (NoForm (string s) wanted.Name)
name_is _ = refl

variable_is : (variables : Bindings) (s : List ℕ) → Are (variable_whys variables s) (told.variable_faults variables s)
variable_is variables s = simp (unless_is, map-append)

size_is : (variables : Bindings) (d : Data) → Are (size_whys variables d) (told.size_faults variables d)
unfolding size_whys size_faults
size_is variables (number n) = simp (unless_is, map-append)
size_is variables (string s) = variable_is variables s
size_is variables (array (item t (item a (item b no_items)))) = simp (size_is variables a, size_is variables b, unless_is, map-append)
size_is variables _ = refl

-- ---- arrays, cells, sections and values

array_is : (shape : Arrays) (name : Data) → Are (array_whys shape name) (told.array_faults shape name)
array_is shape name = simp (name_is name, unless_is, map-append)

module _ (shape : Arrays) (variables : Bindings) where
  indexed_is : (name index : Data) → Are (indexed_whys shape variables name index) (told.indexed_faults shape variables name index)
  indexed_is name index = simp (array_is shape name, size_is variables index, unless_is, map-append)

  cell_is : (d : Data) → Are (cell_whys shape variables d) (told.cell_faults shape variables d)
  cell_is (array (item t (item a (item b no_items)))) = simp (indexed_is a b, unless_is, map-append)
  cell_is _ = refl

  section_is : (d : Data) → Are (section_whys shape variables d) (told.section_faults shape variables d)
  section_is (array (item a (item b (item c no_items)))) = simp (array_is shape a, size_is variables b, size_is variables c, unless_is, map-append)
  section_is _ = refl

  value_is : (d : Data) → Are (value_whys shape variables d) (told.value_faults shape variables d)
  unfolding value_whys value_faults
  value_is (number n) = unless_is (is_some (whole_number n)) (NoForm (number n) wanted.Number)
  value_is (string s) = variable_is variables s
  value_is (array (item t (item a (item b no_items)))) = simp (indexed_is a b, section_is a, value_is a, value_is b, unless_is, if_is, map-append)
  value_is _ = refl

  expression_is : (d : Data) → Are (expression_whys shape variables d) (told.expression_faults shape variables d)
  expression_is d = simp (value_is d, unless_is, map-append)

  target_is : (a b : Data) → Are (target_whys shape variables a b) (told.cell_faults shape variables a ++ told.expression_faults shape variables b)
  target_is a b = simp (cell_is a, expression_is b, map-append)

-- ---- clauses

some-if : (b : Bool) (x : Mode) (r : Option Mode) → is_some (cond b (Some x) r) ≡ (b || is_some r)
some-if true x r = refl
some-if false x r = refl

red_is_mode : (profile : Profile) (d : Data) → is_some (red_of profile d) ≡ (is_one profile && is_word d (codes "red"))
red_is_mode profile d = grind (arith, some-if)

mode_is : (profile : Profile) (d : Data) → is_some (mode_of profile d) ≡ is_mode profile d
mode_is profile d = simp (some-if, red_is_mode, or_assoc)

some-red : (b : Bool) (f : Fold → Mode) (o : Option Fold) (op clause : Data)
    → Are (cond b (whys_unless (is_some o) (NoForm op wanted.Fold)) (NoForm clause wanted.Clause ∷ [])) (told.unless (is_some (cond b (option_map f o) None)) Form)
some-red true f None op clause = refl
some-red true f (Some it) op clause = refl
some-red false f o op clause = refl

-- what a clause of three items is told depends on the profile
three_told : (shape : Arrays) (profile : Profile) (variables : Bindings) (t op a : Data)
    → told.clause_faults shape profile variables (array (item t (item op (item a no_items))))
    ≡ (if is_two profile then told.unless (is_some (red_by t op)) Form ++ told.section_faults shape variables a else Form ∷ [])
three_told shape profile variables t op a = grind arith

more_told : (shape : Arrays) (profile : Profile) (variables : Bindings) (t op a b : Data) (more : Items)
    → told.clause_faults shape profile variables (array (item t (item op (item a (item b more))))) ≡ Form ∷ []
more_told shape profile variables t op a b more = grind arith

clause_is : (shape : Arrays) (profile : Profile) (variables : Bindings) (d : Data)
    → Are (clause_whys shape profile variables d) (told.clause_faults shape profile variables d)
clause_is shape profile variables (array (item t (item a no_items))) = simp (mode_is profile t, section_is shape variables a, unless_is, map-append)
clause_is shape profile variables (array (item t (item op (item a no_items)))) =
    simp (three_told shape profile variables t op a, some-red (is_word t (codes "red")) Folds (fold_of op), section_is shape variables a, if_is, map-append)
clause_is shape profile variables (array (item t (item op (item a (item b more))))) = sym (more_told shape profile variables t op a b more)
clause_is shape profile variables _ = refl

wait_clause_is : (shape : Arrays) (variables : Bindings) (d : Data) → Are (wait_clause_whys shape variables d) (told.wait_clause_faults shape variables d)
wait_clause_is shape variables (array (item t (item a no_items))) = simp (some-if, or-false, section_is shape variables a, unless_is, map-append)
wait_clause_is shape variables _ = refl

-- ---- statements

flat_are : (whys : Data → List Why) (faults : Data → List Refusal) → ((d : Data) → Are (whys d) (faults d)) → (ds : List Data)
    → Are (flat_map whys ds) (flat_map faults ds)
flat_are whys faults h [] = refl
flat_are whys faults h (d ∷ ds) = simp (h d, flat_are whys faults h ds, map-append)

each_are : (whys : Data → List Why) (faults : Data → List Refusal) → ((d : Data) → Are (whys d) (faults d)) → (d : Data)
    → Are (list_whys whys d) (told.list_faults faults d)
each_are whys faults h d = simp (flat_are whys faults h (items d), unless_is, map-append)

found_are : (p : Cell → Bool) (why : Cell → Why) (cs : List Cell) → ((c : Cell) → refusal_of (why c) ≡ MixedReduction)
    → Are (option_to_list (option_map why (find p cs))) (told.unless (not (list_any p cs)) MixedReduction)
found_are p why [] told_as = refl
found_are p why (c ∷ cs) told_as = by (p c) (found_are p why cs told_as)
  where
    by : (b : Bool) → Are (option_to_list (option_map why (find p cs))) (told.unless (not (list_any p cs)) MixedReduction)
        → Are (option_to_list (option_map why (cond b (Some c) (find p cs)))) (told.unless (not (b || list_any p cs)) MixedReduction)
    by true rest = ap (λ (r : Refusal). r ∷ []) (told_as c)
    by false rest = rest

map_map : (f : Cell → List ℕ × ℕ) (g : List ℕ × ℕ → Why) (o : Option Cell) → option_map g (option_map f o) ≡ option_map (λ c. g (f c)) o
map_map f g None = refl
map_map f g (Some c) = refl

mixed_are : (shape : Arrays) (profile : Profile) (variables : Bindings) (a : Data)
    → Are (option_to_list (option_map mixed_why (mixed_of shape profile variables a))) (told.faults_mixed (map (clause shape profile variables) (items a)))
mixed_are shape profile variables a =
    let clauses = map (clause shape profile variables) (items a) in
    ap (λ (o : Option Why). map refusal_of (option_to_list o)) (map_map (cell_by_name shape) mixed_why (first_mixed clauses))
    ∙ found_are (is_mixed clauses) (λ c. mixed_why (cell_by_name shape c)) (named_cells clauses) (λ c. refl)

module _ (shape : Arrays) (level : ℕ) (variables : Bindings) where
  group_is : (a b : Data)
      → Are (group_whys shape level variables a b) ((told.list_faults (told.section_faults shape variables) a ++ told.no_list b) ++ told.faults_nested level)
  group_is a b = simp (each_are (section_whys shape variables) _ (section_is shape variables) a, unless_is, map-append)

  pub text_is : (text : Text) → Are (text_whys shape level variables text ++ mixed_whys shape variables text) (told.text_faults shape level variables text)
  text_is (SetText a b) = simp (target_is shape variables a b, append-nil)
  text_is (AddText a b) = simp (target_is shape variables a b, append-nil)
  text_is (FoldText op a b) = simp (target_is shape variables a b, unless_is, map-append, append-nil)
  text_is (IfText a b c) = simp (expression_is shape variables a, unless_is, map-append, append-nil)
  text_is (ForText a b c d) = simp (name_is a, size_is variables b, size_is variables c, unless_is, map-append, append-nil)
  text_is Turn = refl
  text_is (TaskText profile a b) =
      simp (flat_are (clause_whys shape profile variables) _ (clause_is shape profile variables) (items a), mixed_are shape profile variables a, unless_is, map-append, append_assoc)
  text_is WaitText = refl
  text_is (WaitForText a) = simp (each_are (wait_clause_whys shape variables) _ (wait_clause_is shape variables) a, append-nil)
  text_is (GroupText a b) = simp (group_is a b, append-nil)
  text_is (GroupByText op a b) = simp (group_is a b, unless_is, map-append, append-nil)
  text_is (ProgramText a b) = simp (group_is a b, append-nil)
  text_is NoStatementForm = refl

-- the clauses of a task without a fault have none
pub task_faultless : (shape : Arrays) (profile : Profile) (level : ℕ) (variables : Bindings) (text : CodeText) (a b : Bor Value)
    → text ≡ t.Task a b → text_whys shape level variables (text_by profile text) ≡ [] → faults_of shape profile variables (view a.now) ≡ []
task_faultless shape profile level variables text a b is h =
    let whys = clause_whys shape profile variables in
    let clauses = items (view a.now) in
    let none : flat_map whys clauses ≡ [] =
    none_second (whys_no_list (view a.now)) _ (none_first (list_whys whys (view a.now)) (whys_no_list (view b.now)) (none_first _ (whys_nested level) (rw is at h))) in
    sym (flat_are whys (told.clause_faults shape profile variables) (clause_is shape profile variables) clauses) ∙ ap (map refusal_of) none
