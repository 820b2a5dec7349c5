-- Where no statement has a fault, values are no deeper, and bodies stand no deeper in one another, than the limits.
use Rattle.std.proofs.Common.{◌≡◌, ℕ, zero, suc, ◌+◌, ◌-◌, ◌<◌, ◌≤◌, max, Bool, true, false, cond, ◌&&◌, List, [], ◌∷◌, ◌++◌, map, nat_le, nat_lt, codes, refl, arith}
use Rattle.std.proofs.lemmas.Bool.{leb-true, ltb-true}
use Rattle.serde_json.specs.Data.{Data, array, Items, no_items, item}
use Rattle.ot_model.specs.Programs.{Arrays}
use Rattle.ot_model.specs.Tree.{E, S, If, body_of}
use Rattle.ot_program.specs.Accepted.{deepest, nesting}
use Rattle.ot_program.specs.Copies.{SetText, AddText, FoldText, IfText, ForText, Turn, TaskText, WaitText, WaitForText, GroupText, GroupByText, NoForm, Copy, Copies, Done, at, turns, copies, copies_of, copy, in_copy, in_order, statement_of, statements_of}
use Rattle.ot_program.specs.Faults.{no_list, list_faults, deep, name_faults, size_faults, cell_faults, section_faults, value_faults, expression_faults, clause_faults, fold_faults, faults_mixed, faults_nested}
use Rattle.ot_program.specs.Limits.{max_nesting, max_depth, size_depth, depth_of}
use Rattle.ot_program.specs.Meanings.{items, letters, Bindings, size as size_text, value, clause, is_word, is_one, is_two}
use Rattle.ot_program.specs.declared.fault.Refusal.TheVariants.{TooLarge}
use Rattle.ot_program.specs.declared.profile.Profile.{Profile}
use Rattle.ot_program.proofs.Tallies.{append-none, unless-none, AreClean, clean-append}

-- statements that stand in so many bodies: they are shallow enough
pub record Shallow (level : ℕ) (ss : List S) : Type 0 where
  pub depth : deepest (body_of ss) ≤ max_depth
  pub nesting : level + nesting (body_of ss) ≤ 1 + max_nesting

shallow_none : (level : ℕ) → level ≤ max_nesting → Shallow level []
shallow_none level low = record { depth = omega arith; nesting = omega arith }

shallow_then : (level : ℕ) (ss ts : List S) → Shallow level ss → Shallow level ts → Shallow level (ss ++ ts)
shallow_then level [] ts h k = k
shallow_then level (s ∷ ss) ts h k =
    let rest = shallow_then level ss ts (record { depth = omega (arith, h.depth); nesting = omega (arith, h.nesting) }) k in
    record { depth = omega (arith, h.depth, rest.depth); nesting = omega (arith, h.nesting, rest.nesting) }

-- a `set`, a fold and a wait
shallow_plain : (level n : ℕ) (s : S) → level ≤ max_nesting → n ≤ max_depth → deepest (body_of (s ∷ [])) ≡ max n 0 → nesting (body_of (s ∷ [])) ≡ 1
    → Shallow level (s ∷ [])
shallow_plain level n s low h is one = record { depth = omega (arith, is); nesting = omega (arith, one) }

-- a `task` and a `group`
shallow_body : (level : ℕ) (ss : List S) (s : S) → deepest (body_of (s ∷ [])) ≡ max (deepest (body_of ss)) 0
    → nesting (body_of (s ∷ [])) ≡ max (1 + nesting (body_of ss)) 1 → Shallow (level + 1) ss → Shallow level (s ∷ [])
shallow_body level ss s is one h = record { depth = omega (arith, is, h.depth); nesting = omega (arith, one, h.nesting) }

shallow_if : (level : ℕ) (e : E) (ss ts : List S) → depth_of e ≤ max_depth → Shallow (level + 1) ss → Shallow (level + 1) ts
    → Shallow level (If e (body_of ss) (body_of ts) ∷ [])
shallow_if level e ss ts d h k = record { depth = omega (arith, h.depth, k.depth); nesting = omega (arith, h.nesting, k.nesting) }

-- the statements of a `for`, which is no body of the tree
shallow_around : (level : ℕ) (ss : List S) → Shallow (level + 1) ss → Shallow level ss
shallow_around level ss h = record { depth = h.depth; nesting = omega (arith, h.nesting) }

-- ---- faults

expression_shallow : (shape : Arrays) (variables : Bindings) (d : Data) → expression_faults shape variables d ≡ []
    → depth_of (value shape variables d) ≤ max_depth
expression_shallow shape variables d clean =
    let depth = depth_of (value shape variables d) in
    leb-true depth max_depth (unless-none (nat_le depth max_depth) TooLarge (append-none (value_faults shape variables d) (deep depth) clean).1)

nested_low : (level : ℕ) → faults_nested level ≡ [] → level < max_nesting
nested_low level clean = ltb-true level max_nesting (unless-none (nat_lt level max_nesting) TooLarge clean)

-- ---- copies

abbrev pub AreShallow : Arrays → ℕ → Copies → Type 0
AreShallow shape level cs = AreClean shape (in_order cs) → Shallow level (statements_of shape cs)

abbrev pub IsShallow : Arrays → ℕ → Copy → Type 0
IsShallow shape level c = AreClean shape (in_copy c) → Shallow level (statement_of shape c)

shallow_test : (shape : Arrays) (level : ℕ) (b : Bool) (c d : Copy) → IsShallow shape level c → IsShallow shape level d → IsShallow shape level (cond b c d)
shallow_test shape level true c d h k = h
shallow_test shape level false c d h k = k

-- of a statement with one body, that the body has no fault
inside_clean : (shape : Arrays) (cs : Copies) → AreClean shape (in_order cs ++ []) → AreClean shape (in_order cs)
inside_clean shape cs clean = (clean-append shape (in_order cs) [] clean).0

shallow_turns : (shape : Arrays) (level : ℕ) (variables : Bindings) (body : ℕ → Copies) → level ≤ max_nesting
    → ((k : ℕ) → AreShallow shape (level + 1) (body k)) → (first many : ℕ) → AreShallow shape level (turns level variables body first many)
shallow_turns shape level variables body low h first zero clean = shallow_none level low
shallow_turns shape level variables body low h first (suc more) clean =
    let rest = turns level variables body (suc first) more in
    let turn = at level variables Turn (body first) Done in
    let both = clean-append shape (in_copy turn) (in_order rest) clean in
    shallow_then level (statements_of shape (body first)) (statements_of shape rest)
    (shallow_around level (statements_of shape (body first)) (h first (inside_clean shape (body first) both.0.1)))
    (shallow_turns shape level variables body low h (suc first) more both.1)

mutual
  unfolding copies

  pub shallow_copies : (shape : Arrays) (profile : Profile) (level : ℕ) (d : Data) (variables : Bindings) → level ≤ max_nesting
      → AreShallow shape level (copies profile level d variables)
  shallow_copies shape profile level (array ds) variables low = shallow_all shape profile level ds variables low
  shallow_copies shape profile level _ variables low = λ clean. shallow_none level low

  shallow_all : (shape : Arrays) (profile : Profile) (level : ℕ) (ds : Items) (variables : Bindings) → level ≤ max_nesting
      → AreShallow shape level (copies_of profile level ds variables)
  shallow_all shape profile level no_items variables low clean = shallow_none level low
  shallow_all shape profile level (item d ds) variables low clean =
      let c = copy profile level d variables in
      let cs = copies_of profile level ds variables in
      let both = clean-append shape (in_copy c) (in_order cs) clean in
      shallow_then level (statement_of shape c) (statements_of shape cs) (shallow_one shape profile level d variables low both.0)
      (shallow_all shape profile level ds variables low both.1)

  shallow_one : (shape : Arrays) (profile : Profile) (level : ℕ) (d : Data) (variables : Bindings) → level ≤ max_nesting
      → IsShallow shape level (copy profile level d variables)
  shallow_one shape profile level (array (item t no_items)) variables low =
      shallow_test shape level (is_word t (codes "wait")) (at level variables WaitText Done Done) (at level variables NoForm Done Done)
      (λ clean. shallow_plain level 0 _ low (omega arith) refl refl) (λ clean. shallow_none level low)
  shallow_one shape profile level (array (item t (item a no_items))) variables low =
      shallow_test shape level (is_two profile && is_word t (codes "wait")) (at level variables (WaitForText a) Done Done) (at level variables NoForm Done Done)
      (λ clean. shallow_plain level 0 _ low (omega arith) refl refl) (λ clean. shallow_none level low)
  shallow_one shape profile level (array (item t (item a (item b no_items)))) variables low =
      let e = value shape variables b in
      let cs = copies profile (level + 1) b variables in
      let set = at level variables (SetText a b) Done Done in
      let add = at level variables (AddText a b) Done Done in
      let task = at level variables (TaskText profile a b) cs Done in
      let group = at level variables (GroupText a b) cs Done in
      let none = at level variables NoForm Done Done in
      let is_group = is_one profile && is_word t (codes "group") in
      let groups = cond is_group group none in
      let tasks = cond (is_word t (codes "task")) task groups in
      let adds = cond (is_word t (codes "add")) add tasks in
      let value_of : cell_faults shape variables a ++ expression_faults shape variables b ≡ [] → depth_of e ≤ max_depth =
      λ h. expression_shallow shape variables b (append-none (cell_faults shape variables a) (expression_faults shape variables b) h).1 in
      shallow_test shape level (is_word t (codes "set")) set adds (λ clean. shallow_plain level (depth_of e) _ low (value_of clean.0) refl refl)
      (shallow_test shape level (is_word t (codes "add")) add tasks (λ clean. shallow_plain level (depth_of e) _ low (value_of clean.0) refl refl)
      (shallow_test shape level (is_word t (codes "task")) task groups
      (λ clean.
      let own = append-none (list_faults (clause_faults shape profile variables) a ++ no_list b) (faults_nested level ++ faults_mixed (map (clause shape profile variables) (items a))) clean.0 in
      let lower = nested_low level (append-none (faults_nested level) (faults_mixed (map (clause shape profile variables) (items a))) own.1).0 in
      shallow_body level (statements_of shape cs) _ refl refl (shallow_copies shape profile (level + 1) b variables (omega (arith, lower)) (inside_clean shape cs clean.1)))
      (shallow_test shape level is_group group none
      (λ clean.
      let lower = nested_low level (append-none (list_faults (section_faults shape variables) a ++ no_list b) (faults_nested level) clean.0).1 in
      shallow_body level (statements_of shape cs) _ refl refl (shallow_copies shape profile (level + 1) b variables (omega (arith, lower)) (inside_clean shape cs clean.1)))
      (λ clean. shallow_none level low))))
  shallow_one shape profile level (array (item t (item a (item b (item c no_items))))) variables low =
      let one = copies profile (level + 1) b variables in
      let two = copies profile (level + 1) c variables in
      let fold = at level variables (FoldText a b c) Done Done in
      let group = at level variables (GroupByText a b c) two Done in
      let none = at level variables NoForm Done Done in
      let is_fold = is_two profile && is_word t (codes "fold") in
      let is_group = is_two profile && is_word t (codes "group") in
      let ifs = cond (is_word t (codes "if")) (at level variables (IfText a b c) one two) none in
      shallow_test shape level is_fold fold (cond is_group group ifs)
      (λ clean.
      let parts = append-none (fold_faults a) (cell_faults shape variables b ++ expression_faults shape variables c) clean.0 in
      let both = append-none (cell_faults shape variables b) (expression_faults shape variables c) parts.1 in
      shallow_plain level (depth_of (value shape variables c)) _ low (expression_shallow shape variables c both.1) refl refl)
      (shallow_test shape level is_group group ifs
      (λ clean.
      let parts = append-none (fold_faults a) ((list_faults (section_faults shape variables) b ++ no_list c) ++ faults_nested level) clean.0 in
      let lower = nested_low level (append-none (list_faults (section_faults shape variables) b ++ no_list c) (faults_nested level) parts.1).1 in
      shallow_body level (statements_of shape two) _ refl refl (shallow_copies shape profile (level + 1) c variables (omega (arith, lower)) (inside_clean shape two clean.1)))
      (shallow_test shape level (is_word t (codes "if")) (at level variables (IfText a b c) one two) none
      (λ clean.
      let parts = append-none (expression_faults shape variables a ++ (no_list b ++ no_list c)) (faults_nested level) clean.0 in
      let lower = nested_low level parts.1 in
      let own = append-none (expression_faults shape variables a) (no_list b ++ no_list c) parts.0 in
      let inside = clean-append shape (in_order one) (in_order two) clean.1 in
      shallow_if level (value shape variables a) (statements_of shape one) (statements_of shape two) (expression_shallow shape variables a own.0)
      (shallow_copies shape profile (level + 1) b variables (omega (arith, lower)) inside.0)
      (shallow_copies shape profile (level + 1) c variables (omega (arith, lower)) inside.1))
      (λ clean. shallow_none level low)))
  shallow_one shape profile level (array (item t (item a (item b (item c (item d no_items)))))) variables low =
      let body : ℕ → Copies = λ k. copies profile (level + 1) d ((letters a, k) ∷ variables) in
      let first = size_text variables b in
      let many = size_text variables c - size_text variables b in
      let one = turns level variables body first many in
      shallow_test shape level (is_word t (codes "for")) (at level variables (ForText a b c d) one Done) (at level variables NoForm Done Done)
      (λ clean.
      let parts = append-none (name_faults a ++ ((size_faults variables b ++ size_faults variables c) ++ no_list d))
      (faults_nested level ++ (deep (size_depth b) ++ deep (size_depth c))) clean.0 in
      let lower = nested_low level (append-none (faults_nested level) (deep (size_depth b) ++ deep (size_depth c)) parts.1).0 in
      shallow_turns shape level variables body low (λ k. shallow_copies shape profile (level + 1) d ((letters a, k) ∷ variables) (omega (arith, lower)))
      first many (inside_clean shape one clean.1))
      (λ clean. shallow_none level low)
  shallow_one shape profile level _ variables low = λ clean. shallow_none level low
