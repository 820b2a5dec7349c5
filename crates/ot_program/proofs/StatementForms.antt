-- What a value is read as, where a statement is wanted.
use Rattle.std.proofs.Common.{◌≡◌, ℕ, ◌+◌, true, false, ◌&&◌, List, [], ◌∷◌, Vec, Global, length, get_or, Err, codes, refl, sym, rules, arith}
use Rattle.std.specs.Prelude.{◌≢◌}
use Rattle.serde_json.specs.Data.{array}
use Rattle.serde_json.specs.View.{view, items_view}
use Rattle.serde_json.specs.declared.value.Value.{Value, Array, the_lemmas}
use Rattle.ot_model.specs.Programs.{Arrays}
use Rattle.ot_model.specs.Tree.{Task}
use Rattle.ot_model.specs.declared.fold.Fold.TheVariants.{Plus}
use Rattle.ot_program.specs.declared.counts.Counts.{Counts}
use Rattle.ot_program.specs.declared.fault.Refusal.TheVariants.{Form}
use Rattle.ot_program.specs.declared.profile.Profile.{Profile}
use Rattle.ot_program.specs.Meanings.{is_word, Bindings, fold_of, is_one, is_two}
use Rattle.ot_program.specs.walk.Statements.{set_in, by_operation, fold_in, wait_form, wait_for_form, if_in, for_in, with_body, group_in, condition_of, declared_of, range_of, body_in, one_in}

-- ---- what is no list

pub no_list-body : (shape : Arrays) (profile : Profile) (level : ℕ) (v : Value) (variables : Bindings) (n : Counts)
    → ((w : Vec Value Global) → v ≢ Array w) → body_in shape profile level (view v) variables n ≡ Err Form
unfolding body_in
no_list-body shape profile level v variables n other = search (rules, the_lemmas)

pub no_list-one : (shape : Arrays) (profile : Profile) (level : ℕ) (v : Value) (variables : Bindings) (n : Counts)
    → ((w : Vec Value Global) → v ≢ Array w) → one_in shape profile level (view v) variables n ≡ Err Form
unfolding one_in
no_list-one shape profile level v variables n other = search (rules, the_lemmas)

-- ---- lists by their length

pub no_form : (shape : Arrays) (profile : Profile) (level : ℕ) (vs : List Value) (variables : Bindings) (n : Counts) → length vs ≢ 1 → length vs ≢ 2 → length vs ≢ 3
    → length vs ≢ 4 → length vs ≢ 5 → one_in shape profile level (array (items_view vs)) variables n ≡ Err Form
unfolding one_in
no_form shape profile level (a ∷ []) variables n p o q r s = absurd (p refl)
no_form shape profile level (a ∷ b ∷ []) variables n p o q r s = absurd (o refl)
no_form shape profile level (a ∷ b ∷ c ∷ []) variables n p o q r s = absurd (q refl)
no_form shape profile level (a ∷ b ∷ c ∷ d ∷ []) variables n p o q r s = absurd (r refl)
no_form shape profile level (a ∷ b ∷ c ∷ d ∷ e ∷ []) variables n p o q r s = absurd (s refl)
no_form shape profile level _ variables n p o q r s = refl

pub form_wait : (shape : Arrays) (profile : Profile) (level : ℕ) (vs : List Value) (variables : Bindings) (n : Counts) (t : Value) → length vs ≡ 1
    → t ≡ get_or vs 0 t → one_in shape profile level (array (items_view vs)) variables n ≡ wait_form (view t) n
unfolding one_in
form_wait shape profile level (x ∷ []) variables n t one p = rw (sym p) refl
form_wait shape profile level _ variables n t one p = absurd (omega arith)

pub form_wait_for : (shape : Arrays) (profile : Profile) (level : ℕ) (vs : List Value) (variables : Bindings) (n : Counts) (t a : Value) → length vs ≡ 2
    → t ≡ get_or vs 0 t → a ≡ get_or vs 1 a
    → one_in shape profile level (array (items_view vs)) variables n ≡ wait_for_form shape profile variables (view t) (view a) n
unfolding one_in
form_wait_for shape profile level (x ∷ y ∷ []) variables n t a two p q = rw (sym p, sym q) refl
form_wait_for shape profile level _ variables n t a two p q = absurd (omega arith)

pub ruleset no_statement = (no_form, form_wait, form_wait_for)

-- ---- three items

pub form_set : (shape : Arrays) (profile : Profile) (level : ℕ) (vs : List Value) (variables : Bindings) (n : Counts) (t a b : Value) → length vs ≡ 3
    → t ≡ get_or vs 0 t → a ≡ get_or vs 1 a → b ≡ get_or vs 2 b → is_word (view t) (codes "set") ≡ true
    → one_in shape profile level (array (items_view vs)) variables n ≡ set_in shape variables (view a) (view b) n
unfolding one_in
form_set shape profile level (x ∷ y ∷ z ∷ []) variables n t a b three p q r is = rw (sym p, sym q, sym r, is) refl
form_set shape profile level _ variables n t a b three p q r is = absurd (omega arith)

pub form_add : (shape : Arrays) (profile : Profile) (level : ℕ) (vs : List Value) (variables : Bindings) (n : Counts) (t a b : Value) → length vs ≡ 3
    → t ≡ get_or vs 0 t → a ≡ get_or vs 1 a → b ≡ get_or vs 2 b → is_word (view t) (codes "set") ≡ false
    → is_word (view t) (codes "add") ≡ true
    → one_in shape profile level (array (items_view vs)) variables n ≡ fold_in shape variables (view a) (view b) Plus n
unfolding one_in
form_add shape profile level (x ∷ y ∷ z ∷ []) variables n t a b three p q r other is = rw (sym p, sym q, sym r, other, is) refl
form_add shape profile level _ variables n t a b three p q r other is = absurd (omega arith)

pub form_task : (shape : Arrays) (profile : Profile) (level : ℕ) (vs : List Value) (variables : Bindings) (n : Counts) (t a b : Value) → length vs ≡ 3
    → t ≡ get_or vs 0 t → a ≡ get_or vs 1 a → b ≡ get_or vs 2 b → is_word (view t) (codes "set") ≡ false
    → is_word (view t) (codes "add") ≡ false → is_word (view t) (codes "task") ≡ true
    → one_in shape profile level (array (items_view vs)) variables n ≡ with_body Task (declared_of shape profile variables level (view a) (view b)) (body_in shape profile (level + 1) (view b) variables) n
unfolding one_in
form_task shape profile level (x ∷ y ∷ z ∷ []) variables n t a b three p q r other neither is = rw (sym p, sym q, sym r, other, neither, is) refl
form_task shape profile level _ variables n t a b three p q r other neither is = absurd (omega arith)

pub form_group : (shape : Arrays) (profile : Profile) (level : ℕ) (vs : List Value) (variables : Bindings) (n : Counts) (t a b : Value) → length vs ≡ 3
    → t ≡ get_or vs 0 t → a ≡ get_or vs 1 a → b ≡ get_or vs 2 b → is_word (view t) (codes "set") ≡ false
    → is_word (view t) (codes "add") ≡ false → is_word (view t) (codes "task") ≡ false → is_one profile && is_word (view t) (codes "group") ≡ true
    → one_in shape profile level (array (items_view vs)) variables n ≡ group_in shape variables level (view a) (view b) (body_in shape profile (level + 1) (view b) variables) Plus n
unfolding one_in
form_group shape profile level (x ∷ y ∷ z ∷ []) variables n t a b three p q r other neither nor is = rw (sym p, sym q, sym r, other, neither, nor, is) refl
form_group shape profile level _ variables n t a b three p q r other neither nor is = absurd (omega arith)

pub no_form_of_three : (shape : Arrays) (profile : Profile) (level : ℕ) (vs : List Value) (variables : Bindings) (n : Counts) (t : Value) → length vs ≡ 3
    → t ≡ get_or vs 0 t → is_word (view t) (codes "set") ≡ false
    → is_word (view t) (codes "add") ≡ false → is_word (view t) (codes "task") ≡ false → is_one profile && is_word (view t) (codes "group") ≡ false
    → one_in shape profile level (array (items_view vs)) variables n ≡ Err Form
unfolding one_in
no_form_of_three shape profile level (x ∷ y ∷ z ∷ []) variables n t three p other neither nor none = rw (sym p, other, neither, nor, none) refl
no_form_of_three shape profile level _ variables n t three p other neither nor none = absurd (omega arith)

pub ruleset forms_of_three = (form_set, form_add, form_task, form_group, no_form_of_three)

-- ---- four items

pub form_fold : (shape : Arrays) (profile : Profile) (level : ℕ) (vs : List Value) (variables : Bindings) (n : Counts) (t a b c : Value) → length vs ≡ 4
    → t ≡ get_or vs 0 t → a ≡ get_or vs 1 a → b ≡ get_or vs 2 b → c ≡ get_or vs 3 c → is_two profile && is_word (view t) (codes "fold") ≡ true
    → one_in shape profile level (array (items_view vs)) variables n ≡ by_operation (fold_of (view a)) (fold_in shape variables (view b) (view c)) n
unfolding one_in
form_fold shape profile level (x ∷ y ∷ z ∷ w ∷ []) variables n t a b c four p q r s is = rw (sym p, sym q, sym r, sym s, is) refl
form_fold shape profile level _ variables n t a b c four p q r s is = absurd (omega arith)

pub form_group_by : (shape : Arrays) (profile : Profile) (level : ℕ) (vs : List Value) (variables : Bindings) (n : Counts) (t a b c : Value) → length vs ≡ 4
    → t ≡ get_or vs 0 t → a ≡ get_or vs 1 a → b ≡ get_or vs 2 b → c ≡ get_or vs 3 c → is_two profile && is_word (view t) (codes "fold") ≡ false
    → is_two profile && is_word (view t) (codes "group") ≡ true
    → one_in shape profile level (array (items_view vs)) variables n
    ≡ by_operation (fold_of (view a)) (group_in shape variables level (view b) (view c) (body_in shape profile (level + 1) (view c) variables)) n
unfolding one_in
form_group_by shape profile level (x ∷ y ∷ z ∷ w ∷ []) variables n t a b c four p q r s other is = rw (sym p, sym q, sym r, sym s, other, is) refl
form_group_by shape profile level _ variables n t a b c four p q r s other is = absurd (omega arith)

pub form_if : (shape : Arrays) (profile : Profile) (level : ℕ) (vs : List Value) (variables : Bindings) (n : Counts) (t a b c : Value) → length vs ≡ 4
    → t ≡ get_or vs 0 t → a ≡ get_or vs 1 a → b ≡ get_or vs 2 b → c ≡ get_or vs 3 c → is_two profile && is_word (view t) (codes "fold") ≡ false
    → is_two profile && is_word (view t) (codes "group") ≡ false → is_word (view t) (codes "if") ≡ true
    → one_in shape profile level (array (items_view vs)) variables n
    ≡ if_in (condition_of shape variables level (view a) (view b) (view c)) (body_in shape profile (level + 1) (view b) variables) (body_in shape profile (level + 1) (view c) variables) n
unfolding one_in
form_if shape profile level (x ∷ y ∷ z ∷ w ∷ []) variables n t a b c four p q r s other neither is = rw (sym p, sym q, sym r, sym s, other, neither, is) refl
form_if shape profile level _ variables n t a b c four p q r s other neither is = absurd (omega arith)

pub no_form_of_four : (shape : Arrays) (profile : Profile) (level : ℕ) (vs : List Value) (variables : Bindings) (n : Counts) (t : Value) → length vs ≡ 4
    → t ≡ get_or vs 0 t → is_two profile && is_word (view t) (codes "fold") ≡ false
    → is_two profile && is_word (view t) (codes "group") ≡ false → is_word (view t) (codes "if") ≡ false
    → one_in shape profile level (array (items_view vs)) variables n ≡ Err Form
unfolding one_in
no_form_of_four shape profile level (x ∷ y ∷ z ∷ w ∷ []) variables n t four p other neither none = rw (sym p, other, neither, none) refl
no_form_of_four shape profile level _ variables n t four p other neither none = absurd (omega arith)

pub ruleset forms_of_four = (form_fold, form_group_by, form_if, no_form_of_four)

-- ---- five items

pub form_for : (shape : Arrays) (profile : Profile) (level : ℕ) (vs : List Value) (variables : Bindings) (n : Counts) (t a b c d : Value) → length vs ≡ 5
    → t ≡ get_or vs 0 t → a ≡ get_or vs 1 a → b ≡ get_or vs 2 b → c ≡ get_or vs 3 c → d ≡ get_or vs 4 d
    → is_word (view t) (codes "for") ≡ true
    → one_in shape profile level (array (items_view vs)) variables n
    ≡ for_in variables (range_of variables level (view a) (view b) (view c) (view d)) (body_in shape profile (level + 1) (view d)) n
unfolding one_in
form_for shape profile level (x ∷ y ∷ z ∷ w ∷ v ∷ []) variables n t a b c d five p q r s u is = rw (sym p, sym q, sym r, sym s, sym u, is) refl
form_for shape profile level _ variables n t a b c d five p q r s u is = absurd (omega arith)

pub no_form_of_five : (shape : Arrays) (profile : Profile) (level : ℕ) (vs : List Value) (variables : Bindings) (n : Counts) (t : Value) → length vs ≡ 5
    → t ≡ get_or vs 0 t → is_word (view t) (codes "for") ≡ false → one_in shape profile level (array (items_view vs)) variables n ≡ Err Form
unfolding one_in
no_form_of_five shape profile level (x ∷ y ∷ z ∷ w ∷ v ∷ []) variables n t five p other = rw (sym p, other) refl
no_form_of_five shape profile level _ variables n t five p other = absurd (omega arith)

pub ruleset forms_of_five = (form_for, no_form_of_five)
