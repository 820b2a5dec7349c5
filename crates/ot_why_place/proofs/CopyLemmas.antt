-- A statement's copy has the parts that stand in the text.
use Rattle.std.proofs.Common.{◌≡◌, ◌≢◌, ℕ, zero, suc, ◌<◌, ◌≤◌, Bool, true, false, cond, ◌&&◌, List, [], ◌∷◌, length, get_or, codes, refl, sym, ap, arith, rules, Vec, Global}
use Rattle.serde_json.specs.Data.{Data, array, no_items, item, depth, items_depth}
use Rattle.serde_json.specs.View.{view, items_view}
use Rattle.serde_json.specs.declared.value.Value.{Value, Array, the_lemmas}
use Rattle.ot_program.specs.Copies.{Text, SetText, AddText, FoldText, IfText, ForText, TaskText, WaitText, WaitForText, GroupText, GroupByText, NoForm, Copy, copies, copies_of, copy, at, Done, Then}
use Rattle.ot_program.specs.Meanings.{Bindings, is_word, is_one, is_two}
use Rattle.ot_program.specs.declared.profile.Profile.{Profile}
use Rattle.ot_why_place.specs.Texts.{of_one, of_two, of_three, of_four, of_five, text_at, copy_by}

copy_if : (profile : Profile) (level : ℕ) (variables : Bindings) (b : Bool) (x y : Copy) (t u : Text)
    → x ≡ copy_by profile level variables t → y ≡ copy_by profile level variables u
    → cond b x y ≡ copy_by profile level variables (cond b t u)
copy_if profile level variables true x y t u h k = h
copy_if profile level variables false x y t u h k = k

pub copy_is : (profile : Profile) (level : ℕ) (variables : Bindings) (d : Data) → copy profile level d variables ≡ copy_by profile level variables (text_at profile d)
unfolding copy
copy_is profile level variables (array (item t no_items)) = copy_if profile level variables (is_word t (codes "wait")) _ _ WaitText NoForm refl refl
copy_is profile level variables (array (item t (item a no_items))) =
    copy_if profile level variables (is_two profile && is_word t (codes "wait")) _ _ (WaitForText a) NoForm refl refl
copy_is profile level variables (array (item t (item a (item b no_items)))) =
    copy_if profile level variables (is_word t (codes "set")) _ _ (SetText a b) _ refl
    (copy_if profile level variables (is_word t (codes "add")) _ _ (AddText a b) _ refl
    (copy_if profile level variables (is_word t (codes "task")) _ _ (TaskText profile a b) _ refl
    (copy_if profile level variables (is_one profile && is_word t (codes "group")) _ _ (GroupText a b) NoForm refl refl)))
copy_is profile level variables (array (item t (item a (item b (item c no_items))))) =
    copy_if profile level variables (is_two profile && is_word t (codes "fold")) _ _ (FoldText a b c) _ refl
    (copy_if profile level variables (is_two profile && is_word t (codes "group")) _ _ (GroupByText a b c) _ refl
    (copy_if profile level variables (is_word t (codes "if")) _ _ (IfText a b c) NoForm refl refl))
copy_is profile level variables (array (item t (item a (item b (item c (item d no_items)))))) =
    copy_if profile level variables (is_word t (codes "for")) _ _ (ForText a b c d) NoForm refl refl
copy_is profile level variables _ = refl

-- ---- a body that is no list

pub no_list : (profile : Profile) (level : ℕ) (v : Value) (variables : Bindings) → ((w : Vec Value Global) → v ≢ Array w)
    → copies profile level (view v) variables ≡ Then (at level variables NoForm Done Done) Done
unfolding copies
no_list profile level v variables other = search (rules, the_lemmas)

pub a_list : (profile : Profile) (level : ℕ) (vs : List Value) (variables : Bindings)
    → copies profile level (array (items_view vs)) variables ≡ copies_of profile level (items_view vs) variables
unfolding copies
a_list profile level vs variables = refl

-- ---- texts by their length

pub no_text : (profile : Profile) (v : Value) → ((w : Vec Value Global) → v ≢ Array w) → text_at profile (view v) ≡ NoForm
no_text profile v other = search (rules, the_lemmas)

pub text_one : (profile : Profile) (vs : List Value) (t : Value) → length vs ≡ 1 → t ≡ get_or vs 0 t
    → text_at profile (array (items_view vs)) ≡ of_one (view t)
text_one profile (x ∷ []) t one p = rw (sym p) refl
text_one profile _ t one p = absurd (omega arith)

pub text_two : (profile : Profile) (vs : List Value) (t a : Value) → length vs ≡ 2 → t ≡ get_or vs 0 t → a ≡ get_or vs 1 a
    → text_at profile (array (items_view vs)) ≡ of_two profile (view t) (view a)
text_two profile (x ∷ y ∷ []) t a two p q = rw (sym p, sym q) refl
text_two profile _ t a two p q = absurd (omega arith)

pub text_three : (profile : Profile) (vs : List Value) (t a b : Value) → length vs ≡ 3 → t ≡ get_or vs 0 t → a ≡ get_or vs 1 a → b ≡ get_or vs 2 b
    → text_at profile (array (items_view vs)) ≡ of_three profile (view t) (view a) (view b)
text_three profile (x ∷ y ∷ z ∷ []) t a b three p q r = rw (sym p, sym q, sym r) refl
text_three profile _ t a b three p q r = absurd (omega arith)

pub text_four : (profile : Profile) (vs : List Value) (t a b c : Value) → length vs ≡ 4 → t ≡ get_or vs 0 t → a ≡ get_or vs 1 a → b ≡ get_or vs 2 b → c ≡ get_or vs 3 c
    → text_at profile (array (items_view vs)) ≡ of_four profile (view t) (view a) (view b) (view c)
text_four profile (x ∷ y ∷ z ∷ w ∷ []) t a b c four p q r s = rw (sym p, sym q, sym r, sym s) refl
text_four profile _ t a b c four p q r s = absurd (omega arith)

pub text_five : (profile : Profile) (vs : List Value) (t a b c d : Value) → length vs ≡ 5 → t ≡ get_or vs 0 t → a ≡ get_or vs 1 a → b ≡ get_or vs 2 b → c ≡ get_or vs 3 c → d ≡ get_or vs 4 d
    → text_at profile (array (items_view vs)) ≡ of_five (view t) (view a) (view b) (view c) (view d)
text_five profile (x ∷ y ∷ z ∷ w ∷ v ∷ []) t a b c d five p q r s u = rw (sym p, sym q, sym r, sym s, sym u) refl
text_five profile _ t a b c d five p q r s u = absurd (omega arith)

pub no_text_long : (profile : Profile) (vs : List Value) → length vs ≢ 1 → length vs ≢ 2 → length vs ≢ 3 → length vs ≢ 4 → length vs ≢ 5
    → text_at profile (array (items_view vs)) ≡ NoForm
no_text_long profile (a ∷ []) p o q r s = absurd (p refl)
no_text_long profile (a ∷ b ∷ []) p o q r s = absurd (o refl)
no_text_long profile (a ∷ b ∷ c ∷ []) p o q r s = absurd (q refl)
no_text_long profile (a ∷ b ∷ c ∷ d ∷ []) p o q r s = absurd (r refl)
no_text_long profile (a ∷ b ∷ c ∷ d ∷ e ∷ []) p o q r s = absurd (s refl)
no_text_long profile _ p o q r s = refl

pub ruleset texts = (no_text, text_one, text_two, text_three, text_four, text_five, no_text_long)

-- ---- an item nests less deep than its list

pub item_depth : (vs : List Value) (i : ℕ) (v : Value) → i < length vs → v ≡ get_or vs i v → depth (view v) ≤ items_depth (items_view vs)
item_depth [] i v within is = absurd (omega (arith, within))
item_depth (x ∷ vs) zero v within is = let e : depth (view v) ≡ depth (view x) = ap (λ (u : Value). depth (view u)) is in omega (arith, e)
item_depth (x ∷ vs) (suc i) v within is = let h = item_depth vs i v (omega arith) is in omega (arith, h)
