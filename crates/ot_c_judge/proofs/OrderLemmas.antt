-- How many statements stand in a text, by how many parts it has; and what is told behind them.
use Rattle.std.proofs.Common.{◌≡◌, ◌≢◌, ◌<◌, ◌≤◌, ◌+◌, ℕ, zero, suc, Bool, true, false, List, [], ◌∷◌, length, get_or, take, drop, map, refl, sym, ap, ◌∙◌, arith, rules, Vec, Global}
use Rattle.std.proofs.lemmas.List.{drop-drop, take-map}
use Rattle.std.specs.Prelude.{if◌then◌else◌, codes, Option, None, option_and_then}
use Rattle.serde_json.specs.Data.{Data, array}
use Rattle.serde_json.specs.View.{view, items_of, items_view}
use Rattle.serde_json.specs.declared.value.Value.{Value, Array, the_lemmas}
use Rattle.ot_program.specs.Meanings.{items, each, is_word}
use Rattle.ot_why_place.specs.Spots.{Path}
use Rattle.ot_why_place.proofs.PlaceLemmas.{item_there, item_past}
use Rattle.ot_c_judge.specs.TextOrder.{count_in, count_all, count_one, count_inside, has_body, count_first, count_before, told_in, told_at}

-- ---- a body, a statement

pub count-no_list : (v : Value) → ((w : Vec Value Global) → v ≢ Array w) → count_in (view v) ≡ 0
unfolding count_in
count-no_list v other = search (rules, the_lemmas)

pub count-list : (vs : List Value) → count_in (array (items_view vs)) ≡ count_all (items_view vs)
unfolding count_in
count-list vs = refl

pub count-no_parts : (v : Value) → ((w : Vec Value Global) → v ≢ Array w) → count_one (view v) ≡ 1
unfolding count_one
count-no_parts v other = search (rules, the_lemmas)

pub count-parts : (vs : List Value) → count_one (array (items_view vs)) ≡ 1 + count_inside (items_view vs)
unfolding count_one
count-parts vs = refl

-- ---- statements in a row

pub count-none : count_all (items_view []) ≡ 0
unfolding count_all
count-none = refl

pub count-more : (vs : List Value) (i : ℕ) (v : Value) → i < length vs → v ≡ get_or vs i v
    → count_all (items_view (take (suc i) vs)) ≡ count_all (items_view (take i vs)) + count_one (view v)
unfolding count_all
count-more [] i v within is = absurd (omega (arith, within))
count-more (x ∷ vs) zero v within is = let e : count_one (view v) ≡ count_one (view x) = ap (λ (u : Value). count_one (view u)) is in omega (arith, e)
count-more (x ∷ vs) (suc i) v within is = let h = count-more vs i v (omega arith) is in omega (arith, h)

-- ---- the bodies of a statement

pub three_parts : (vs : List Value) (t b : Value) → length vs ≡ 3 → t ≡ get_or vs 0 t → b ≡ get_or vs 2 b
    → count_inside (items_view vs) ≡ (if has_body (view t) then count_in (view b) else 0)
unfolding count_inside
three_parts (x ∷ y ∷ z ∷ []) t b three p q = rw (sym p, sym q) refl
three_parts _ t b three p q = absurd (omega arith)

pub four_parts : (vs : List Value) (t b c : Value) → length vs ≡ 4 → t ≡ get_or vs 0 t → b ≡ get_or vs 2 b → c ≡ get_or vs 3 c
    → count_inside (items_view vs) ≡ (if is_word (view t) (codes "if") then count_in (view b) + count_in (view c) else (if is_word (view t) (codes "group") then count_in (view c) else 0))
unfolding count_inside
four_parts (x ∷ y ∷ z ∷ w ∷ []) t b c four p q r = rw (sym p, sym q, sym r) refl
four_parts _ t b c four p q r = absurd (omega arith)

pub five_parts : (vs : List Value) (t d : Value) → length vs ≡ 5 → t ≡ get_or vs 0 t → d ≡ get_or vs 4 d
    → count_inside (items_view vs) ≡ (if is_word (view t) (codes "for") then count_in (view d) else 0)
unfolding count_inside
five_parts (x ∷ y ∷ z ∷ w ∷ v ∷ []) t d five p q = rw (sym p, sym q) refl
five_parts _ t d five p q = absurd (omega arith)

pub other_parts : (vs : List Value) → length vs ≢ 3 → length vs ≢ 4 → length vs ≢ 5 → count_inside (items_view vs) ≡ 0
unfolding count_inside
other_parts (a ∷ b ∷ c ∷ []) p q r = absurd (p refl)
other_parts (a ∷ b ∷ c ∷ d ∷ []) p q r = absurd (q refl)
other_parts (a ∷ b ∷ c ∷ d ∷ e ∷ []) p q r = absurd (r refl)
other_parts _ p q r = refl

pub first_of_four : (vs : List Value) (t b : Value) → length vs ≡ 4 → t ≡ get_or vs 0 t → b ≡ get_or vs 2 b
    → count_first (array (items_view vs)) ≡ (if is_word (view t) (codes "if") then count_in (view b) else 0)
first_of_four (x ∷ y ∷ z ∷ w ∷ []) t b four p q = rw (sym p, sym q) refl
first_of_four _ t b four p q = absurd (omega arith)

pub first_of_others : (vs : List Value) → length vs ≢ 4 → count_first (array (items_view vs)) ≡ 0
first_of_others (a ∷ b ∷ c ∷ d ∷ []) p = absurd (p refl)
first_of_others _ p = refl

-- ---- what is told behind

pub behind_if : (told rest : List ℕ) (b : Bool) (n m : ℕ) → b ≡ true → rest ≡ drop n told → rest ≡ drop (if b then n else m) told
behind_if told rest true n m h is = is
behind_if told rest false n m h is = cc

pub behind_else : (told rest : List ℕ) (b : Bool) (n m : ℕ) → b ≡ false → rest ≡ drop m told → rest ≡ drop (if b then n else m) told
behind_else told rest false n m h is = is
behind_else told rest true n m h is = cc

pub behind_both : (told mid rest : List ℕ) (n m : ℕ) → mid ≡ drop n told → rest ≡ drop m mid → rest ≡ drop (n + m) told
behind_both told mid rest n m one two = two ∙ ap (drop m) one ∙ drop-drop m n told

pub behind_as : (told rest : List ℕ) (n m : ℕ) → n ≡ m → rest ≡ drop m told → rest ≡ drop n told
behind_as told rest n m is h = h ∙ sym (ap (λ k. drop k told) is)

-- ---- the items before one

each-items : (ds : List Data) → each (items_of ds) ≡ ds
each-items [] = refl
each-items (d ∷ ds) = ap (λ es. d ∷ es) (each-items ds)

pub items-before : (vs : List Value) (i : ℕ) → items_of (take i (items (array (items_view vs)))) ≡ items_view (take i vs)
items-before vs i = ap (λ ds. items_of (take i ds)) (each-items (map view vs)) ∙ ap items_of (take-map view i vs)

-- ---- what is told at an item

-- what is told from an item of a body on, from an item of a statement on
abbrev in_body : List ℕ → List Value → ℕ → Path → Data → Option ℕ
in_body told vs i path d = told_at (drop (count_all (items_of (take i (items (array (items_view vs)))))) told) d path

abbrev in_statement : List ℕ → List Value → ℕ → Path → Data → Option ℕ
in_statement told vs i path d = told_in (drop (count_before (array (items_view vs)) i) told) d path

pub told-body : (told mid : List ℕ) (vs : List Value) (i : ℕ) (v : Value) (path : Path) (r : Option ℕ) → i < length vs → v ≡ get_or vs i v
    → mid ≡ drop (count_all (items_view (take i vs))) told → r ≡ told_at mid (view v) path → r ≡ told_in told (array (items_view vs)) (i ∷ path)
told-body told mid vs i v path r within is left h =
    h ∙ ap (λ ts. told_at ts (view v) path) (left ∙ ap (λ ds. drop (count_all ds) told) (sym (items-before vs i)))
    ∙ sym (ap (option_and_then (in_body told vs i path)) (item_there vs i v within is))

pub told-no_body : (told : List ℕ) (vs : List Value) (i : ℕ) (path : Path) → length vs ≤ i → None ≡ told_in told (array (items_view vs)) (i ∷ path)
told-no_body told vs i path past = sym (ap (option_and_then (in_body told vs i path)) (item_past vs i past))

pub told-statement : (told mid : List ℕ) (vs : List Value) (i : ℕ) (v : Value) (path : Path) (r : Option ℕ) → i < length vs → v ≡ get_or vs i v
    → mid ≡ drop (count_before (array (items_view vs)) i) told → r ≡ told_in mid (view v) path → r ≡ told_at told (array (items_view vs)) (i ∷ path)
told-statement told mid vs i v path r within is left h =
    h ∙ ap (λ ts. told_in ts (view v) path) left ∙ sym (ap (option_and_then (in_statement told vs i path)) (item_there vs i v within is))

pub told-no_statement : (told : List ℕ) (vs : List Value) (i : ℕ) (path : Path) → length vs ≤ i → None ≡ told_at told (array (items_view vs)) (i ∷ path)
told-no_statement told vs i path past = sym (ap (option_and_then (in_statement told vs i path)) (item_past vs i past))
