-- No fault where no request is.
use Rattle.std.proofs.Common.{◌≡◌, ◌≢◌, ◌∙◌, List, [], ◌∷◌, length, get_or, refl, sym, ap, subst, arith, Bool, true, false}
use Rattle.std.specs.Prelude.{Some, None, option_and_then, if◌then◌else◌, codes}
use Rattle.serde_json.specs.Data.{item, no_items}
use Rattle.serde_json.specs.View.{view, items_view}
use Rattle.serde_json.specs.declared.value.Value.{Value}
use Rattle.ot_program.specs.Meanings.{is_word}
use Rattle.ot_store.specs.declared.limits.Limits.{Limits}
use Rattle.ot_book.specs.Requests.{Checkpoint, Arrays, Used, Run, form_of, free_of, put_of, get_of}
use Rattle.ot_why_reason.specs.Faults.{Lengths, fault_in}

one_of : (l : Limits) (arrays : Lengths) (b c d : Bool) →
    option_and_then (fault_in l arrays) (if b then Some Checkpoint else (if c then Some Arrays else (if d then Some Used else None))) ≡ None
one_of l arrays true c d = refl
one_of l arrays false true d = refl
one_of l arrays false false true = refl
one_of l arrays false false false = refl

-- lists of other lengths
pub no_fault : (l : Limits) (arrays : Lengths) (vs : List Value) → length vs ≢ 2 → length vs ≢ 3 → length vs ≢ 4 → option_and_then (fault_in l arrays) (form_of (items_view vs)) ≡ None
no_fault l arrays [] two three four = refl
no_fault l arrays (a ∷ []) two three four = one_of l arrays (is_word (view a) (codes "checkpoint")) (is_word (view a) (codes "list")) (is_word (view a) (codes "used"))
no_fault l arrays (a ∷ b ∷ []) two three four = absurd (two refl)
no_fault l arrays (a ∷ b ∷ c ∷ []) two three four = absurd (three refl)
no_fault l arrays (a ∷ b ∷ c ∷ d ∷ []) two three four = absurd (four refl)
no_fault l arrays (a ∷ b ∷ c ∷ d ∷ e ∷ vs) two three four = refl

-- lists that begin like a request over an array that is there already
pub free_here : (vs : List Value) (t a : Value) → length vs ≡ 2 → t ≡ get_or vs 0 t → a ≡ get_or vs 1 a →
    is_word (view t) (codes "run") ≡ false → is_word (view t) (codes "free") ≡ true → form_of (items_view vs) ≡ free_of (view a)
free_here [] t a two it ia run free = absurd (omega (arith, two))
free_here (x ∷ []) t a two it ia run free = absurd (omega (arith, two))
free_here (x ∷ y ∷ []) t a two it ia run free =
    subst (λ (w : Value). form_of (item (view w) (item (view y) no_items)) ≡ free_of (view a)) it
    (subst (λ (w : Value). form_of (item (view t) (item (view w) no_items)) ≡ free_of (view a)) ia
    (ap (λ b. if b then Some (Run (view a)) else (if is_word (view t) (codes "free") then free_of (view a) else None)) run
    ∙ ap (λ b. if b then free_of (view a) else None) free))
free_here (x ∷ y ∷ z ∷ vs) t a two it ia run free = absurd (omega (arith, two))

of_four : (vs : List Value) (t a b c : Value) → length vs ≡ 4 → t ≡ get_or vs 0 t → a ≡ get_or vs 1 a → b ≡ get_or vs 2 b → c ≡ get_or vs 3 c →
    items_view vs ≡ item (view t) (item (view a) (item (view b) (item (view c) no_items)))
of_four [] t a b c four it ia ib ic = absurd (omega (arith, four))
of_four (w ∷ []) t a b c four it ia ib ic = absurd (omega (arith, four))
of_four (w ∷ x ∷ []) t a b c four it ia ib ic = absurd (omega (arith, four))
of_four (w ∷ x ∷ y ∷ []) t a b c four it ia ib ic = absurd (omega (arith, four))
of_four (w ∷ x ∷ y ∷ z ∷ []) t a b c four it ia ib ic =
    ap (λ (v : Value). item (view v) (item (view x) (item (view y) (item (view z) no_items)))) (sym it)
    ∙ ap (λ (v : Value). item (view t) (item (view v) (item (view y) (item (view z) no_items)))) (sym ia)
    ∙ ap (λ (v : Value). item (view t) (item (view a) (item (view v) (item (view z) no_items)))) (sym ib)
    ∙ ap (λ (v : Value). item (view t) (item (view a) (item (view b) (item (view v) no_items)))) (sym ic)
of_four (v ∷ w ∷ x ∷ y ∷ z ∷ vs) t a b c four it ia ib ic = absurd (omega (arith, four))

pub put_here : (vs : List Value) (t a b c : Value) → length vs ≡ 4 → t ≡ get_or vs 0 t → a ≡ get_or vs 1 a → b ≡ get_or vs 2 b → c ≡ get_or vs 3 c →
    is_word (view t) (codes "put") ≡ true → form_of (items_view vs) ≡ put_of (view a) (view b) (view c)
put_here vs t a b c four it ia ib ic put =
    ap form_of (of_four vs t a b c four it ia ib ic)
    ∙ ap (λ w. if w then put_of (view a) (view b) (view c) else (if is_word (view t) (codes "get") then get_of (view a) (view b) (view c) else None)) put

pub get_here : (vs : List Value) (t a b c : Value) → length vs ≡ 4 → t ≡ get_or vs 0 t → a ≡ get_or vs 1 a → b ≡ get_or vs 2 b → c ≡ get_or vs 3 c →
    is_word (view t) (codes "put") ≡ false → is_word (view t) (codes "get") ≡ true → form_of (items_view vs) ≡ get_of (view a) (view b) (view c)
get_here vs t a b c four it ia ib ic put get =
    ap form_of (of_four vs t a b c four it ia ib ic)
    ∙ ap (λ w. if w then put_of (view a) (view b) (view c) else (if is_word (view t) (codes "get") then get_of (view a) (view b) (view c) else None)) put
    ∙ ap (λ w. if w then get_of (view a) (view b) (view c) else None) get
