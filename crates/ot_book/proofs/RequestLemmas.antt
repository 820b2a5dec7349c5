-- Lists that are too short or too long ask nothing, and the numbers of a list one after another.
use Rattle.std.proofs.Common.{◌≡◌, ◌≢◌, ◌∙◌, ℕ, ◌+◌, ◌<◌, List, [], ◌∷◌, ◌++◌, drop, length, get_or, refl, sym, ap, append_assoc, arith, Bool, true, false}
use Rattle.std.specs.Prelude.{Option, Some, None, option_map, option_and_then, if◌then◌else◌, codes}
use Rattle.std.proofs.lemmas.List.{at_drop_more}
use Rattle.serde_json.specs.View.{view, items_view}
use Rattle.serde_json.specs.declared.value.Value.{Value}
use Rattle.ot_program.specs.Meanings.{is_word}
use Rattle.ot_book.specs.Requests.{Request, New, Free, Put, Get, Arrays, Used, Checkpoint, Run, form_of, name_in, size_in, number_in, numbers_in, all_numbers, sized_of, new_of, free_of, put_of, get_of, asks_checkpoint}

pub no_form : (vs : List Value) → length vs ≢ 1 → length vs ≢ 2 → length vs ≢ 3 → length vs ≢ 4 → form_of (items_view vs) ≡ None
no_form [] one two three four = refl
no_form (a ∷ []) one two three four = absurd (one refl)
no_form (a ∷ b ∷ []) one two three four = absurd (two refl)
no_form (a ∷ b ∷ c ∷ []) one two three four = absurd (three refl)
no_form (a ∷ b ∷ c ∷ d ∷ []) one two three four = absurd (four refl)
no_form (a ∷ b ∷ c ∷ d ∷ e ∷ vs) one two three four = refl

pub no_pair : (low : ℕ) (vs : List Value) → length vs ≢ 2 → sized_of low (items_view vs) ≡ None
no_pair low [] two = refl
no_pair low (a ∷ []) two = refl
no_pair low (a ∷ b ∷ []) two = absurd (two refl)
no_pair low (a ∷ b ∷ c ∷ vs) two = refl

-- the numbers so far with those that are left
abbrev pub with_numbers : List ℕ → Option (List ℕ) → Option (List ℕ)
with_numbers front o = option_map (λ ns. front ++ ns) o

-- one number more
pub numbers-more : (vs : List Value) (i : ℕ) (v : Value) (front : List ℕ) (n : ℕ) → i < length vs → v ≡ get_or vs i v → number_in (view v) ≡ Some n →
    with_numbers front (all_numbers (items_view (drop i vs))) ≡ with_numbers (front ++ n ∷ []) (all_numbers (items_view (drop (i + 1) vs)))
numbers-more vs i v front n within is found =
    ap (with_numbers front) (at_drop_more (λ ws. all_numbers (items_view ws)) vs i v within
    ∙ ap (λ w. all_numbers (items_view (w ∷ drop (i + 1) vs))) (sym is)
    ∙ ap (option_and_then (λ m. option_map (λ ns. m ∷ ns) (all_numbers (items_view (drop (i + 1) vs))))) found) ∙ joined (all_numbers (items_view (drop (i + 1) vs)))
  where
    joined : (o : Option (List ℕ)) → with_numbers front (option_map (λ ns. n ∷ ns) o) ≡ with_numbers (front ++ n ∷ []) o
    joined None = refl
    joined (Some ns) = ap Some (sym (append_assoc front (n ∷ []) ns))

-- where one is no number, they aren't all
pub numbers-none : (vs : List Value) (i : ℕ) (v : Value) (front : List ℕ) → i < length vs → v ≡ get_or vs i v → number_in (view v) ≡ None →
    with_numbers front (all_numbers (items_view (drop i vs))) ≡ None
numbers-none vs i v front within is none =
    ap (with_numbers front) (at_drop_more (λ ws. all_numbers (items_view ws)) vs i v within
    ∙ ap (λ w. all_numbers (items_view (w ∷ drop (i + 1) vs))) (sym is)
    ∙ ap (option_and_then (λ m. option_map (λ ns. m ∷ ns) (all_numbers (items_view (drop (i + 1) vs))))) none)

-- ---- what asks for no checkpoint

none-if : (b : Bool) (o : Option Request) → asks_checkpoint o ≡ false → asks_checkpoint (if b then o else None) ≡ false
none-if true o h = h
none-if false o h = refl

none-mapped : {A : Type 0} (f : A → Request) (o : Option A) → ((a : A) → asks_checkpoint (Some (f a)) ≡ false) → asks_checkpoint (option_map f o) ≡ false
none-mapped f None h = refl
none-mapped f (Some a) h = h a

none-then : {A : Type 0} (f : A → Option Request) (o : Option A) → ((a : A) → asks_checkpoint (f a) ≡ false) → asks_checkpoint (option_and_then f o) ≡ false
none-then f None h = refl
none-then f (Some a) h = h a

none-either : (b c : Bool) (o q : Option Request) → asks_checkpoint o ≡ false → asks_checkpoint q ≡ false →
    asks_checkpoint (if b then o else (if c then q else None)) ≡ false
none-either true c o q h k = h
none-either false c o q h k = none-if c q k

-- a list of one word asks for one where that is the word
lone : (b c d : Bool) → asks_checkpoint (if b then Some Checkpoint else (if c then Some Arrays else (if d then Some Used else None))) ≡ b
lone true c d = refl
lone false true d = refl
lone false false true = refl
lone false false false = refl

pub lone_checkpoint : (vs : List Value) (v : Value) → length vs ≡ 1 → v ≡ get_or vs 0 v → asks_checkpoint (form_of (items_view vs)) ≡ is_word (view v) (codes "checkpoint")
lone_checkpoint [] v one is = absurd (omega (arith, one))
lone_checkpoint (t ∷ []) v one is =
    lone (is_word (view t) (codes "checkpoint")) (is_word (view t) (codes "list")) (is_word (view t) (codes "used")) ∙ ap (λ x. is_word (view x) (codes "checkpoint")) (sym is)
lone_checkpoint (t ∷ a ∷ vs) v one is = absurd (omega (arith, one))

-- a list of any other length asks for none
pub no_checkpoint : (vs : List Value) → length vs ≢ 1 → asks_checkpoint (form_of (items_view vs)) ≡ false
no_checkpoint [] one = refl
no_checkpoint (t ∷ []) one = absurd (one refl)
no_checkpoint (t ∷ a ∷ []) one =
    none-either (is_word (view t) (codes "run")) (is_word (view t) (codes "free")) (Some (Run (view a))) (free_of (view a)) refl
    (none-mapped Free (name_in (view a)) (λ n. refl))
no_checkpoint (t ∷ a ∷ b ∷ []) one =
    none-if (is_word (view t) (codes "new")) (new_of (view a) (view b))
    (none-then (λ n. option_map (New n) (size_in 1 (view b))) (name_in (view a)) (λ n. none-mapped (New n) (size_in 1 (view b)) (λ l. refl)))
no_checkpoint (t ∷ a ∷ b ∷ c ∷ []) one =
    none-either (is_word (view t) (codes "put")) (is_word (view t) (codes "get")) (put_of (view a) (view b) (view c)) (get_of (view a) (view b) (view c))
    (none-then (λ n. option_and_then (λ s. option_map (Put n s) (numbers_in (view c))) (size_in 0 (view b))) (name_in (view a))
    (λ n. none-then (λ s. option_map (Put n s) (numbers_in (view c))) (size_in 0 (view b)) (λ s. none-mapped (Put n s) (numbers_in (view c)) (λ v. refl))))
    (none-then (λ n. option_and_then (λ s. option_map (Get n s) (size_in 1 (view c))) (size_in 0 (view b))) (name_in (view a))
    (λ n. none-then (λ s. option_map (Get n s) (size_in 1 (view c))) (size_in 0 (view b)) (λ s. none-mapped (Get n s) (size_in 1 (view c)) (λ l. refl))))
no_checkpoint (a ∷ b ∷ c ∷ d ∷ e ∷ vs) one = refl
