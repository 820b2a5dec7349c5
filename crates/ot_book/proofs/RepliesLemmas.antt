-- The tokens of a reply's lists at their end.
use Rattle.std.proofs.Common.{◌≡◌, List, [], ◌∷◌, ◌++◌, refl, sym, ap, ◌∙◌, append_assoc}
use Rattle.std.specs.Prelude.{Result, Ok, Err, OnOk}
use Rattle.json.specs.Token.{Token, begin_array, end_array}
use Rattle.json.specs.Tree.{items_tokens}
use Rattle.serde_json.specs.Data.{Data, array}
use Rattle.serde_json.specs.View.{items_of}
use Rattle.serde_json.specs.Written.{items_outline}
use Rattle.ot_book.specs.Pieces.{tokens_of, tokens_of_all}

items-all : (ds : List Data) → items_tokens (items_outline (items_of ds)) ≡ tokens_of_all ds ++ end_array ∷ []
items-all [] = refl
items-all (d ∷ ds) = ap (λ ts. tokens_of d ++ ts) (items-all ds) ∙ sym (append_assoc (tokens_of d) (tokens_of_all ds) (end_array ∷ []))

-- the end of an array was written behind all its values
pub written-end : (base now new : List Token) (ds : List Data) → now ≡ base ++ (begin_array ∷ tokens_of_all ds) → new ≡ now ++ end_array ∷ [] →
    new ≡ base ++ tokens_of (array (items_of ds))
written-end base now new ds so_far is =
    is ∙ ap (λ ts. ts ++ end_array ∷ []) so_far ∙ append_assoc base (begin_array ∷ tokens_of_all ds) (end_array ∷ [])
    ∙ ap (λ ts. base ++ (begin_array ∷ ts)) (sym (items-all ds))

-- what follows where a call went well
pub on_ok-map : {A E : Type 0} (r : Result A E) (P Q : Type 0) → (P → Q) → OnOk r P → OnOk r Q
on_ok-map (Ok x) P Q f h = f h
on_ok-map (Err e) P Q f h = h
