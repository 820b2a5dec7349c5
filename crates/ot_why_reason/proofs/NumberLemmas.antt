-- Values that are numbers, one after another.
use Rattle.std.proofs.Common.{◌≡◌, ◌∙◌, ℕ, ◌+◌, ◌<◌, List, [], ◌∷◌, ◌++◌, drop, length, get_or, ap}
use Rattle.std.specs.Prelude.{Some}
use Rattle.std.proofs.lemmas.List.{length-append}
use Rattle.serde_json.specs.View.{view, items_view}
use Rattle.serde_json.specs.declared.value.Value.{Value}
use Rattle.ot_book.specs.Requests.{all_numbers, number_in}
use Rattle.ot_book.proofs.RequestLemmas.{with_numbers, numbers-more}

-- the first so many values are these numbers
pub record AreNumbersTo (vs : List Value) (i : ℕ) : Type 0 where
  pub front : List ℕ
  pub many : length front ≡ i
  pub are : all_numbers (items_view vs) ≡ with_numbers front (all_numbers (items_view (drop i vs)))

pub numbers_to_more : (vs : List Value) (i : ℕ) (v : Value) (n : ℕ) → i < length vs → v ≡ get_or vs i v → number_in (view v) ≡ Some n → AreNumbersTo vs i → AreNumbersTo vs (i + 1)
numbers_to_more vs i v n within is found so =
    record { front = so.front ++ n ∷ []; many = length-append so.front (n ∷ []) ∙ ap (λ k. k + 1) so.many; are = so.are ∙ numbers-more vs i v so.front n within is found }
