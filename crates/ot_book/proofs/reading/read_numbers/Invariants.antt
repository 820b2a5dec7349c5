use Rattle.std.proofs.Common.{◌≡◌, ◌++◌, drop}
use Rattle.std.specs.Prelude.{option_map}
use Rattle.serde_json.specs.View.{items_view}
use Rattle.ot_book.specs.Requests.{all_numbers}
use Rattle.ot_book.proofs.reading.read_numbers.Given as goal

abbrev pub invariant-loop-item : goal.invariant-loop-item
invariant-loop-item l =
    all_numbers (items_view l.items.items) ≡ option_map (λ ns. l.numbers.items ++ ns) (all_numbers (items_view (drop l.item-index l.items.items)))
