use Rattle.std.proofs.Common.{◌≡◌, ◌++◌, drop}
use Rattle.std.specs.Prelude.{option_map}
use Rattle.serde_json.specs.View.{items_view}
use Rattle.ot_model.specs.Programs.{arrays_of}
use Rattle.ot_book.specs.Requests.{all_sized}
use Rattle.ot_book.proofs.reading.read_arrays.Given as goal

abbrev pub invariant-loop-item : goal.invariant-loop-item
invariant-loop-item l =
    all_sized l.low (items_view l.items.items) ≡ option_map (λ ns. arrays_of l.arrays.items ++ ns) (all_sized l.low (items_view (drop l.item-index l.items.items)))
