use Rattle.std.proofs.Common.{◌≡◌, ℕ, length}
use Rattle.ot_show_graph.specs.Written.{row_on_shelf}
use Rattle.ot_show_graph.proofs.rows.Shelf.reach.Given as goal

abbrev pub invariant-loop : goal.invariant-loop
invariant-loop l = (length l.self.pages.items ≡ l.counter) × ((i : ℕ) → row_on_shelf l.self i ≡ row_on_shelf l.fn.self i)
