use Rattle.std.proofs.Common.{◌≡◌, ℕ, length}
use Rattle.ot_show_graph.specs.Written.{entry_on}
use Rattle.ot_show_graph.proofs.rows.Page.reach.Given as goal

abbrev pub invariant-loop : goal.invariant-loop
invariant-loop l = (length l.self.rows.items ≡ l.counter) × ((k : ℕ) → entry_on l.self k ≡ entry_on l.fn.self k)
