use Rattle.std.proofs.Common.{◌≡◌, map}
use Rattle.std.specs.Prelude.{All}
use Rattle.ot_core.specs.Accounts.{IsSoundAccount}
use Rattle.ot_core.specs.Openings.{opening_of}
use Rattle.ot_core.proofs.world.open_books.Given as goal

abbrev pub invariant-loop-name : goal.invariant-loop-name
invariant-loop-name l = (l.tenants.items ≡ map opening_of l.yielded) × All IsSoundAccount l.tenants.items
