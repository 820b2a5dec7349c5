use Rattle.std.proofs.Common.{inr, rules}
use Rattle.ot_client_ask.proofs.greeting.greet.Goals as goal

pub returns-then-eq-2 : goal.returns-then-eq-2
returns-then-eq-2 g c =
    inr (record { named = search rules; sends = search rules; hears = search rules })
