use Rattle.std.proofs.Common.{refl, inl, inr}
use Rattle.ot_client_ask.proofs.asking.ask.Goals as goal

-- the greeting gave no session
pub returns-in-Err : goal.returns-in-Err
returns-in-Err g c = inr (c.in-Err.fault, refl, c.in-Err.ensures, refl, refl, c.new.ensures)

pub returns : goal.returns
returns g c = inl (_, c.in_default.ensures, c.converse.ensures)
