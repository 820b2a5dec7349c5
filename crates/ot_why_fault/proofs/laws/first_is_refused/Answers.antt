use Rattle.ot_why_fault.proofs.LawLemmas.{first_is}
use Rattle.ot_why_fault.proofs.laws.first_is_refused.Goals as goal

pub returns : goal.returns
returns c shape run program small = first_is shape run program small
