use Rattle.ot_program.proofs.Seen.{array_seen}
use Rattle.ot_why_mixed.proofs.mixed.mixed_in.Goals as goal

pub returns-in-Array : goal.returns-in-Array
returns-in-Array c shape profile arrays =
    rw (array_seen _ _ _ c.in-Array.is c.deref.ensures.value) (c.mixed_among.ensures shape profile arrays)
