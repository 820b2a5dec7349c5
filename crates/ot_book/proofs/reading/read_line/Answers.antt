use Rattle.std.proofs.Common.{◌≡◌, true, sym}
use Rattle.ot_book.proofs.LineLemmas.{value_of-text, value_of-none}
use Rattle.ot_book.proofs.reading.read_line.Goals as goal

pub returns-in-Ok : goal.returns-in-Ok
returns-in-Ok c = sym (value_of-text _ _ c.in-Ok.ensures.ok.0 c.in-Ok.ensures.ok.1)

pub returns-else-is_memory : goal.returns-else-is_memory
returns-else-is_memory c =
    sym (value_of-none _ (c.in-Err.ensures.err (λ memory. let yes : c.is_memory.result ≡ true = c.is_memory.ensures.1 memory in cc)))
