use Rattle.std.proofs.Common.{◌≡◌, true}
use Rattle.ot_book.proofs.LineLemmas.{value_of-text, value_of-none}
use Rattle.ot_front.proofs.greeting.read_line.Goals as goal

pub returns-in-Ok-clause-ok : goal.returns-in-Ok-clause-ok
returns-in-Ok-clause-ok c = value_of-text _ _ c.in-Ok.ensures.ok.0 c.in-Ok.ensures.ok.1

pub returns-else-is_memory-clause-refused : goal.returns-else-is_memory-clause-refused
returns-else-is_memory-clause-refused c = λ why is. (
  cc,
  value_of-none _ (c.in-Err.ensures.err (λ memory. let yes : c.is_memory.result ≡ true = c.is_memory.ensures.1 memory in cc)),
)
