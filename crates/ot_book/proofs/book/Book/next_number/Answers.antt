use Rattle.std.proofs.Common.{arith}
use Rattle.ot_book.proofs.book.Book.next_number.Goals as goal

pub number_at-requires : goal.number_at-requires
number_at-requires c = omega (arith, c.len.ensures, c.self.inside.log.ok, c.self.inside.log.small)
