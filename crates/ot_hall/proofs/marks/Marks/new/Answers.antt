use Rattle.std.proofs.Common.{◌≡◌, replicate, rules}
use Rattle.std.specs.Int.{div_ceil}
use Rattle.ot_hall.proofs.MarkLemmas.{none-set}
use Rattle.ot_hall.proofs.marks.Marks.new.Goals as goal

pub returns : goal.returns
returns c =
    let zeros : c.in_ok-words.words.items ≡ replicate (div_ceil c.args.count 64) 0 = search rules in
    rw zeros (none-set _ _)
