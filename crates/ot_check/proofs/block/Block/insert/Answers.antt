use Rattle.ot_check.proofs.BlockLemmas.{insert-reads, insert-writes, insert-folds, by-block}
use Rattle.ot_check.proofs.block.Block.insert.Goals as goal

pub returns-in-Reads : goal.returns-in-Reads
returns-in-Reads c = λ test. insert-reads test c.args.self.now c.args.user c.requires.place c.in-Reads.is

pub returns-in-Writes : goal.returns-in-Writes
returns-in-Writes c = λ test. insert-writes test c.args.self.now c.args.user c.requires.place c.in-Writes.is

pub returns-in-Folds : goal.returns-in-Folds
returns-in-Folds c = λ test.
    insert-folds test c.args.self.now c.args.user c.requires.place
    (by-block c.args.self.now.operation c.in-Folds.field-0 c.args.user.mode c.in-Folds.is c.requires.by)
