use Rattle.std.proofs.Common.{ap, sym, ◌∙◌}
use Rattle.ot_check.specs.walk.Rows.{is_against, is_by}
use Rattle.ot_check.proofs.ClashLemmas.{against-reads, against-writes, against-same, against-other}
use Rattle.ot_check.proofs.block.Block.against.Goals as goal

pub returns-in-Reads : goal.returns-in-Reads
returns-in-Reads c = λ j. against-reads c.args.self.now j ∙ ap (λ mode. is_against c.args.self.now mode j) (sym c.in-Reads.is)

pub returns-in-Writes : goal.returns-in-Writes
returns-in-Writes c = λ j. against-writes c.args.self.now j ∙ ap (λ mode. is_against c.args.self.now mode j) (sym c.in-Writes.is)

pub returns-then-takes : goal.returns-then-takes
returns-then-takes c = λ j.
    against-same c.args.self.now j c.in-Folds.field-0 (ap (is_by c.args.self.now.operation) (sym c.in-Folds.is) ∙ sym c.takes.ensures ∙ c.if-takes.true)
    ∙ ap (λ mode. is_against c.args.self.now mode j) (sym c.in-Folds.is)

pub returns-else-takes : goal.returns-else-takes
returns-else-takes c = λ j.
    against-other c.args.self.now j c.in-Folds.field-0 (ap (is_by c.args.self.now.operation) (sym c.in-Folds.is) ∙ sym c.takes.ensures ∙ c.if-takes.false)
    ∙ ap (λ mode. is_against c.args.self.now mode j) (sym c.in-Folds.is)
