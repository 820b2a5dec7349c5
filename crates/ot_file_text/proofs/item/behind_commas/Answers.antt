use Rattle.std.proofs.Common.{◌+◌, drop, Some, option_map, ap, sym, ◌∙◌, add-zero}
use Rattle.ot_file_text.specs.Items.{behind_commas}
use Rattle.ot_file_text.proofs.ScanLemmas.{no_commas}
use Rattle.ot_file_text.proofs.item.behind_commas.Goals as goal

-- no comma is left
pub returns-then-left-eq0-clause-count : goal.returns-then-left-eq0-clause-count
returns-then-left-eq0-clause-count c =
    sym (ap Some (add-zero c.loop-index.index))
    ∙ sym (ap (option_map (λ n. c.loop-index.index + n)) (ap (λ left. behind_commas left c.loop-index.nesting (drop c.loop-index.index c.args.items.now)) c.if-left-eq0.true ∙ no_commas c.loop-index.nesting _))
    ∙ c.loop-index.invariant.count
