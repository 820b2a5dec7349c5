use Rattle.std.proofs.Common.{◌∙◌, ◌++◌, sym, ap}
use Rattle.std.proofs.lemmas.Result.{on_ok_weaker}
use Rattle.ot_race.proofs.LaneLemmas.{first_seen, other_seen}
use Rattle.ot_race.proofs.lanes.Lane.list.Goals as goal

pub returns-then-is_of : goal.returns-then-is_of
returns-then-is_of c =
    on_ok_weaker c.list.result
    (λ e. e ∙ ap (λ l. c.args.listed.now.items ++ l) (sym (first_seen c.args.self.now c.args.parent c.args.mode (sym c.is_of.ensures ∙ c.if-is_of.true))))
    c.list.ensures

pub returns-else-is_of : goal.returns-else-is_of
returns-else-is_of c =
    on_ok_weaker c.list_other.result
    (λ e. e ∙ ap (λ l. c.args.listed.now.items ++ l) (sym (other_seen c.args.self.now c.args.parent c.args.mode (sym c.is_of.ensures ∙ c.if-is_of.false))))
    c.list_other.ensures
