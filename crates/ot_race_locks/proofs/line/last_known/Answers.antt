use Rattle.std.proofs.Common.{sym, ◌∙◌, inl, inr}
use Rattle.ot_race_locks.proofs.GroupLemmas.{kind_is}
use Rattle.ot_race_locks.proofs.line.last_known.Goals as goal

pub returns-then-is_of : goal.returns-then-is_of
returns-then-is_of c =
    let g = c.group-item.result in
    elim c.newest.ensures [
      | inl none ↦ inl none
      | inr got ↦
          inr (g, (c.loop-group.group-index, c.loop-group-test.true, sym c.group-item.is), kind_is g c.args.set c.args.mode (sym c.is_of.ensures ∙ c.if-is_of.true), got.0, got.1)
    ]
