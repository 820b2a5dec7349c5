use Rattle.std.proofs.Common.{◌↔◌, sym, subst, Contains}
use Rattle.ot_owner.specs.Owning.{IsNamed}
use Rattle.ot_owner.proofs.room.Room.of.Goals as goal

pub returns : goal.returns
returns c = λ k. subst (λ us. IsNamed us k ↔ Contains c.args.cells.now k) (sym c.new.ensures) (c.in_ok-named.ensures.named k)
