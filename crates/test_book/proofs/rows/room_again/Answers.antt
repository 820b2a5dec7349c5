use Rattle.std.proofs.Common.{◌↔◌, ◌∷◌, [], subst, IfOk, Contains}
use Rattle.ot_model.specs.declared.expr.Cell.{Cell}
use Rattle.ot_owner.specs.Owning.{IsNamed}
use Rattle.test_book.proofs.rows.room_again.Goals as goal

pub returns-in-Ok-clause-names : goal.returns-in-Ok-clause-names
returns-in-Ok-clause-names c = subst (λ (x : Cell). (d : Cell) → IsNamed c.in-Ok.room d ↔ Contains (x ∷ []) d) c.cell.ensures c.in-Ok.ensures.names

pub returns-in-Err-clause-names : goal.returns-in-Err-clause-names
returns-in-Err-clause-names c = subst (λ (x : Cell). IfOk c.room-in-Err.result (λ room. (d : Cell) → IsNamed room d ↔ Contains (x ∷ []) d)) c.cell.ensures c.room-in-Err.ensures.names
