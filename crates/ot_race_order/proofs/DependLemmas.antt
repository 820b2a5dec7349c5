-- What makes dependences is in order.
use Rattle.std.proofs.Common.{Bool, true, false, List, [], ◌∷◌}
use Rattle.std.specs.Prelude.{cond, not}
use Rattle.ot_model.specs.Cells.{Precedes, AreInOrder, is_fold}
use Rattle.ot_model.specs.declared.expr.Cell.{Cell}
use Rattle.ot_model.specs.declared.stmt.Use.{Use}
use Rattle.ot_model.proofs.OrderLemmas.{precedes_trans, rest_in_order}
use Rattle.ot_race_order.specs.Orders.{depend_of}

-- the first of them is of a later cell
abbrev Ahead : Cell → List Use → Type 0
Ahead c [] = Unit {0}
Ahead c (u ∷ us) = Precedes c u.cell

ahead_in : (u : Use) (us : List Use) → AreInOrder (u ∷ us) → Ahead u.cell us
ahead_in u [] order = tt
ahead_in u (v ∷ us) order = order.0

ahead_of : (c : Cell) (u : Use) (us : List Use) → Precedes c u.cell → Ahead u.cell us → Ahead c us
ahead_of c u [] first next = tt
ahead_of c u (v ∷ us) first next = precedes_trans c u.cell v.cell first next

put_ahead : (u : Use) (us : List Use) → Ahead u.cell us → AreInOrder us → AreInOrder (u ∷ us)
put_ahead u [] ahead order = tt
put_ahead u (v ∷ us) ahead order = (ahead, order)

put_if : (b : Bool) (c : Cell) (u : Use) (us : List Use) → Precedes c u.cell → Ahead u.cell us → AreInOrder us
    → Ahead c (cond b (u ∷ us) us) × AreInOrder (cond b (u ∷ us) us)
put_if true c u us first ahead order = (first, put_ahead u us ahead order)
put_if false c u us first ahead order = (ahead_of c u us first ahead, order)

kept_ahead : (c : Cell) (us : List Use) → Ahead c us → AreInOrder us → Ahead c (depend_of us) × AreInOrder (depend_of us)
kept_ahead c [] ahead order = (tt, tt)
kept_ahead c (u ∷ us) ahead order =
    let rest = kept_ahead u.cell us (ahead_in u us order) (rest_in_order u us order) in
    put_if (not (is_fold u.mode)) c u (depend_of us) ahead rest.0 rest.1

order_if : (b : Bool) (u : Use) (us : List Use) → Ahead u.cell us → AreInOrder us → AreInOrder (cond b (u ∷ us) us)
order_if true u us ahead order = put_ahead u us ahead order
order_if false u us ahead order = order

pub depend_in_order : (us : List Use) → AreInOrder us → AreInOrder (depend_of us)
depend_in_order [] order = tt
depend_in_order (u ∷ us) order =
    let rest = kept_ahead u.cell us (ahead_in u us order) (rest_in_order u us order) in
    order_if (not (is_fold u.mode)) u (depend_of us) rest.0 rest.1
