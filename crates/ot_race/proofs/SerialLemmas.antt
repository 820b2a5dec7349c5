-- The way of a run is that of the serial meaning.
use Rattle.std.proofs.Common.{◌≡◌, refl, ap, ◌∙◌}
use Rattle.ot_model.specs.Tree.{S, Set, Fold, If, Task, Wait, Group, Body, End, Next, val}
use Rattle.ot_model.specs.Cells.{cell_of}
use Rattle.ot_model.specs.Serial.{State, bump, either, serial, serial_one}
use Rattle.ot_race.specs.Events.{this_way, after, after_one}

mutual
  pub after_one-this : (x : S) (s : State) → after_one this_way x s ≡ serial_one x s
  after_one-this (Set c e) s = refl
  after_one-this (Fold o c e) s = refl
  after_one-this (If e a b) s =
      let n = val (cell_of s.cells) e in
      ap (λ t. either n t (after this_way b (bump 0 1 s))) (after-this a (bump 0 1 s))
      ∙ ap (either n (serial a (bump 0 1 s))) (after-this b (bump 0 1 s))
  after_one-this (Task d b) s = after-this b (bump 1 1 s)
  after_one-this (Wait w) s = refl
  after_one-this (Group o cs b) s = after-this b (bump 0 1 s)

  pub after-this : (b : Body) (s : State) → after this_way b s ≡ serial b s
  after-this End s = refl
  after-this (Next x rest) s = ap (after this_way rest) (after_one-this x s) ∙ after-this rest (serial_one x s)
