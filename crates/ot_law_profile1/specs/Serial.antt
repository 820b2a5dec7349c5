-- The serial meaning of a body, each task executed where it is created: the definition as it was before the second profile.
use Rattle.std.specs.Prelude.{◌+◌, ◌%◌, ◌^◌}
use Rattle.ot_model.specs.Cells.{cell_of}
use Rattle.ot_model.specs.Tree.{val}
use Rattle.ot_model.specs.Serial.{State, bump, change, either}
use Rattle.ot_law_profile1.specs.Tree.{S1, Set1, Add1, If1, Task1, Wait1, Group1, Body1, End1, Next1}

-- Each executed statement is one unit, each executed task statement one task. Waits and groups
-- order tasks alone, so here they change no cell (OpenMP API 5.2, sections 12.5, 15.4, 15.5, 15.9.5).
abbrev mutual
  pub serial_one1 : S1 → State → State
  serial_one1 (Set1 c e) s = bump 0 1 (change s c (λ _. val (cell_of s.cells) e))
  serial_one1 (Add1 c e) s = bump 0 1 (change s c (λ n. (n + val (cell_of s.cells) e) % 2 ^ 64))
  serial_one1 (If1 e a b) s = either (val (cell_of s.cells) e) (serial1 a (bump 0 1 s)) (serial1 b (bump 0 1 s))
  serial_one1 (Task1 d b) s = serial1 b (bump 1 1 s)
  serial_one1 Wait1 s = bump 0 1 s
  serial_one1 (Group1 cs b) s = serial1 b (bump 0 1 s)

  pub serial1 : Body1 → State → State
  serial1 End1 s = s
  serial1 (Next1 x rest) s = serial1 rest (serial_one1 x s)
