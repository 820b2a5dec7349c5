use Rattle.std.proofs.Common.{◌≡◌, ℕ, List, ◌+◌, ◌++◌, ◌≤◌, take}
use Rattle.ot_file_text.specs.Positions.{position_behind}
use Rattle.ot_file_text.proofs.position.Position.behind.Given as goal

abbrev pub invariant-loop-byte : goal.invariant-loop-byte
invariant-loop-byte l = record {
  behind : (before : List ℕ) → l.fn.self ≡ position_behind before → l.position ≡ position_behind (before ++ take l.byte-index l.bytes);
  line : l.position.line ≤ l.fn.self.line + l.byte-index;
  column : l.position.column ≤ l.fn.self.column + l.byte-index;
}
