use Rattle.std.proofs.Common.{◌≡◌, ◌+◌, ◌≤◌, length, drop, option_map}
use Rattle.ot_file_text.specs.Items.{offset_of}
use Rattle.ot_file_text.proofs.item.offset_of.Given as goal

abbrev pub invariant-loop-index : goal.invariant-loop-index
invariant-loop-index l = record {
  offset : option_map (λ further. l.offset + further) (offset_of (drop l.offset l.piece) (drop l.index-index l.path)) ≡ offset_of l.piece l.path;
  within : l.offset ≤ length l.piece;
}
