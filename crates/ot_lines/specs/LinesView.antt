-- What the fields of `Lines` stand for.
use Rattle.std.specs.Prelude.{length, take, slice_range}
use Rattle.ot_lines.specs.Lines.{Hearing}
use Rattle.ot_lines.specs.declared.lines.Lines.TheInside.{Inside}

abbrev pub hearing_of : Inside → Hearing
hearing_of l = record {
  line = l.line.items;
  since = take l.from l.room.items;
  ahead = slice_range l.room.items l.from l.to;
  left = l.left;
  longest = l.longest;
  most = length l.room.items;
}
