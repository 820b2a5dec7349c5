use Rattle.std.proofs.Common.{ap}
use Rattle.ot_lines.specs.Lines.{next_count}
use Rattle.ot_client_ask.proofs.StreamLemmas.{gives_line, gives_none, gives_piece, gives_rest}
use Rattle.ot_client_ask.proofs.stream.LinesOfLineSource.read_line.Goals as goal

pub returns-in-Ok-Line : goal.returns-in-Ok-Line
returns-in-Ok-Line g c =
    let so_far = c.loop.invariant in
    let given = gives_line _ _ _ _ so_far.0 so_far.1 c.reserve.ensures.items (rw c.in-Ok-Line.field-0-is at c.in-Ok-Line.ensures.hears)
    (rw c.in-Ok-Line.field-0-is at c.in-Ok-Line.ensures.put) in
    record { bytes = given.0; whole = given.1; untold = so_far.2; worked = so_far.3 }

pub returns-in-Ok-End : goal.returns-in-Ok-End
returns-in-Ok-End g c =
    let so_far = c.loop.invariant in
    let given = gives_rest _ _ _ _ so_far.0 so_far.1 c.reserve.ensures.items (rw c.in-Ok-End.field-0-is at c.in-Ok-End.ensures.hears)
    (rw c.in-Ok-End.field-0-is at c.in-Ok-End.ensures.put) in
    record {
      bytes = given.0;
      open_line = given.1;
      ended = record { told = ap next_count so_far.2; worked = so_far.3; none_left = given.2 };
    }

pub loop-preserved : goal.loop-preserved
loop-preserved g c =
    let so_far = c.loop.invariant in
    let given = gives_piece _ _ _ _ so_far.0 so_far.1 c.reserve.ensures.items (rw c.in-Ok-Long.field-0-is at c.in-Ok-Long.ensures.hears)
    (rw c.in-Ok-Long.field-0-is at c.in-Ok-Long.ensures.put) in
    (given.0, given.1, so_far.2, so_far.3)

pub returns-in-Err : goal.returns-in-Err
returns-in-Err g c =
    let so_far = c.loop.invariant in (
      gives_none _ _ _ _ _ so_far.0 c.reserve.ensures.items c.in-Err.ensures.hears c.in-Err.ensures.put,
      record { untold = so_far.2; failed = ap next_count so_far.3 },
    )
