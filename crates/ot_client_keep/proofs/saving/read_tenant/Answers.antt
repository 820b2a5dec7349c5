use Rattle.std.proofs.Common.{[], ◌∷◌, ◌+◌, ◌++◌, ap, map}
use Rattle.ot_client_ask.specs.Streams.{link}
use Rattle.ot_client_keep.specs.Arrays.{named_by}
use Rattle.ot_client_keep.specs.Questions.{Question, Checkpoint, Units, arrays_turns}
use Rattle.ot_client_keep.specs.Files.{Reply, Taken, Used}
use Rattle.ot_client_keep.proofs.KeepLemmas.{stops_later, stops_now, talks_append, talks_one, talks_two}
use Rattle.ot_client_keep.proofs.saving.read_tenant.Goals as goal

pub returns-in-Err : goal.returns-in-Err
returns-in-Err g c = stops_now (link (g.H.LineSource.coming c.args.heard.now) (g.W.Sink.draft c.args.wire.now)) (link (g.H.LineSource.coming c.ask_checkpoint.new.heard) (g.W.Sink.draft c.ask_checkpoint.new.wire)) Checkpoint c.in-Err.fault c.in-Err.ensures

pub returns-in-Err-ask_units : goal.returns-in-Err-ask_units
returns-in-Err-ask_units g c =
    let start = link (g.H.LineSource.coming c.args.heard.now) (g.W.Sink.draft c.args.wire.now) in
    let first = link (g.H.LineSource.coming c.ask_checkpoint.new.heard) (g.W.Sink.draft c.ask_checkpoint.new.wire) in
    let new = link (g.H.LineSource.coming c.ask_units.new.heard) (g.W.Sink.draft c.ask_units.new.wire) in
    let turn : Question × Reply = (Checkpoint, Taken c.in_default.field-0) in
    stops_later start first new (turn ∷ []) c.in-Err-ask_units.fault (talks_one start first turn c.in_default.ensures) (stops_now first new Units c.in-Err-ask_units.fault c.in-Err-ask_units.ensures)

pub returns-in-Err-read_arrays : goal.returns-in-Err-read_arrays
returns-in-Err-read_arrays g c =
    let start = link (g.H.LineSource.coming c.args.heard.now) (g.W.Sink.draft c.args.wire.now) in
    let first = link (g.H.LineSource.coming c.ask_checkpoint.new.heard) (g.W.Sink.draft c.ask_checkpoint.new.wire) in
    let second = link (g.H.LineSource.coming c.ask_units.new.heard) (g.W.Sink.draft c.ask_units.new.wire) in
    let new = link (g.H.LineSource.coming c.read_arrays.new.heard) (g.W.Sink.draft c.read_arrays.new.wire) in
    let turn : Question × Reply = (Checkpoint, Taken c.in_default.field-0) in
    let units : Question × Reply = (Units, Used c.in-Ok.used) in
    stops_later start second new (turn ∷ units ∷ []) c.in-Err-read_arrays.fault (talks_two start first second turn units c.in_default.ensures c.in-Ok.ensures) c.in-Err-read_arrays.ensures

pub returns-in-Err-ask_checkpoint : goal.returns-in-Err-ask_checkpoint
returns-in-Err-ask_checkpoint g c =
    let start = link (g.H.LineSource.coming c.args.heard.now) (g.W.Sink.draft c.args.wire.now) in
    let first = link (g.H.LineSource.coming c.ask_checkpoint.new.heard) (g.W.Sink.draft c.ask_checkpoint.new.wire) in
    let second = link (g.H.LineSource.coming c.ask_units.new.heard) (g.W.Sink.draft c.ask_units.new.wire) in
    let third = link (g.H.LineSource.coming c.read_arrays.new.heard) (g.W.Sink.draft c.read_arrays.new.wire) in
    let new = link (g.H.LineSource.coming c.ask_checkpoint-2.new.heard) (g.W.Sink.draft c.ask_checkpoint-2.new.wire) in
    let turn : Question × Reply = (Checkpoint, Taken c.in_default.field-0) in
    let units : Question × Reply = (Units, Used c.in-Ok.used) in
    let arrays = arrays_turns (map named_by c.in-Ok-read_arrays.arrays.items) in
    stops_later start third new ((turn ∷ units ∷ []) ++ arrays) c.in-Err-ask_checkpoint.fault
    (talks_append start second third (turn ∷ units ∷ []) arrays (talks_two start first second turn units c.in_default.ensures c.in-Ok.ensures) c.in-Ok-read_arrays.ensures)
    (stops_now third new Checkpoint c.in-Err-ask_checkpoint.fault c.in-Err-ask_checkpoint.ensures)

pub returns-in-Ok-ask_checkpoint : goal.returns-in-Ok-ask_checkpoint
returns-in-Ok-ask_checkpoint g c =
    let first = link (g.H.LineSource.coming c.ask_checkpoint.new.heard) (g.W.Sink.draft c.ask_checkpoint.new.wire) in
    let second = link (g.H.LineSource.coming c.ask_units.new.heard) (g.W.Sink.draft c.ask_units.new.wire) in
    let third = link (g.H.LineSource.coming c.read_arrays.new.heard) (g.W.Sink.draft c.read_arrays.new.wire) in
    let new = link (g.H.LineSource.coming c.ask_checkpoint-2.new.heard) (g.W.Sink.draft c.ask_checkpoint-2.new.wire) in
    let last : Question × Reply = (Checkpoint, Taken c.in-Ok-ask_checkpoint.last) in
    record {
      first = c.in_default.field-0;
      last = c.in-Ok-ask_checkpoint.last;
      talk = (
        first,
        c.in_default.ensures,
        (
          second,
          c.in-Ok.ensures,
          talks_append second third new (arrays_turns (map named_by c.in-Ok-read_arrays.arrays.items)) (last ∷ [])
              c.in-Ok-read_arrays.ensures (talks_one third new last c.in-Ok-ask_checkpoint.ensures),
        ),
      );
      number = ap (λ n. n + 1) c.from.ensures;
    }
