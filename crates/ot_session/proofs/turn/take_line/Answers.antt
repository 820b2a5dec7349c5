use Rattle.std.proofs.Common.{refl, sym, ap, ◌∙◌, subst, le_refl, arith}
use Rattle.std.specs.Io.KnownBytes.{Appends}
use Rattle.ot_book.specs.Books.{next_number}
use Rattle.ot_session.specs.Serving.{AppendsFront}
use Rattle.ot_session.proofs.ToldLemmas.{some-taken, next-taken}
use Rattle.ot_session.proofs.SessionLemmas.{stops_bye, stops_memory, offered_full, offered_full_cut, offered_taken, offered_closed, offered_stranger}
use Rattle.ot_session.proofs.turn.take_line.Goals as goal

pub returns-then-is_bye : goal.returns-then-is_bye
returns-then-is_bye g c = record {
  goes = λ first start bytes closed going. stops_bye going (sym c.is_bye.ensures ∙ c.if-is_bye.true);
  grows = le_refl _;
  failures = refl;
}

pub returns-in-Err-Memory : goal.returns-in-Err-Memory
returns-in-Err-Memory g c = record {
  goes = λ first start bytes closed going.
      stops_memory c.answer.new.book going (sym c.is_bye.ensures ∙ c.if-is_bye.false) c.in-Err-Memory.ensures.unlogged;
  grows = omega (arith, ap next_number c.in-Err-Memory.ensures.unlogged);
  failures = refl;
}

pub returns-in-Err-Closed : goal.returns-in-Err-Closed
returns-in-Err-Closed g c = record {
  goes = λ first start bytes closed going.
      offered_closed c.answer.new.book going (sym c.is_bye.ensures ∙ c.if-is_bye.false) c.in-Err-Closed.ensures.unlogged (c.in-Err-Closed.ensures.runs (λ same. cc));
  grows = omega (arith, ap next_number c.in-Err-Closed.ensures.unlogged);
  failures = refl;
}

pub returns-in-Err-Stranger : goal.returns-in-Err-Stranger
returns-in-Err-Stranger g c = record {
  goes = λ first start bytes closed going.
      offered_stranger c.answer.new.book going (sym c.is_bye.ensures ∙ c.if-is_bye.false) c.in-Err-Stranger.ensures.unlogged (c.in-Err-Stranger.ensures.runs (λ same. cc));
  grows = omega (arith, ap next_number c.in-Err-Stranger.ensures.unlogged);
  failures = refl;
}

pub returns-in-Ok-write_whole : goal.returns-in-Ok-write_whole
returns-in-Ok-write_whole g c = record {
  goes = λ first start bytes closed going.
      offered_full c.answer.new.book _ c.in-Ok.took going closed (sym c.is_bye.ensures ∙ c.if-is_bye.false) c.in-Ok.ensures.takes c.if-took.false
      (subst (Appends _ _) c.as_slice.ensures c.in-Ok-write_whole.ensures.ok.bytes_out);
  grows = next-taken _ _ _ _ c.in-Ok.ensures.takes;
  failures = c.in-Ok-write_whole.ensures.ok.worked;
}

pub returns-in-Err : goal.returns-in-Err
returns-in-Err g c = record {
  goes = λ first start bytes closed going.
      offered_full_cut c.answer.new.book _ c.in-Ok.took going closed (sym c.is_bye.ensures ∙ c.if-is_bye.false) c.in-Ok.ensures.takes c.if-took.false
      (subst (AppendsFront _ _) c.as_slice.ensures c.in-Err.ensures.err.front);
  grows = next-taken _ _ _ _ c.in-Ok.ensures.takes;
  failures = c.in-Err.ensures.err.failed;
}

pub write_last-requires : goal.write_last-requires
write_last-requires g c = some-taken c.args.book.now c.answer.new.book c.args.line.now c.in-Ok.took c.in-Ok.ensures.takes c.if-took.true

pub returns-then-took : goal.returns-then-took
returns-then-took g c = record {
  goes = λ first start bytes closed going.
      offered_taken c.answer.new.book _ c.in-Ok.took c.write_last.result going (sym c.is_bye.ensures ∙ c.if-is_bye.false) c.in-Ok.ensures.takes c.if-took.true
      c.write_last.ensures.written c.write_last.ensures.cut c.write_last.ensures.stops;
  grows = next-taken _ _ _ _ c.in-Ok.ensures.takes;
  failures = c.write_last.ensures.failures;
}
