use Rattle.std.proofs.Common.{[], sym, ◌∙◌, arith}
use Rattle.std.specs.Prelude.{option_map}
use Rattle.serde_json.specs.View.{view}
use Rattle.ot_file_judge.proofs.GoingLemmas.{at_end, at_goodbye, at_long, at_full, at_last, at_refused, at_taken}
use Rattle.ot_file_judge.proofs.findings.next_in.Goals as goal

pub returns-then-is_goodbye-clause-next : goal.returns-then-is_goodbye-clause-next
returns-then-is_goodbye-clause-next c = λ all goes.
    at_goodbye c.in-Some.piece (c.loop-piece.invariant.goes all goes) c.in-Some.ensures.piece
    (omega (arith, c.in-Some.ensures.within.0, c.in-Some.ensures.within.1)) c.in-Some.ensures.within.2
    (c.as_slice-line.ensures.value ∙ c.in_ok-bytes.ensures) (sym c.is_goodbye.ensures ∙ c.if-is_goodbye.true)

pub returns-then-is_long-clause-next : goal.returns-then-is_long-clause-next
returns-then-is_long-clause-next c = λ all goes. (
  [],
  at_long c.in-Some.piece (c.loop-piece.invariant.goes all goes) c.in-Some.ensures.piece
      (omega (arith, c.in-Some.ensures.within.0, c.in-Some.ensures.within.1)) c.in-Some.ensures.within.2
      (c.as_slice-line.ensures.value ∙ c.in_ok-bytes.ensures)
      (sym c.is_goodbye.ensures ∙ c.if-is_goodbye.false)
      (sym c.is_long.ensures ∙ c.if-is_long.true),
  at_last _ _ _ (omega arith),
)

pub returns-then-is_full-clause-next : goal.returns-then-is_full-clause-next
returns-then-is_full-clause-next c = λ all goes. (
  [],
  at_full c.in-Some.piece c.in_ok-verdict.verdict (c.loop-piece.invariant.goes all goes) c.in-Some.ensures.piece
      (omega (arith, c.in-Some.ensures.within.0, c.in-Some.ensures.within.1)) c.in-Some.ensures.within.2
      (c.as_slice-line.ensures.value ∙ c.in_ok-bytes.ensures)
      (sym c.is_goodbye.ensures ∙ c.if-is_goodbye.false) (sym c.is_long.ensures ∙ c.if-is_long.false)
      c.in_ok-verdict.ensures.verdict (sym c.is_full.ensures ∙ c.if-is_full.true),
  at_last _ _ _ (omega arith),
)

pub returns-then-not-is_taken-clause-next : goal.returns-then-not-is_taken-clause-next
returns-then-not-is_taken-clause-next c = λ all goes.
    at_refused c.in-Some.piece c.in_ok-verdict.verdict c.judge_line.new.book (option_map view c.in_ok-request.request) (c.loop-piece.invariant.goes all goes) c.in-Some.ensures.piece
    (omega (arith, c.in-Some.ensures.within.0, c.in-Some.ensures.within.1)) c.in-Some.ensures.within.2
    (c.as_slice-line.ensures.value ∙ c.in_ok-bytes.ensures)
    (sym c.is_goodbye.ensures ∙ c.if-is_goodbye.false) (sym c.is_long.ensures ∙ c.if-is_long.false)
    c.in_ok-verdict.ensures.verdict (sym c.is_full.ensures ∙ c.if-is_full.false) (sym c.is_taken.ensures ∙ c.if-not-is_taken.true)
    (c.in_ok-verdict.ensures.passed (sym c.is_full.ensures ∙ c.if-is_full.false)) c.in_ok-request.ensures

pub loop-piece-preserved : goal.loop-piece-preserved
loop-piece-preserved c = record {
  goes = λ all goes.
      at_taken c.in-Some.piece c.in_ok-verdict.verdict c.judge_line.new.book (c.loop-piece.invariant.goes all goes) c.in-Some.ensures.piece
      (omega (arith, c.in-Some.ensures.within.0, c.in-Some.ensures.within.1)) c.in-Some.ensures.within.2
      (c.as_slice-line.ensures.value ∙ c.in_ok-bytes.ensures)
      (sym c.is_goodbye.ensures ∙ c.if-is_goodbye.false) (sym c.is_long.ensures ∙ c.if-is_long.false)
      c.in_ok-verdict.ensures.verdict (sym c.is_taken.ensures ∙ c.if-not-is_taken.false)
      (c.in_ok-verdict.ensures.passed (sym c.is_full.ensures ∙ c.if-is_full.false));
  within = c.in-Some.ensures.within.2;
  past = omega (arith, c.loop-piece.invariant.past, c.in-Some.ensures.within.0, c.in-Some.ensures.within.1);
  closed = c.in_ok-verdict.ensures.closed;
}

pub returns-clause-next : goal.returns-clause-next
returns-clause-next c = λ all goes. at_end (c.loop-piece.invariant.goes all goes) c.in_default.ensures.piece
