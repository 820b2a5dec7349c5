use Rattle.std.proofs.Common.{◌≡◌, ◌≤◌, length, ap, ◌∙◌, arith}
use Rattle.std.specs.Prelude.{slice_range}
use Rattle.ot_file_text.specs.Cuts.{piece_from}
use Rattle.ot_file_judge.specs.Judging.{line_of}
use Rattle.ot_file_judge.proofs.GoingLemmas.{written}
use Rattle.ot_file_judge.proofs.lines.lines_of.Goals as goal

pub loop-piece-preserved : goal.loop-piece-preserved
loop-piece-preserved c =
    let same : length c.as_slice.result.now ≡ length c.in_ok-blank.blank.items = ap length c.as_slice.ensures.value in
    let within : c.in-Some.piece.end ≤ length c.in_ok-blank.blank.items = omega (arith, same, c.in-Some.ensures.within.2) in
    record {
      writing =
          written c.in-Some.piece c.loop-piece.invariant.writing
          (c.in-Some.ensures.piece ∙ ap (λ b. piece_from b c.loop-piece.from) c.as_slice.ensures.value)
          (omega (arith, c.in-Some.ensures.within.0, c.in-Some.ensures.within.1)) within
          (c.as_slice-in-Some.ensures.value ∙ c.in_ok-line.ensures ∙ ap (λ b. line_of (slice_range b c.in-Some.piece.start c.in-Some.piece.end)) c.deref.ensures.value)
          c.in_ok-put_line.ensures;
      within = within;
    }
