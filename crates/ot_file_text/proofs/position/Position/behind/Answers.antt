use Rattle.std.proofs.Common.{◌++◌, get_or, ap, sym, ◌∙◌, arith}
use Rattle.std.proofs.lemmas.List.{take_all}
use Rattle.ot_file_text.specs.Positions.{position_after, position_behind}
use Rattle.ot_file_text.specs.declared.position.Position.{Position}
use Rattle.ot_file_text.proofs.PositionLemmas.{behind_byte, line_after, column_after}
use Rattle.ot_file_text.proofs.position.Position.behind.Goals as goal

pub loop-byte-preserved : goal.loop-byte-preserved
loop-byte-preserved c =
    let byte = get_or c.args.bytes.now c.loop-byte.byte-index 0 in record {
      behind = λ before is.
          c.after-position.ensures
          ∙ ap (λ p. position_after p byte) (c.loop-byte.invariant.behind before is)
          ∙ sym (behind_byte before c.args.bytes.now c.loop-byte.byte-index c.loop-byte-test.true);
      line = omega (arith, line_after c.loop-byte.position byte, ap (λ (p : Position). p.line) c.after-position.ensures);
      column = omega (arith, column_after c.loop-byte.position byte, ap (λ (p : Position). p.column) c.after-position.ensures);
    }

pub returns : goal.returns
returns c = record {
  behind = λ before is.
      c.loop-byte.invariant.behind before is
      ∙ ap (λ bytes. position_behind (before ++ bytes)) (take_all c.loop-byte.byte-index c.args.bytes.now c.loop-byte-test.false);
}
