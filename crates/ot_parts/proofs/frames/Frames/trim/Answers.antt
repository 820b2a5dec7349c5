use Rattle.std.proofs.Common.{rules, ◌∙◌}
use Rattle.ot_parts.proofs.FrameLemmas.{advanced}
use Rattle.ot_parts.proofs.frames.Frames.trim.Goals as goal

pub loop-self-preserved : goal.loop-self-preserved
loop-self-preserved c =
    advanced c.args.passed c.loop-self.self c.advance.new.self (c.is_trim.ensures.not (search rules)) c.advance.ensures.past c.advance.ensures.out ∙ c.loop-self.invariant
