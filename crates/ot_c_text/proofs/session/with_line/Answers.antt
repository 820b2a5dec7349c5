use Rattle.std.proofs.Common.{ap, ◌∙◌}
use Rattle.ot_c_text.specs.Session.{with_end}
use Rattle.ot_c_text.proofs.session.with_line.Goals as goal

pub returns : goal.returns
returns c = (
  with_end c.as_str.result.now,
  (λ plain. ap with_end (c.as_str.ensures.value ∙ c.in_ok-text.ensures.text plain)),
  c.in_ok-put_line.ensures,
)
