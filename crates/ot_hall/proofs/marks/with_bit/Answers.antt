use Rattle.std.proofs.Common.{◌==◌, sym, ap, ◌∙◌, w64}
use Rattle.std.proofs.lemmas.Nat.Bits.{bit_at_set_same, bit_at_set_other, bit_at_clear_same, bit_at_clear_other}
use Rattle.ot_hall.proofs.marks.with_bit.Goals as goal

pub returns-then-is_set-clause-here : goal.returns-then-is_set-clause-here
returns-then-is_set-clause-here c = ap (λ b. b == 1) (bit_at_set_same w64 _ _ c.requires) ∙ sym c.if-is_set.true

pub returns-then-is_set-clause-others : goal.returns-then-is_set-clause-others
returns-then-is_set-clause-others c i low apart = ap (λ b. b == 1) (bit_at_set_other w64 _ _ c.requires i apart)

pub returns-else-is_set-clause-here : goal.returns-else-is_set-clause-here
returns-else-is_set-clause-here c = ap (λ b. b == 1) (bit_at_clear_same w64 _ _ c.requires) ∙ sym c.if-is_set.false

pub returns-else-is_set-clause-others : goal.returns-else-is_set-clause-others
returns-else-is_set-clause-others c i low apart = ap (λ b. b == 1) (bit_at_clear_other w64 _ _ c.requires i low apart)
